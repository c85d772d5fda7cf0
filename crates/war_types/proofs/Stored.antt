-- Stored titles: the zeros after a title, and the index at which a title ends.
use Rattle.std.proofs.Common.{◌≡◌, ℕ, ◌<◌, ◌≤◌, ◌+◌, ◌-◌, List, [], ◌∷◌, ◌++◌, length, get_or, take, drop, replicate, All, arith, refl, sym, ap, ◌∙◌, subst}
use Rattle.std.proofs.lemmas.List.{length-append, length-replicate, length-take, get_or-take, get_or-append_right, get_or-replicate, take_at, drop_at}
use Rattle.{std.proofs.lemmas.List.Elements.{All-head, All-tail, All-replicate, All-same, All-get_or}, war_types.specs.Title.{stored_title, IsPrintable, IsTitle}}

-- bytes are zeros if each of them is one
pub zeros_from_All : (xs : List ℕ) → All (λ x. x ≡ 0) xs → xs ≡ replicate (length xs) 0
zeros_from_All [] h = refl
zeros_from_All (x ∷ xs) h =
    let first : x ≡ 0 = All-head (λ y. y ≡ 0) x xs h in
    let rest : xs ≡ replicate (length xs) 0 = zeros_from_All xs (All-tail (λ y. y ≡ 0) x xs h) in
    ap (λ y. y ∷ xs) first ∙ ap (λ ys. 0 ∷ ys) rest

pub All-zeros : (xs : List ℕ) → xs ≡ replicate (length xs) 0 → All (λ x. x ≡ 0) xs
All-zeros xs h = All-same (λ x. x ≡ 0) xs (replicate (length xs) 0) h (All-replicate (λ x. x ≡ 0) (length xs) 0 refl)

-- before a title's end each byte can be printed
inside : (title zeros : List ℕ) (len : ℕ) → All IsPrintable title → len < length title → IsPrintable (get_or (title ++ zeros) len 0)
inside title zeros len printable h =
    let own : IsPrintable (get_or title len 0) = All-get_or IsPrintable title len 0 h printable in
    let front : take (length title) (title ++ zeros) ≡ title = take_at title zeros (length title) refl in
    let same : get_or title len 0 ≡ get_or (title ++ zeros) len 0 = ap (λ xs. get_or xs len 0) (sym front) ∙ get_or-take (length title) (title ++ zeros) len 0 h in
    subst IsPrintable same own

-- the byte at its end is a zero
at_end : (title : List ℕ) (m : ℕ) → 0 < m → get_or (title ++ replicate m 0) (length title) 0 ≡ 0
at_end title m h =
    get_or-append_right title (replicate m 0) (length title) (length title) 0 refl (omega arith)
    ∙ (ap (λ i. get_or (replicate m 0) i 0) (omega arith) ∙ get_or-replicate m 0 0 0 h)

zero_unprinted : (b : ℕ) → b ≡ 0 → IsPrintable b → ⊥
zero_unprinted b e printable = let low = printable.low in omega arith

-- a title is as long as the bytes at the front that can be printed
pub stored-len : (title : List ℕ) (m len : ℕ) → All IsPrintable title → len ≤ length title + m → All IsPrintable (take len (title ++ replicate m 0)) → (len < length title + m → IsPrintable (get_or (title ++ replicate m 0) len 0) → ⊥) → len ≡ length title
stored-len title m len printable within front stops =
    let no_less : len < length title → ⊥ = λ h. stops (omega arith) (inside title (replicate m 0) len printable h) in
    let no_more : length title < len → ⊥ = λ h.
    zero_unprinted _ (at_end title m (omega arith))
    (subst IsPrintable (get_or-take len (title ++ replicate m 0) (length title) 0 h)
    (All-get_or IsPrintable (take len (title ++ replicate m 0)) (length title) 0 (simp (length-take, length-append, length-replicate) (omega arith)) front)) in
    omega (arith, no_less, no_more)

-- what reading found of bytes: how many at the front can be printed
pub record IsFront (bytes : List ℕ) (len : ℕ) : Type 0 where
  pub whole : length bytes ≡ 48
  pub within : len ≤ length bytes
  pub printable : All IsPrintable (take len bytes)
  pub stops : len < length bytes → IsPrintable (get_or bytes len 0) → ⊥

-- the bytes are this title and zeros after it
pub record IsParted (bytes title : List ℕ) (len : ℕ) : Type 0 where
  pub ends : len ≡ length title
  pub own : take len bytes ≡ title
  pub rest : drop len bytes ≡ replicate (length (drop len bytes)) 0

parted_at : (title : List ℕ) (m len : ℕ) → len ≡ length title → IsParted (title ++ replicate m 0) title len
parted_at title m len ends =
    let rest : drop len (title ++ replicate m 0) ≡ replicate m 0 = drop_at title (replicate m 0) len (sym ends) in
    record { ends = ends; own = take_at title (replicate m 0) len (sym ends); rest = rest ∙ sym (ap (λ n. replicate n 0) (ap length rest ∙ length-replicate m 0)) }

pub stored-parts : (bytes title : List ℕ) (len : ℕ) → IsFront bytes len → IsTitle title → bytes ≡ stored_title title → IsParted bytes title len
stored-parts bytes title len front is_title e =
    let m : ℕ = 48 - length title in
    let moved : IsFront (title ++ replicate m 0) len = subst (λ bs. IsFront bs len) e front in
    let size : length (title ++ replicate m 0) ≡ length title + m = simp (length-append, length-replicate) refl in
    let ends : len ≡ length title = stored-len title m len is_title.printable (omega (arith, moved.within)) moved.printable (λ h. moved.stops (omega arith)) in
    subst (λ bs. IsParted bs title len) (sym e) (parted_at title m len ends)
