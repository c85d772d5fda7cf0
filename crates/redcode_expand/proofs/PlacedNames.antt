-- The counters of open blocks, the outermost first: the index of the first block whose counter has a name.
use Rattle.std.proofs.Common.{◌≡◌, ℕ, zero, suc, ◌<◌, ◌≤◌, Bool, true, false, if◌then◌else◌, List, [], ◌∷◌, ◌++◌, length, get_or, Option, Some, None, refl, sym, ap, ◌∙◌, subst, inl}
use Rattle.std.proofs.{Common.{inr, ◌⊎◌, arith, ◌+◌, ◌-◌, ◌&&◌, MatchOption, reverse, take, drop}, lemmas.Bool.{cases_Bool, or_parts}, lemmas.Slice.Eq.bytes_eq-Decides}
use Rattle.{std.specs.{Bool.⊤, Option.{is_some, option_map}, Str.bytes_eq}, indexmap.specs.IndexMap.insert_entry, std.proofs.{lemmas.Grind.common_steps, lemmas.List.{reverse-append, drop-drop, drop_more, get_or-drop, get_or-take, length-drop, take_more, map-append}}}
use Rattle.{redcode_text.specs.{declared.token.Token.Token, Tokens.{piece_of, pieces}}, redcode_lines.specs.Line.is_name_token}
use Rattle.{redcode_copies.specs.Plain.{has_join, is_numbered}, redcode_lines.specs.Line.has_text, std.proofs.Common.codes, redcode_expand.specs.Rest.{OpenBlock, AreFirst, AreLast, ArePlaced, counters_in, place_in, counters_of}}
use Rattle.{std.specs.Cmp.Lexicographic.bytes_decides, std.proofs.Common.length-append, redcode_names.specs.Name.{CounterPlaces, counter_places}}
use Rattle.redcode_expand.proofs.Words.{number_of, LabelList, address_of, Piece, SourceLine, is_name, Counter, in_copy, in_copies}

pub None≢Some : {X : Type 0} (x : X) (o : Option X) → o ≡ None → o ≡ Some x → ⊥
None≢Some x o none some = cc

same-some : {X : Type 0} (x y : X) (o : Option X) → o ≡ Some x → o ≡ Some y → x ≡ y
same-some x y o some other = cc

later-place : (o : Option ℕ) (p : ℕ) → option_map (λ place. suc place) o ≡ Some p → (q : ℕ) × (o ≡ Some q) × (p ≡ suc q)
later-place o p h1 = grind arith

-- ---- the first block of a name

-- what is said of the index of the first block of a name
abbrev pub IsFirst : List OpenBlock → List ℕ → OpenBlock → ℕ → Type 0
IsFirst bs name d p = (p < length bs) × (bytes_eq name (get_or bs p d).counter.name ≡ true) × (number_of (counters_in bs) name ≡ Some (get_or bs p d).counter.number)

first-here : (name : List ℕ) (b : OpenBlock) (bs : List OpenBlock) (d : OpenBlock) → bytes_eq name b.counter.name ≡ true → IsFirst (b ∷ bs) name d 0
first-here name b bs d is = (omega arith, is, ap (λ (t : Bool). if t then Some b.counter.number else number_of (counters_in bs) name) is)

first-later : (name : List ℕ) (b : OpenBlock) (bs : List OpenBlock) (d : OpenBlock) (q : ℕ) → bytes_eq name b.counter.name ≡ false → IsFirst bs name d q → IsFirst (b ∷ bs) name d (suc q)
first-later name b bs d q h1 h2 = grind arith

pub first-is : (bs : List OpenBlock) (name : List ℕ) (d : OpenBlock) (p : ℕ) → place_in bs name ≡ Some p → IsFirst bs name d p
first-is [] name d p is = cc
first-is (b ∷ bs) name d p is = elim (cases_Bool (bytes_eq name b.counter.name)) [
  | inl t ↦
      let here : Some 0 ≡ Some p = sym (ap (λ (t : Bool). if t then Some 0 else option_map (λ place. suc place) (place_in bs name)) t) ∙ is in
      let zero-is : 0 ≡ p = same-some 0 p (Some 0) refl here in
      subst (IsFirst (b ∷ bs) name d) zero-is (first-here name b bs d t)
  | inr f ↦
      let there : option_map (λ place. suc place) (place_in bs name) ≡ Some p = sym (ap (λ (t : Bool). if t then Some 0 else option_map (λ place. suc place) (place_in bs name)) f) ∙ is in
      let later = later-place (place_in bs name) p there in
      subst (IsFirst (b ∷ bs) name d) (sym later.2) (first-later name b bs d later.0 f (first-is bs name d later.0 later.1))
]

pub placed-within : (bs : List OpenBlock) (name : List ℕ) (p : ℕ) → place_in bs name ≡ Some p → p < length bs
placed-within [] name p is = cc
placed-within (b ∷ bs) name p is = (first-is (b ∷ bs) name b p is).0

-- a block of the name is not before the first
some-is : (bs : List OpenBlock) (name : List ℕ) (d : OpenBlock) (p : ℕ) → p < length bs → bytes_eq name (get_or bs p d).counter.name ≡ true → place_in bs name ≡ None → ⊥
some-is [] name d p within is none = omega (arith, within)
some-is (b ∷ bs) name d zero within is none = grind arith
some-is (b ∷ bs) name d (suc p) within is none = grind (arith, some-is bs name d p)

-- ---- what the place that is known of a name says of the first block of this name

option-cases : {X : Type 0} (o : Option X) (G : Type 0) → (o ≡ None → G) → ((x : X) → o ≡ Some x → G) → G
option-cases o G h1 h2 = grind arith

pub place-none : (places : LabelList) (bs : List OpenBlock) (name : List ℕ) → AreFirst places bs → address_of places name ≡ None → place_in bs name ≡ None
place-none places bs name placed none =
    option-cases (place_in bs name) (place_in bs name ≡ None) (λ is. is) (λ q there. absurd (None≢Some q (address_of places name) none (placed name q there)))

pub place-past : (places : LabelList) (bs : List OpenBlock) (name : List ℕ) (p : ℕ) → AreFirst places bs → address_of places name ≡ Some p → length bs ≤ p → place_in bs name ≡ None
place-past places [] name p placed is past = refl
place-past places (b ∷ bs) name p placed is past =
    option-cases (place_in (b ∷ bs) name) (place_in (b ∷ bs) name ≡ None) (λ none. none)
    (λ q there. absurd (omega (arith, past, (first-is (b ∷ bs) name b q there).0, same-some q p (address_of places name) (placed name q there) is)))

pub place-other : (places : LabelList) (bs : List OpenBlock) (name : List ℕ) (d : OpenBlock) (p : ℕ) → AreFirst places bs → address_of places name ≡ Some p
    → bytes_eq name (get_or bs p d).counter.name ≡ false → place_in bs name ≡ None
place-other places bs name d p h1 h2 h3 = grind (arith, same-some, first-is)

pub place-there : (places : LabelList) (bs : List OpenBlock) (name : List ℕ) (d : OpenBlock) (p : ℕ) → AreFirst places bs → address_of places name ≡ Some p → p < length bs
    → bytes_eq name (get_or bs p d).counter.name ≡ true → place_in bs name ≡ Some p
place-there places bs name d p placed is within named =
    option-cases (place_in bs name) (place_in bs name ≡ Some p) (λ none. absurd (some-is bs name d p within named none))
    (λ q there. there ∙ ap Some (same-some q p (address_of places name) (placed name q there) is))

-- ---- the first block of a name, found by comparing one after another

later-by : (o : Option ℕ) (i : ℕ) → option_map (λ p. p + i) (option_map (λ p. suc p) o) ≡ option_map (λ p. p + (i + 1)) o
later-by o i = grind arith

pub place-at : (bs : List OpenBlock) (name : List ℕ) (i : ℕ) (d : OpenBlock) → i < length bs → place_in bs name ≡ option_map (λ p. p + i) (place_in (drop i bs) name)
    → bytes_eq name (get_or bs i d).counter.name ≡ true → place_in bs name ≡ Some i
place-at bs name i d within is named =
    is ∙ ap (λ (xs : List OpenBlock). option_map (λ p. p + i) (place_in xs name)) (drop_more bs i d within)
    ∙ ap (λ (t : Bool). option_map (λ p. p + i) (if t then Some 0 else option_map (λ p. suc p) (place_in (drop (i + 1) bs) name))) named ∙ ap Some (omega arith)

pub place-on : (bs : List OpenBlock) (name : List ℕ) (i : ℕ) (d : OpenBlock) → i < length bs → place_in bs name ≡ option_map (λ p. p + i) (place_in (drop i bs) name)
    → bytes_eq name (get_or bs i d).counter.name ≡ false → place_in bs name ≡ option_map (λ p. p + (i + 1)) (place_in (drop (i + 1) bs) name)
place-on bs name i d within is other =
    is ∙ ap (λ (xs : List OpenBlock). option_map (λ p. p + i) (place_in xs name)) (drop_more bs i d within)
    ∙ ap (λ (t : Bool). option_map (λ p. p + i) (if t then Some 0 else option_map (λ p. suc p) (place_in (drop (i + 1) bs) name))) other
    ∙ later-by (place_in (drop (i + 1) bs) name) i

-- ---- blocks from one on

pub none-drop : (f : ℕ) (bs : List OpenBlock) (name : List ℕ) → place_in bs name ≡ None → place_in (drop f bs) name ≡ None
none-drop zero bs name none = none
none-drop (suc f) [] name none = refl
none-drop (suc f) (b ∷ bs) name none = grind (arith, none-drop f bs name)

pub place-drop : (f : ℕ) (bs : List OpenBlock) (name : List ℕ) (p : ℕ) → place_in bs name ≡ Some p → f ≤ p → place_in (drop f bs) name ≡ Some (p - f)
place-drop zero bs name p is past = is ∙ ap Some (omega arith)
place-drop (suc f) [] name p is past = cc
place-drop (suc f) (b ∷ bs) name p is past = elim (cases_Bool (bytes_eq name b.counter.name)) [
  | inl t ↦ absurd (omega (arith, past, same-some 0 p (Some 0) refl (sym (ap (λ (t : Bool). if t then Some 0 else option_map (λ place. suc place) (place_in bs name)) t) ∙ is)))
  | inr other ↦
      let later = later-place (place_in bs name) p (sym (ap (λ (t : Bool). if t then Some 0 else option_map (λ place. suc place) (place_in bs name)) other) ∙ is) in
      place-drop f bs name later.0 later.1 (omega (arith, past, later.2)) ∙ ap Some (omega (arith, later.2))
]

-- no block before the first of a name has it
unplaced : (bs : List OpenBlock) (name : List ℕ) (k : ℕ) → MatchOption (place_in bs name) ⊤ (λ p. k ≤ p) → number_of (counters_in (take k bs)) name ≡ None
unplaced bs name zero none = refl
unplaced [] name (suc k) none = refl
unplaced (b ∷ bs) name (suc k) none = grind (arith, unplaced bs name k)

pub number-none : (bs : List OpenBlock) (name : List ℕ) (k : ℕ) → place_in bs name ≡ None → number_of (counters_in (take k bs)) name ≡ None
number-none bs name k none = unplaced bs name k (rw none tt)

pub number-past : (bs : List OpenBlock) (name : List ℕ) (k p : ℕ) → place_in bs name ≡ Some p → k ≤ p → number_of (counters_in (take k bs)) name ≡ None
number-past bs name k p is past = unplaced bs name k (rw is past)

place-take : (bs : List OpenBlock) (name : List ℕ) (k p : ℕ) → place_in bs name ≡ Some p → p < k → place_in (take k bs) name ≡ Some p
place-take bs name zero p is few = absurd (omega (arith, few))
place-take [] name (suc k) p is few = cc
place-take (b ∷ bs) name (suc k) p is few = grind (arith, place-take bs name k)

pub number-there : (bs : List OpenBlock) (from : ℕ) (name : List ℕ) (k p : ℕ) (d : OpenBlock) → place_in (drop from bs) name ≡ Some p → p < k
    → number_of (counters_in (take k (drop from bs))) name ≡ Some (get_or bs (from + p) d).counter.number
number-there bs from name k p d is few =
    (first-is (take k (drop from bs)) name d p (place-take (drop from bs) name k p is few)).2
    ∙ ap (λ (b : OpenBlock). Some b.counter.number) (get_or-take k (drop from bs) p d few ∙ get_or-drop from bs p d)

fewer-unplaced : (bs : List OpenBlock) (name : List ℕ) (k n : ℕ) → k ≤ n → number_of (counters_in (take n bs)) name ≡ None → number_of (counters_in (take k bs)) name ≡ None
fewer-unplaced bs name zero n few none = refl
fewer-unplaced [] name (suc k) n few none = refl
fewer-unplaced (b ∷ bs) name (suc k) zero few none = absurd (omega (arith, few))
fewer-unplaced (b ∷ bs) name (suc k) (suc n) few none = grind (arith, fewer-unplaced bs name k n)

pub fewer-joined : (bs : List OpenBlock) (k n : ℕ) (b : Bool) (ts : List Piece) → k ≤ n → has_join (counters_in (take n bs)) b ts ≡ false → has_join (counters_in (take k bs)) b ts ≡ false
fewer-joined bs k n b [] few none = refl
fewer-joined bs k n b (x ∷ ts) few none = grind (arith, fewer-unplaced bs x.text k n, fewer-joined bs k n (has_text (codes "&") x) ts)

-- whether the last token is an &; `b` if there is none
abbrev pub ends_and : Bool → List Piece → Bool
ends_and b [] = b
ends_and b (x ∷ xs) = ends_and (has_text (codes "&") x) xs

ends-last : (b : Bool) (ts : List Piece) (t : Piece) → ends_and b (ts ++ t ∷ []) ≡ has_text (codes "&") t
ends-last b [] t = refl
ends-last b (x ∷ ts) t = ends-last (has_text (codes "&") x) ts t

join-last : (cs : List Counter) (b : Bool) (ts : List Piece) (t : Piece) → has_join cs b ts ≡ false → (ends_and b ts && is_numbered cs t) ≡ false → has_join cs b (ts ++ t ∷ []) ≡ false
join-last cs b [] t none last = rw last refl
join-last cs b (x ∷ ts) t none last =
    let parts = or_parts _ (has_join cs (has_text (codes "&") x) ts) none in
    rw (parts.0) (join-last cs (has_text (codes "&") x) ts t parts.1 last)

none-last : (ends named : Bool) (o : Option ℕ) → (ends ≡ true → named ≡ true → o ≡ None) → (ends && (named && is_some o)) ≡ false
none-last true true o none = ap is_some (none refl refl)
none-last true false o none = refl
none-last false named o none = refl

token-more : (ts : List Token) (i : ℕ) (d : Token) → i < length ts → pieces (take (i + 1) ts) ≡ pieces (take i ts) ++ piece_of (get_or ts i d) ∷ []
token-more ts i d within = ap (λ (xs : List Token). pieces xs) (take_more ts i d within) ∙ map-append piece_of (take i ts) (get_or ts i d ∷ [])

-- without counters none follows an &
pub no-join : (b : Bool) (ts : List Piece) → has_join [] b ts ≡ false
no-join b [] = refl
no-join b (x ∷ ts) = grind (arith, no-join (has_text (codes "&") x) ts)

-- a token more, after which an & may have come
pub ends-more : (ts : List Token) (i : ℕ) (d : Token) → i < length ts → ends_and false (pieces (take (i + 1) ts)) ≡ has_text (codes "&") (piece_of (get_or ts i d))
ends-more ts i d within = ap (ends_and false) (token-more ts i d within) ∙ ends-last false (pieces (take i ts)) (piece_of (get_or ts i d))

-- a token more, of which no block so far has the name if it follows an &
pub unjoined-more : (bs : List OpenBlock) (k n : ℕ) (ts : List Token) (i : ℕ) (d : Token) → i < length ts → k ≤ n → has_join (counters_in (take n bs)) false (pieces (take i ts)) ≡ false
    → (ends_and false (pieces (take i ts)) ≡ true → is_name_token (piece_of (get_or ts i d)) ≡ true → MatchOption (place_in bs (piece_of (get_or ts i d)).text) ⊤ (λ p. k ≤ p))
    → has_join (counters_in (take k bs)) false (pieces (take (i + 1) ts)) ≡ false
unjoined-more bs k n ts i d within few none last =
    let token = piece_of (get_or ts i d) in
    let front = pieces (take i ts) in
    let cs = counters_in (take k bs) in
    ap (has_join cs false) (token-more ts i d within)
    ∙ join-last cs false front token (fewer-joined bs k n false front few none)
    (none-last (ends_and false front) (is_name token.kind) (number_of cs token.text) (λ ends is. unplaced bs token.text k (last ends is)))

-- a token more, which follows no & or is no name
pub unjoined-other : (bs : List OpenBlock) (n : ℕ) (ts : List Token) (i : ℕ) (d : Token) → i < length ts → has_join (counters_in (take n bs)) false (pieces (take i ts)) ≡ false
    → (false ≡ ends_and false (pieces (take i ts))) ⊎ (false ≡ is_name_token (piece_of (get_or ts i d))) → has_join (counters_in (take n bs)) false (pieces (take (i + 1) ts)) ≡ false
unjoined-other bs n ts i d within none (inl apart) = unjoined-more bs n n ts i d within (omega arith) none (λ ends is. cc)
unjoined-other bs n ts i d within none (inr other) = unjoined-more bs n n ts i d within (omega arith) none (λ ends is. cc)

-- ---- one block fewer, and one more

place-front : (bs others : List OpenBlock) (name : List ℕ) (p : ℕ) → place_in bs name ≡ Some p → place_in (bs ++ others) name ≡ Some p
place-front [] others name p is = cc
place-front (b ∷ bs) others name p is = grind (arith, place-front bs others name)

-- the last block was left
pub placed-front : (places : LabelList) (bs others : List OpenBlock) → AreFirst places (bs ++ others) → AreFirst places bs
placed-front places bs others placed = λ name p is. placed name p (place-front bs others name p is)

place-last : (bs : List OpenBlock) (b : OpenBlock) (name : List ℕ) → place_in bs name ≡ None → place_in (bs ++ b ∷ []) name ≡ (if bytes_eq name b.counter.name then Some (length bs) else None)
place-last [] b name none = refl
place-last (x ∷ bs) b name none = grind (arith, place-last bs b name)

pub placed-behind : (places : LabelList) (bs : List OpenBlock) (b : OpenBlock) → AreFirst places bs
    → (place_in bs b.counter.name ≡ None → address_of places b.counter.name ≡ Some (length bs)) → AreFirst places (bs ++ b ∷ [])
placed-behind places bs b h1 h2 = grind (arith, bytes_eq-Decides, place-last, None≢Some, place-front)

-- ---- a place that is written

inserted-by : (name k x : List ℕ) (place other : ℕ) (later written : Option ℕ) (t : Bool) → bytes_eq k x ≡ t
    → written ≡ (if t then (if bytes_eq name x then Some place else later) else (if bytes_eq name x then Some other else (if bytes_eq name k then Some place else later)))
    → written ≡ (if bytes_eq name k then Some place else (if bytes_eq name x then Some other else later))
inserted-by name k x place other later written t h1 h2 = grind (arith, bytes_eq-Decides)

written-by : (t : Bool) (e : List ℕ × ℕ) (es more : LabelList) (k : List ℕ) (place : ℕ) (name : List ℕ)
    → address_of more name ≡ (if bytes_eq name k then Some place else address_of es name)
    → address_of (if t then (e.0, place) ∷ es else e ∷ more) name
    ≡ (if t then (if bytes_eq name e.0 then Some place else address_of es name) else (if bytes_eq name e.0 then Some e.1 else (if bytes_eq name k then Some place else address_of es name)))
written-by t e es more k place name h1 = grind arith

address-inserted : (places : LabelList) (k : List ℕ) (place : ℕ) (name : List ℕ) → address_of (insert_entry bytes_eq places k place) name ≡ (if bytes_eq name k then Some place else address_of places name)
address-inserted [] k place name = refl
address-inserted (e ∷ es) k place name =
    inserted-by name k e.0 place e.1 (address_of es name) _ (bytes_eq k e.0) refl
    (written-by (bytes_eq k e.0) e es (insert_entry bytes_eq es k place) k place name (address-inserted es k place name))

-- a name that no block's counter has may get any place
pub placed-set : (places : LabelList) (bs : List OpenBlock) (k : List ℕ) (place : ℕ) → AreFirst places bs → place_in bs k ≡ None → AreFirst (insert_entry bytes_eq places k place) bs
placed-set places bs k place h1 h2 = grind (arith, bytes_eq-Decides, None≢Some, address-inserted)

-- which is its place from then on
pub placed-next : (places : LabelList) (k : List ℕ) (place : ℕ) → address_of (insert_entry bytes_eq places k place) k ≡ Some place
placed-next places k place = grind (arith, address-inserted, bytes_eq-Decides)

-- a place from an index on
pub place-within : (bs : List OpenBlock) (from : ℕ) (name : List ℕ) (p : ℕ) → place_in (drop from bs) name ≡ Some p → from + p < length bs
place-within bs from name p is = omega (arith, placed-within (drop from bs) name p is, length-drop from bs)

-- ---- the last block of a name

-- a block that is no longer there had the name, or none has it
none-front : (k : ℕ) (bs others : List OpenBlock) (name : List ℕ) → place_in (drop k (bs ++ others)) name ≡ None → place_in (drop k bs) name ≡ None
none-front zero bs others name none =
    option-cases (place_in bs name) (place_in bs name ≡ None) (λ is. is) (λ p there. absurd (None≢Some p (place_in (bs ++ others) name) none (place-front bs others name p there)))
none-front (suc k) [] others name none = refl
none-front (suc k) (b ∷ bs) others name none = none-front k bs others name none

none-behind : (k : ℕ) (bs : List OpenBlock) (b : OpenBlock) (name : List ℕ) → place_in (drop k bs) name ≡ None → bytes_eq name b.counter.name ≡ false
    → place_in (drop k (bs ++ b ∷ [])) name ≡ None
none-behind zero bs b name none other = place-last bs b name none ∙ ap (λ (t : Bool). if t then Some (length bs) else None) other
none-behind (suc zero) [] b name none other = refl
none-behind (suc (suc k)) [] b name none other = refl
none-behind (suc k) (x ∷ bs) b name none other = none-behind k bs b name none other

past-all : (bs : List OpenBlock) (k : ℕ) (name : List ℕ) → length bs ≤ k → place_in (drop k bs) name ≡ None
past-all [] zero name past = refl
past-all [] (suc k) name past = refl
past-all (b ∷ bs) zero name past = absurd (omega (arith, past))
past-all (b ∷ bs) (suc k) name past = past-all bs k name (omega (arith, past))

-- the last block was left
last-front : (lasts : LabelList) (bs others : List OpenBlock) → AreLast lasts (bs ++ others) → AreLast lasts bs
last-front lasts bs others placed = λ name last is. none-front (last + 1) bs others name (placed name last is)

-- one block more, whose name has its index
last-behind : (lasts : LabelList) (bs : List OpenBlock) (b : OpenBlock) → AreLast lasts bs → address_of lasts b.counter.name ≡ Some (length bs) → AreLast lasts (bs ++ b ∷ [])
last-behind lasts bs b placed next = λ name last is.
    elim (cases_Bool (bytes_eq name b.counter.name)) [
      | inl same ↦
          let e : name ≡ b.counter.name = (bytes_decides name b.counter.name).0 same in
          let at : last ≡ length bs = same-some last (length bs) (address_of lasts b.counter.name) (ap (address_of lasts) (sym e) ∙ is) next in
          past-all (bs ++ b ∷ []) (last + 1) name (omega (arith, at, length-append bs (b ∷ [])))
      | inr other ↦ none-behind (last + 1) bs b name (placed name last is) other
    ]

-- a name may get the index after all blocks
last-set : (lasts : LabelList) (bs : List OpenBlock) (k : List ℕ) → AreLast lasts bs → AreLast (insert_entry bytes_eq lasts k (length bs)) bs
last-set lasts bs k placed = λ name last is.
    let written : (if bytes_eq name k then Some (length bs) else address_of lasts name) ≡ Some last = sym (address-inserted lasts k (length bs) name) ∙ is in
    elim (cases_Bool (bytes_eq name k)) [
      | inl same ↦
          let at : length bs ≡ last = same-some (length bs) last _ refl (sym (ap (λ (t : Bool). if t then Some (length bs) else address_of lasts name) same) ∙ written) in
          past-all bs (last + 1) name (omega (arith, at))
      | inr other ↦ placed name last (sym (ap (λ (t : Bool). if t then Some (length bs) else address_of lasts name) other) ∙ written)
    ]

-- none from an index on that is past the last
pub none-past : (lasts : LabelList) (bs : List OpenBlock) (name : List ℕ) (last from : ℕ) → AreLast lasts bs → address_of lasts name ≡ Some last → last < from
    → place_in (drop from bs) name ≡ None
none-past lasts bs name last from placed is past =
    let gap = from - (last + 1) in
    let e : last + 1 + gap ≡ from = omega (arith, past) in
    sym (ap (λ (k : ℕ). place_in (drop k bs) name) e) ∙ sym (ap (λ (xs : List OpenBlock). place_in xs name) (drop-drop gap (last + 1) bs))
    ∙ none-drop gap (drop (last + 1) bs) name (placed name last is)

-- ---- both

pub both-front : (places : CounterPlaces) (bs others : List OpenBlock) → ArePlaced places (bs ++ others) → ArePlaced places bs
both-front places bs others placed =
    record { firsts = placed-front places.firsts bs others placed.firsts; lasts = last-front places.lasts bs others placed.lasts }

pub both-behind : (places : CounterPlaces) (bs : List OpenBlock) (b : OpenBlock) → ArePlaced places bs
    → (place_in bs b.counter.name ≡ None → address_of places.firsts b.counter.name ≡ Some (length bs)) → address_of places.lasts b.counter.name ≡ Some (length bs)
    → ArePlaced places (bs ++ b ∷ [])
both-behind places bs b placed first last =
    record { firsts = placed-behind places.firsts bs b placed.firsts first; lasts = last-behind places.lasts bs b placed.lasts last }

pub first-set : (places : CounterPlaces) (bs : List OpenBlock) (k : List ℕ) (place : ℕ) → ArePlaced places bs → place_in bs k ≡ None
    → ArePlaced (counter_places (insert_entry bytes_eq places.firsts k place) places.lasts) bs
first-set places bs k place placed none = record { firsts = placed-set places.firsts bs k place placed.firsts none; lasts = placed.lasts }

pub both-set : (places : CounterPlaces) (bs : List OpenBlock) (k : List ℕ) → ArePlaced places bs
    → ArePlaced (counter_places places.firsts (insert_entry bytes_eq places.lasts k (length bs))) bs
both-set places bs k placed = record { firsts = placed.firsts; lasts = last-set places.lasts bs k placed.lasts }

-- ---- counters

counters-outer : (bs : List OpenBlock) (b : OpenBlock) → counters_of (bs ++ b ∷ []) ≡ b.counter ∷ counters_of bs
counters-outer [] b = refl
counters-outer (x ∷ xs) b = ap (λ (cs : List Counter). cs ++ x.counter ∷ []) (counters-outer xs b)

-- those of the blocks from the innermost on are the same the other way round
pub counters-reverse : (bs : List OpenBlock) → counters_of (reverse bs) ≡ counters_in bs
counters-reverse [] = refl
counters-reverse (b ∷ bs) = ap counters_of (reverse-append (b ∷ []) bs) ∙ counters-outer (reverse bs) b ∙ ap (λ (cs : List Counter). b.counter ∷ cs) (counters-reverse bs)

-- ---- copies of several blocks

copies-split : (k : ℕ) (bs : List OpenBlock) (line : SourceLine) → in_copies (counters_in bs) line ≡ in_copies (counters_in (drop k bs)) (in_copies (counters_in (take k bs)) line)
copies-split zero bs line = refl
copies-split (suc k) [] line = refl
copies-split (suc k) (b ∷ bs) line = copies-split k bs (in_copy b.counter line)

-- a line within the copies of the next blocks
pub copies-on : (bs : List OpenBlock) (from k : ℕ) (line new : SourceLine) → new ≡ in_copies (counters_in (take k (drop from bs))) line
    → in_copies (counters_in (drop from bs)) line ≡ in_copies (counters_in (drop (from + k) bs)) new
copies-on bs from k line new written =
    copies-split k (drop from bs) line ∙ ap (in_copies (counters_in (drop k (drop from bs)))) (sym written)
    ∙ ap (λ (xs : List OpenBlock). in_copies (counters_in xs) new) (drop-drop k from bs)

-- one within the copy of the next block
pub copies-next : (bs : List OpenBlock) (i : ℕ) (b : OpenBlock) (counter : Counter) (line new : SourceLine) → i < length bs → b ≡ get_or bs i b → counter ≡ b.counter
    → new ≡ in_copy counter line → in_copies (counters_in (drop i bs)) line ≡ in_copies (counters_in (drop (i + 1) bs)) new
copies-next bs i b counter line new within is same written =
    ap (λ (xs : List OpenBlock). in_copies (counters_in xs) line) (drop_more bs i b within)
    ∙ ap (in_copies (counters_in (drop (i + 1) bs))) (ap (λ (x : OpenBlock). in_copy x.counter line) (sym is) ∙ ap (λ (c : Counter). in_copy c line) (sym same) ∙ sym written)

pub copies-none : (bs : List OpenBlock) (i : ℕ) (line : SourceLine) → length bs ≤ i → in_copies (counters_in (drop i bs)) line ≡ line
copies-none bs i line past = grind (arith, common_steps)
