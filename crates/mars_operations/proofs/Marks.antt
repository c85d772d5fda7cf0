-- The cells of a core, and the list of those that were written.
use Rattle.std.proofs.Common.{◌≡◌, ◌≢◌, ℕ, ◌+◌, ◌<◌, ◌≤◌, Bool, true, false, cond, List, [], ◌∷◌, length, map, get_or, set, replicate, count_by, All, sym, ap, ap₂, refl, ◌∙◌, subst, inl, inr, arith}
use Rattle.std.proofs.{Common.{length-set, get_or-set_same, get_or-set_other}, lemmas.Bool.{cases_eq, both_ways, false_from_ne_true, cond-true, cond-false}}
use Rattle.std.proofs.{lemmas.List.{map-set, length-map, length-replicate, get_or-map, get_or_read}, lemmas.List.Elements.{All-head, All-tail, All-from_get_or, All-get_or, All-set, All-replicate}}
use Rattle.{std.proofs.lemmas.List.Sums.{sum_by-cons, sum_by-set, count_by-le-length}, war_types.specs.{declared.instr.Instr.Instr, Warrior.HasNumbersBelow}}
use Rattle.{mars_words.specs.Words.{Word, word_in, IsWord}, mars_operations.specs.{Cells.{IsCore, blank, cell}, Marks.{core_in, is_marked, IsListed, AreCells}}}

-- how many pass a test, after a write of one that passes
count_by-set : (p : ℕ → Bool) (xs : List ℕ) (i y : ℕ) → i < length xs → p y ≡ true →
    count_by p (set xs i y) + cond (p (get_or xs i 0)) 1 0 ≡ count_by p xs + 1
count_by-set p xs i y inside passes = sum_by-set (λ x. cond (p x) 1 0) xs i y 0 inside ∙ ap (λ (b : Bool). count_by p xs + cond b 1 0) passes

count_by-set_kept : (p : ℕ → Bool) (xs : List ℕ) (i y : ℕ) → i < length xs → p y ≡ true → p (get_or xs i 0) ≡ true → count_by p (set xs i y) ≡ count_by p xs
count_by-set_kept p xs i y inside passes before = omega (arith, count_by-set p xs i y inside passes, cond-true {A = ℕ} (p (get_or xs i 0)) 1 0 before)

count_by-set_more : (p : ℕ → Bool) (xs : List ℕ) (i y : ℕ) → i < length xs → p y ≡ true → p (get_or xs i 0) ≡ false → count_by p (set xs i y) ≡ count_by p xs + 1
count_by-set_more p xs i y inside passes before =
    omega (arith, count_by-set p xs i y inside passes, cond-false {A = ℕ} (p (get_or xs i 0)) 1 0 before)

-- if one doesn't pass, but another would, fewer pass than there are
count_by-lt : (p : ℕ → Bool) (xs : List ℕ) (i y : ℕ) → i < length xs → p y ≡ true → p (get_or xs i 0) ≡ false → count_by p xs < length xs
count_by-lt p xs i y inside passes before =
    omega (arith, count_by-set_more p xs i y inside passes before, count_by-le-length p (set xs i y), length-set xs i y)

-- if none passes
count_by-none : (p : ℕ → Bool) (xs : List ℕ) → All (λ x. p x ≡ false) xs → count_by p xs ≡ 0
count_by-none p [] h = refl
count_by-none p (x ∷ xs) h =
    omega (arith, sum_by-cons (λ y. cond (p y) 1 0) x xs, cond-false {A = ℕ} (p x) 1 0 (All-head (λ y. p y ≡ false) x xs h), count_by-none p xs (All-tail (λ y. p y ≡ false) x xs h))

-- what gives one value for all
map-same : {Y : Type 0} (f : ℕ → Y) (y : Y) (xs : List ℕ) → All (λ x. f x ≡ y) xs → map f xs ≡ replicate (length xs) y
map-same f y [] h = refl
map-same f y (x ∷ xs) h = ap₂ ◌∷◌ (All-head (λ x. f x ≡ y) x xs h) (map-same f y xs (All-tail (λ x. f x ≡ y) x xs h))

-- each cell that passes a test is listed at one of these places
abbrev pub AllListed : (ℕ → Bool) → List ℕ → List ℕ → ℕ → ℕ → Type 0
AllListed p cells written first last = (at : ℕ) → at < length cells → p (get_or cells at 0) ≡ true → IsListed at first last written

module _ (p : ℕ → Bool) (cells written : List ℕ) where
  -- a write into a cell that is listed
  AllListed-set : (first last at bits : ℕ) → p (get_or cells at 0) ≡ true → AllListed p cells written first last → AllListed p (set cells at bits) written first last
  AllListed-set first last at bits before h k inside passes =
      let within : k < length cells = omega (arith, length-set cells at bits) in
      elim (cases_eq k at) [
        | inl same ↦ h k within (ap (λ (n : ℕ). p (get_or cells n 0)) same ∙ before)
        | inr other ↦ h k within (ap p (sym (get_or-set_other cells at k bits 0 other)) ∙ passes)
      ]

  -- a write into another, which is listed after the others
  AllListed-push : (count at bits : ℕ) → count < length written → AllListed p cells written 0 count → AllListed p (set cells at bits) (set written count at) 0 (count + 1)
  AllListed-push count at bits room h k inside passes =
      let within : k < length cells = omega (arith, length-set cells at bits) in
      elim (cases_eq k at) [
        | inl same ↦ (count, omega arith, omega arith, get_or-set_same written count at 0 room ∙ sym same)
        | inr other ↦
            let l = h k within (ap p (sym (get_or-set_other cells at k bits 0 other)) ∙ passes) in
            let before : l.0 ≢ count = omega (arith, l.2) in
            (l.0, omega arith, omega (arith, l.2), get_or-set_other written count l.0 at 0 before ∙ l.3)
      ]

  inside-push : (count at bits : ℕ) → count < length written → at < length cells → ((k : ℕ) → k < count → get_or written k 0 < length cells) →
      (k : ℕ) → k < count + 1 → get_or (set written count at) k 0 < length (set cells at bits)
  inside-push count at bits room inside h k before =
      let n = length-set cells at bits in
      elim (cases_eq k count) [
        | inl same ↦ omega (arith, ap (λ (m : ℕ). get_or (set written count at) m 0) same, get_or-set_same written count at 0 room)
        | inr other ↦ omega (arith, h k (omega arith), get_or-set_other written count k at 0 other)
      ]

  -- one that doesn't pass is written into the cell that is listed first
  AllListed-next : (place last at bits : ℕ) → at ≡ get_or written place 0 → p bits ≡ false → AllListed p cells written place last → AllListed p (set cells at bits) written (place + 1) last
  AllListed-next place last at bits is fails h k inside passes =
      let within : k < length cells = omega (arith, length-set cells at bits) in
      elim (cases_eq k at) [
        | inl same ↦ absurd (both_ways (p bits) fails (ap p (sym (get_or-set_same cells k bits 0 within)) ∙ (ap (λ (n : ℕ). p (get_or (set cells n bits) k 0)) same ∙ passes)))
        | inr other ↦
            let l = h k within (ap p (sym (get_or-set_other cells at k bits 0 other)) ∙ passes) in
            let later : l.0 ≢ place = λ first. other (sym l.3 ∙ (ap (λ (n : ℕ). get_or written n 0) first ∙ sym is)) in
            (l.0, omega (arith, l.1), l.2, l.3)
      ]

  -- if no place is left, none passes
  AllListed-none : (first last : ℕ) → last ≤ first → AllListed p cells written first last → All (λ x. p x ≡ false) cells
  AllListed-none first last none h =
      All-from_get_or (λ x. p x ≡ false) cells 0 (λ k inside. false_from_ne_true (p (get_or cells k 0)) (λ passes. let l = h k inside passes in omega (arith, l.1, l.2)))

between : (a b c d : ℕ) → a ≡ b → b < c → d ≡ c → a < d
between a b c d first lt last = omega arith

not-below-zero : (n : ℕ) → n < 0 → ⊥
not-below-zero n h = omega arith

-- what each cell keeps
abbrev pub IsBlankUnlessMarked : ℕ → Type 0
IsBlankUnlessMarked bits = is_marked bits ≡ false → (word_in bits).instr ≡ blank

-- a cell that isn't marked has room for its address in the list
pub room-unmarked : (cells written : List ℕ) (count at bits : ℕ) → AreCells cells written count → at < length cells → is_marked bits ≡ true → is_marked (get_or cells at 0) ≡ false →
    count < length written
room-unmarked cells written count at bits h inside m before =
    between count (count_by is_marked cells) (length cells) (length written) h.as_many (count_by-lt is_marked cells at bits inside m before) h.room

-- a marked word is written into a cell that is marked
pub AreCells-set : (cells written : List ℕ) (count at bits : ℕ) → AreCells cells written count → at < length cells → IsWord bits → is_marked bits ≡ true →
    is_marked (get_or cells at 0) ≡ true → AreCells (set cells at bits) written count
AreCells-set cells written count at bits h inside word m before = record {
  small = rw length-set h.small;
  room = h.room ∙ sym (length-set cells at bits);
  words = All-set IsWord cells at bits word h.words;
  blanks = All-set IsBlankUnlessMarked cells at bits (λ fails. absurd (both_ways (is_marked bits) fails m)) h.blanks;
  listed = AllListed-set is_marked cells written 0 count at bits before h.listed;
  inside = λ place within. rw length-set (h.inside place within);
  as_many = h.as_many ∙ sym (count_by-set_kept is_marked cells at bits inside m before);
}

-- and into one that isn't, whose address goes to the end of the list
pub AreCells-push : (cells written : List ℕ) (count at bits : ℕ) → AreCells cells written count → at < length cells → IsWord bits → is_marked bits ≡ true →
    is_marked (get_or cells at 0) ≡ false → AreCells (set cells at bits) (set written count at) (count + 1)
AreCells-push cells written count at bits h inside word m before =
    let room = room-unmarked cells written count at bits h inside m before in
    record {
      small = rw length-set h.small;
      room = length-set written count at ∙ (h.room ∙ sym (length-set cells at bits));
      words = All-set IsWord cells at bits word h.words;
      blanks = All-set IsBlankUnlessMarked cells at bits (λ fails. absurd (both_ways (is_marked bits) fails m)) h.blanks;
      listed = AllListed-push is_marked cells written count at bits room h.listed;
      inside = inside-push is_marked cells written count at bits room inside h.inside;
      as_many = ap (λ (n : ℕ). n + 1) h.as_many ∙ sym (count_by-set_more is_marked cells at bits inside m before);
    }

-- no cell is marked
pub AreCells-none : (cells written : List ℕ) → length cells ≤ 65535 → length written ≡ length cells → All IsWord cells → All IsBlankUnlessMarked cells →
    All (λ bits. is_marked bits ≡ false) cells → AreCells cells written 0
AreCells-none cells written small room words blanks unmarked = record {
  small = small;
  room = room;
  words = words;
  blanks = blanks;
  listed = λ at inside passes. absurd (both_ways (is_marked (get_or cells at 0)) (unmarked at 0 inside) passes);
  inside = λ place within. absurd (not-below-zero place within);
  as_many = sym (count_by-none is_marked cells unmarked);
}

-- so all are blank
pub core_in-none : (cells : List ℕ) → All IsBlankUnlessMarked cells → All (λ bits. is_marked bits ≡ false) cells → core_in cells ≡ replicate (length cells) blank
core_in-none cells blanks unmarked = map-same (λ bits. (word_in bits).instr) blank cells (λ k d inside. blanks k d inside (unmarked k d inside))

-- cells that are all blank and not marked
pub AreCells-new : (n bits : ℕ) (cells written : List ℕ) → n ≤ 65535 → cells ≡ replicate n bits → length written ≡ n → IsWord bits → is_marked bits ≡ false → (word_in bits).instr ≡ blank → AreCells cells written 0
AreCells-new n bits cells written small is room word unmarked blanked =
    let count : length (replicate n bits) ≡ n = length-replicate n bits in
    subst (λ (xs : List ℕ). AreCells xs written 0) (sym is)
    (AreCells-none (replicate n bits) written (subst (λ (k : ℕ). k ≤ 65535) (sym count) small) (room ∙ sym count) (All-replicate IsWord n bits word) (All-replicate IsBlankUnlessMarked n bits (λ e. blanked))
    (All-replicate (λ b. is_marked b ≡ false) n bits unmarked))

-- what holds while the cells that are listed are blanked, one after the other: those that are still marked are listed from a place on
pub record AreLeft (cells written : List ℕ) (place count : ℕ) : Type 0 where
  pub few : count ≤ length written
  pub words : All IsWord cells
  pub blanks : All IsBlankUnlessMarked cells
  pub listed : AllListed is_marked cells written place count
  pub inside : (k : ℕ) → k < count → get_or written k 0 < length cells

-- the next of them is blanked
pub AreLeft-next : (cells written : List ℕ) (place count at bits : ℕ) → AreLeft cells written place count → at ≡ get_or written place 0 → IsWord bits → is_marked bits ≡ false →
    (word_in bits).instr ≡ blank → AreLeft (set cells at bits) written (place + 1) count
AreLeft-next cells written place count at bits h is word fails blanked = record {
  few = h.few;
  words = All-set IsWord cells at bits word h.words;
  blanks = All-set IsBlankUnlessMarked cells at bits (λ e. blanked) h.blanks;
  listed = AllListed-next is_marked cells written place count at bits is fails h.listed;
  inside = λ k within. rw length-set (h.inside k within);
}

-- none is left
pub AreLeft-none : (cells written : List ℕ) (place count : ℕ) → count ≤ place → AreLeft cells written place count → All (λ bits. is_marked bits ≡ false) cells
AreLeft-none cells written place count none h = AllListed-none is_marked cells written place count none h.listed

-- blank cells alone
pub core_in-replicate : (n bits : ℕ) → (word_in bits).instr ≡ blank → core_in (replicate n bits) ≡ replicate n blank
core_in-replicate n bits blanked =
    map-same (λ b. (word_in b).instr) blank (replicate n bits) (All-replicate (λ b. (word_in b).instr ≡ blank) n bits blanked) ∙ ap (λ (k : ℕ). replicate k blank) (length-replicate n bits)

-- an address of a core is one of its cells
pub inside-core_in : (size at : ℕ) (cells : List ℕ) (core : List Instr) → IsCore size core → at < size → core_in cells ≡ core → at < length cells
inside-core_in size at cells core h below is = omega (arith, h.length, ap length is, length-map cells (λ (b : ℕ). (word_in b).instr))

-- what is read from a cell
pub cell-core_in : (cells : List ℕ) (at bits : ℕ) (core : List Instr) → at < length cells → bits ≡ get_or cells at bits → core_in cells ≡ core → (word_in bits).instr ≡ cell core at
cell-core_in cells at bits core inside read is =
    ap (λ (b : ℕ). (word_in b).instr) (get_or_read cells at bits inside read 0) ∙ (sym (get_or-map (λ (b : ℕ). (word_in b).instr) cells at 0 blank inside) ∙ ap (λ (xs : List Instr). cell xs at) is)

-- and its numbers are below the core's size
pub HasNumbersBelow-cell : (size at : ℕ) (core : List Instr) (i : Instr) → IsCore size core → at < size → i ≡ cell core at → HasNumbersBelow size i
HasNumbersBelow-cell size at core i h below is =
    let inside : at < length core = omega (arith, h.length) in
    subst (HasNumbersBelow size) (sym is) (All-get_or (HasNumbersBelow size) core at blank inside h.numbers)

-- the mark of a word that was read
pub is_marked-read : (cells : List ℕ) (at bits : ℕ) (word : Word) (result b : Bool) → at < length cells → bits ≡ get_or cells at bits → word ≡ word_in bits → result ≡ word.is_marked → result ≡ b →
    is_marked (get_or cells at 0) ≡ b
is_marked-read cells at bits word result b inside read is tells told =
    ap is_marked (sym (get_or_read cells at bits inside read 0)) ∙ (ap (λ (w : Word). w.is_marked) (sym is) ∙ (sym tells ∙ told))

-- what the core is after a write into a cell
pub core_in-set : (cells : List ℕ) (at bits : ℕ) (core : List Instr) (i : Instr) → core_in cells ≡ core → (word_in bits).instr ≡ i → core_in (set cells at bits) ≡ set core at i
core_in-set cells at bits core i is holds = map-set (λ (b : ℕ). (word_in b).instr) cells at bits ∙ ap₂ (λ (xs : List Instr) (x : Instr). set xs at x) is holds

-- which is a core again
pub IsCore-set : (size : ℕ) (core new : List Instr) (at : ℕ) (i : Instr) → IsCore size core → HasNumbersBelow size i → new ≡ set core at i → IsCore size new
IsCore-set size core new at i h numbers is = subst (IsCore size) (sym is) (record {
  some = h.some;
  length = length-set core at i ∙ h.length;
  numbers = All-set (HasNumbersBelow size) core at i numbers h.numbers;
})
