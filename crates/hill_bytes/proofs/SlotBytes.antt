-- The bytes of a slot: places of instructions, and titles with zeros after them.
use Rattle.std.proofs.Common.{◌≡◌, ℕ, zero, suc, ◌+◌, ◌-◌, ◌*◌, ◌<◌, ◌≤◌, List, [], ◌∷◌, ◌++◌, length, get_or, min, drop, replicate, arith, refl, sym, ap, ap₂, ◌∙◌, subst, Option, None, Some}
use Rattle.{std.proofs.lemmas.List.{append_assoc, append-nil, drop_more, drop_all, drop_at, drop-drop, get_or-drop, length-append, length-drop, length-replicate}, std.specs.Int.bytes_high_first}
use Rattle.{std.specs.Option.SomeIff, war_types.specs.{declared.instr.Instr.Instr, declared.settings.RawSettings.RawSettings, Bytes.instr_bytes, Warrior.{WarriorParts, warrior_parts, Fits}}}
use Rattle.hill_bytes.specs.{declared.wins.Wins.Wins, Layout.{Layout, code_places, code_sectors, fields_bytes, filled, last_sector, result_places, slot_bytes, with_code}}

pub code-some : (n : ℕ) (is : List Instr) (i : ℕ) (d : Instr) → i < length is → i < n → code_places (n - i) (drop i is) ≡ instr_bytes (get_or is i d) ++ code_places (n - (i + 1)) (drop (i + 1) is)
code-some n is i d inside few =
    let left : n - i ≡ suc (n - (i + 1)) = omega arith in
    ap (λ k. code_places k (drop i is)) left ∙ ap (code_places (suc (n - (i + 1)))) (drop_more is i d inside)

pub code-none : (n : ℕ) (is : List Instr) (i : ℕ) → length is ≤ i → i < n → code_places (n - i) (drop i is) ≡ replicate 8 0 ++ code_places (n - (i + 1)) (drop (i + 1) is)
code-none n is i behind few =
    let left : n - i ≡ suc (n - (i + 1)) = omega arith in
    ap (λ k. code_places k (drop i is)) left ∙ ap (code_places (suc (n - (i + 1)))) (drop_all i is behind)
    ∙ ap (λ rest. replicate 8 0 ++ code_places (n - (i + 1)) rest) (sym (drop_all (i + 1) is (omega arith)))

-- a text is filled up with zeros
pub filled-zeros : (n : ℕ) (bs : List ℕ) → length bs ≤ n → filled n bs ≡ bs ++ replicate (n - length bs) 0
filled-zeros zero [] few = refl
filled-zeros zero (b ∷ bs) few = absurd (omega (arith, few))
filled-zeros (suc n) [] few = ap (λ zs. 0 ∷ zs) (filled-zeros n [] (omega arith)) ∙ sym (ap (λ k. replicate k 0) (next n))
  where
    next : (n : ℕ) → suc n - 0 ≡ suc (n - 0)
    next n = omega arith
filled-zeros (suc n) (b ∷ bs) few = ap (λ zs. b ∷ zs) (filled-zeros n bs (omega (arith, few)) ∙ ap (λ k. bs ++ replicate k 0) (omega arith))

-- the instructions after the first n; none if there are no more
pub drop-min : (is : List Instr) (n at : ℕ) → at ≡ min (length is) n → drop at is ≡ drop n is
drop-min [] n at h = drop_all at [] (omega arith) ∙ sym (drop_all n [] (omega arith))
drop-min (i ∷ is) zero at h = let none : at ≡ 0 = omega (arith, h) in ap (λ k. drop k (i ∷ is)) none
drop-min (i ∷ is) (suc n) zero h = absurd (omega (arith, h))
drop-min (i ∷ is) (suc n) (suc at) h = drop-min is n at (omega (arith, h))

-- the i-th place holds the i-th instruction
pub code-at : (n : ℕ) (is : List Instr) (i : ℕ) (d : Instr) (rest : List ℕ) → i < length is → i < n → (behind : List ℕ) × (drop (8 * i) (code_places n is ++ rest) ≡ instr_bytes (get_or is i d) ++ behind)
code-at n [] i d rest inside few = absurd (omega arith)
code-at zero (x ∷ is) i d rest inside few = absurd (omega arith)
code-at (suc n) (x ∷ is) zero d rest inside few = (code_places n is ++ rest, refl)
code-at (suc n) (x ∷ is) (suc i) d rest inside few =
    let further = code-at n is i d rest (omega arith) (omega arith) in
    let past : 8 + 8 * i ≡ 8 * suc i = omega arith in (
      further.0,
      ap (λ k. drop k ((instr_bytes x ++ code_places n is) ++ rest)) (sym past)
          ∙ (sym (drop-drop (8 * i) 8 ((instr_bytes x ++ code_places n is) ++ rest)) ∙ further.1),
    )

pub length-code_places : (n : ℕ) (is : List Instr) → length (code_places n is) ≡ 8 * n
length-code_places zero is = refl
length-code_places (suc n) [] = let rest = length-code_places n [] in omega (arith, rest)
length-code_places (suc n) (x ∷ is) = let rest = length-code_places n is in omega (arith, rest)

pub length-filled : (n : ℕ) (bs : List ℕ) → length (filled n bs) ≡ n
length-filled zero bs = refl
length-filled (suc n) [] = ap suc (length-filled n [])
length-filled (suc n) (b ∷ bs) = ap suc (length-filled n bs)

-- an instruction of a list that has one
pub any-instr : (is : List Instr) (i : ℕ) → i < length is → Instr
any-instr [] i inside = absurd (omega arith)
any-instr (x ∷ is) i inside = x

-- the last of a slot's sectors
last-of : (n : ℕ) (is : List Instr) (bytes d : List ℕ) → get_or (code_sectors n is ++ bytes ∷ []) n d ≡ bytes
last-of zero is bytes d = refl
last-of (suc n) is bytes d = last-of n (drop 64 is) bytes d

-- the instructions after the first n + 1 sectors full of code
pub drop-sectors : {X : Type 0} (n : ℕ) (xs : List X) → drop (64 * suc n) xs ≡ drop (64 * n) (drop 64 xs)
drop-sectors n xs =
    let all : 64 * suc n ≡ 64 + 64 * n = omega arith in
    ap (λ k. drop k xs) all ∙ sym (drop-drop (64 * n) 64 xs)

moved : (r i : ℕ) (xs ys zs : List ℕ) → r ≡ i → xs ≡ ys → drop (8 * i) ys ≡ zs → drop (8 * r) xs ≡ zs
moved r i xs ys zs same bytes stands = ap (λ k. drop (8 * k) xs) same ∙ ap (drop (8 * i)) bytes ∙ stands

further_on : (n m q r i : ℕ) (is : List Instr) (d : Instr) (behind rest : List ℕ) → 64 + (i - 64) ≡ i
    → drop (8 * r) (get_or (code_sectors n (drop 64 is) ++ (code_places m (drop (64 * n) (drop 64 is)) ++ behind) ∷ []) q []) ≡ instr_bytes (get_or (drop 64 is) (i - 64) d) ++ rest
    → drop (8 * r) (get_or (code_sectors n (drop 64 is) ++ (code_places m (drop (64 * suc n) is) ++ behind) ∷ []) q []) ≡ instr_bytes (get_or is i d) ++ rest
further_on n m q r i is d behind rest past stands =
    ap (λ xs. drop (8 * r) (get_or (code_sectors n (drop 64 is) ++ (code_places m xs ++ behind) ∷ []) q [])) (drop-sectors n is)
    ∙ stands
    ∙ ap (λ x. instr_bytes x ++ rest) (get_or-drop 64 is (i - 64) d ∙ ap (λ k. get_or is k d) past)

-- an instruction stands in the sector and at the place that its number gives
pub code-in : (n m q r i : ℕ) (is : List Instr) (d : Instr) (behind : List ℕ) → r < 64 → i ≡ 64 * q + r → i < length is → i < 64 * n + m → m ≤ 64
    → (rest : List ℕ) × (drop (8 * r) (get_or (code_sectors n is ++ (code_places m (drop (64 * n) is) ++ behind) ∷ []) q []) ≡ instr_bytes (get_or is i d) ++ rest)
code-in zero m zero r i is d behind low at inside room most =
    let place = code-at m is i d behind inside (omega (arith, room)) in
    (place.0, moved r i (code_places m is ++ behind) (code_places m is ++ behind) (instr_bytes (get_or is i d) ++ place.0) (omega (arith, at)) refl place.1)
code-in zero m (suc q) r i is d behind low at inside room most = absurd (omega (arith, at, room, most))
code-in (suc n) m zero r i is d behind low at inside room most =
    let place = code-at 64 is i d [] inside (omega (arith, at, low)) in
    (place.0, moved r i (code_places 64 is) (code_places 64 is ++ []) (instr_bytes (get_or is i d) ++ place.0) (omega (arith, at)) (sym (append-nil (code_places 64 is))) place.1)
code-in (suc n) m (suc q) r i is d behind low at inside room most =
    let left : length (drop 64 is) ≡ length is - 64 = length-drop 64 is in
    let further = code-in n m q r (i - 64) (drop 64 is) d behind low (omega (arith, at)) (omega (arith, left, inside, at)) (omega (arith, room, at)) most in
    (further.0, further_on n m q r i is d behind further.0 (omega (arith, at)) further.1)

regrouped : (a b c d e f : List ℕ) → (((((a ++ b) ++ c) ++ d) ++ e) ++ f) ≡ a ++ (b ++ (c ++ (d ++ (e ++ f))))
regrouped a b c d e f = simp append_assoc

-- the fields of a slot, each with what stands after it
abbrev pub fields_rest : WarriorParts → List Wins → List ℕ
fields_rest w results =
    bytes_high_first 2 (length w.code) ++ (bytes_high_first 2 w.start ++ (filled 48 w.name ++ (filled 48 w.author ++ (result_places results ++ replicate 40 0))))

fields-grouped : (w : WarriorParts) (results : List Wins) → fields_bytes w results ≡ fields_rest w results
unfolding fields_bytes
fields-grouped w results =
    regrouped (bytes_high_first 2 (length w.code)) (bytes_high_first 2 w.start) (filled 48 w.name) (filled 48 w.author) (result_places results) (replicate 40 0)

-- the sectors of a slot, with the code in them
pub code-stands : (layout : Layout) (sectors : List (List ℕ)) (w : WarriorParts) (results : List Wins) → sectors ≡ slot_bytes layout w results
    → sectors ≡ with_code layout w.code (replicate layout.zeros 0 ++ fields_bytes w results)
unfolding slot_bytes
code-stands layout sectors w results e = e

pub len-at : (layout : Layout) (sectors : List (List ℕ)) (w : WarriorParts) (results : List Wins) → sectors ≡ slot_bytes layout w results → drop 288 (last_sector layout sectors) ≡ fields_rest w results
len-at layout sectors w results e =
    let code : List ℕ = code_places layout.last (drop (64 * layout.full) w.code) in
    let zeros : List ℕ = replicate layout.zeros 0 in
    let long : length (code ++ zeros) ≡ 288 =
    length-append code zeros ∙ ap₂ (λ (a b : ℕ). a + b) (length-code_places layout.last (drop (64 * layout.full) w.code)) (length-replicate layout.zeros 0) ∙ layout.fields_at in
    ap (λ xs. drop 288 (last_sector layout xs)) (code-stands layout sectors w results e)
    ∙ ap (drop 288) (last-of layout.full w.code (code ++ (zeros ++ fields_bytes w results)) [] ∙ sym (append_assoc code zeros (fields_bytes w results)))
    ∙ drop_at (code ++ zeros) (fields_bytes w results) 288 long
    ∙ fields-grouped w results

pub start-at : (layout : Layout) (sectors : List (List ℕ)) (w : WarriorParts) (results : List Wins) → sectors ≡ slot_bytes layout w results → drop 290 (last_sector layout sectors) ≡ bytes_high_first 2 w.start ++ drop 4 (fields_rest w results)
start-at layout sectors w results e = sym (drop-drop 2 288 (last_sector layout sectors)) ∙ ap (drop 2) (len-at layout sectors w results e)

pub name-at : (layout : Layout) (sectors : List (List ℕ)) (w : WarriorParts) (results : List Wins) → sectors ≡ slot_bytes layout w results → drop 292 (last_sector layout sectors) ≡ filled 48 w.name ++ (filled 48 w.author ++ (result_places results ++ replicate 40 0))
name-at layout sectors w results e = sym (drop-drop 4 288 (last_sector layout sectors)) ∙ ap (drop 4) (len-at layout sectors w results e)

pub author-at : (layout : Layout) (sectors : List (List ℕ)) (w : WarriorParts) (results : List Wins) → sectors ≡ slot_bytes layout w results → drop 340 (last_sector layout sectors) ≡ filled 48 w.author ++ (result_places results ++ replicate 40 0)
author-at layout sectors w results e =
    sym (drop-drop 48 292 (last_sector layout sectors)) ∙ ap (drop 48) (name-at layout sectors w results e)
    ∙ drop_at (filled 48 w.name) (filled 48 w.author ++ (result_places results ++ replicate 40 0)) 48 (length-filled 48 w.name)

pub results-at : (layout : Layout) (sectors : List (List ℕ)) (w : WarriorParts) (results : List Wins) → sectors ≡ slot_bytes layout w results → drop 388 (last_sector layout sectors) ≡ result_places results ++ replicate 40 0
results-at layout sectors w results e =
    sym (drop-drop 48 340 (last_sector layout sectors)) ∙ ap (drop 48) (author-at layout sectors w results e)
    ∙ drop_at (filled 48 w.author) (result_places results ++ replicate 40 0) 48 (length-filled 48 w.author)

-- each sector that is full of code
full-of : (n : ℕ) (is : List Instr) (bytes d : List ℕ) (i : ℕ) → i < n → get_or (code_sectors n is ++ bytes ∷ []) i d ≡ code_places 64 (drop (64 * i) is)
full-of zero is bytes d i below = absurd (omega (arith, below))
full-of (suc n) is bytes d zero below = refl
full-of (suc n) is bytes d (suc i) below = full-of n (drop 64 is) bytes d i (omega (arith, below)) ∙ ap (code_places 64) (sym (drop-sectors i is))

pub full-at : (layout : Layout) (w : WarriorParts) (results : List Wins) (i : ℕ) (d : List ℕ) → i < layout.full → get_or (slot_bytes layout w results) i d ≡ code_places 64 (drop (64 * i) w.code)
unfolding slot_bytes
full-at layout w results i d below =
    full-of layout.full w.code (code_places layout.last (drop (64 * layout.full) w.code) ++ (replicate layout.zeros 0 ++ fields_bytes w results)) d i below

-- what is written of one
pub full-is : (layout : Layout) (w : WarriorParts) (results : List Wins) (code : List Instr) (i : ℕ) (e : List ℕ) → i < layout.full → e ≡ code_places 64 (drop (64 * i) code) → code ≡ w.code → e ≡ get_or (slot_bytes layout w results) i e
full-is layout w results code i e below wrote same = wrote ∙ ap (λ is. code_places 64 (drop (64 * i) is)) same ∙ sym (full-at layout w results i e below)

pub last-at : (layout : Layout) (w : WarriorParts) (results : List Wins) (d : List ℕ)
    → get_or (slot_bytes layout w results) layout.full d ≡ code_places layout.last (drop (64 * layout.full) w.code) ++ (replicate layout.zeros 0 ++ fields_bytes w results)
unfolding slot_bytes
last-at layout w results d =
    last-of layout.full w.code (code_places layout.last (drop (64 * layout.full) w.code) ++ (replicate layout.zeros 0 ++ fields_bytes w results)) d

-- a slot has all its sectors
length-sectors : (n : ℕ) (is : List Instr) (bytes : List ℕ) → length (code_sectors n is ++ bytes ∷ []) ≡ n + 1
length-sectors zero is bytes = refl
length-sectors (suc n) is bytes = let rest = length-sectors n (drop 64 is) bytes in omega (arith, rest)

pub length-slot : (layout : Layout) (w : WarriorParts) (results : List Wins) → length (slot_bytes layout w results) ≡ layout.full + 1
unfolding slot_bytes
length-slot layout w results =
    length-sectors layout.full w.code (code_places layout.last (drop (64 * layout.full) w.code) ++ (replicate layout.zeros 0 ++ fields_bytes w results))

some-made : {X : Type 0} (r : Option X) (P : Type 0) (v : X) → SomeIff r P v → P → r ≡ Some v
some-made None P v iff p = absurd (iff p)
some-made (Some x) P v iff p = ap Some iff.1

-- a warrior that is made of what was read is the one that stands there
pub warrior-made : (s : RawSettings) (code : List Instr) (start : ℕ) (name author : List ℕ) (w : WarriorParts) (r : Option WarriorParts) → code ≡ w.code → start ≡ w.start → name ≡ w.name → author ≡ w.author → Fits s w → SomeIff r (Fits s (warrior_parts code start name author)) (warrior_parts code start name author) → r ≡ Some w
warrior-made s code start name author w r c b n a fits iff =
    let same : warrior_parts code start name author ≡ w = λ i. record { code = c i; start = b i; name = n i; author = a i } in
    some-made r (Fits s (warrior_parts code start name author)) (warrior_parts code start name author) iff (subst (Fits s) (sym same) fits) ∙ ap Some same
