-- The core at the beginning of a round.
use lib.Seq.{paste}
use Rattle.std.proofs.Common.{◌≡◌, ℕ, ◌+◌, ◌-◌, ◌<◌, ◌≤◌, List, ◌++◌, length, replicate, get_or, set, take, drop, sym, ap, ap₂, ◌∙◌, arith, append_assoc, length-append, zero-add}
use Rattle.std.proofs.{lemmas.List.{length-replicate, drop-replicate, replicate-append-replicate, take_at, drop_at, drop-drop}, lemmas.List.Elements.All-replicate}
use Rattle.{std.proofs.lemmas.List.Edits.paste_more, war_types.specs.{declared.instr.Instr.Instr, Warrior.HasNumbersBelow}, mars_core.specs.{Cells.{IsCore, blank}, Round.loaded}}

-- a core of blank cells is one
pub IsCore-replicate : (size : ℕ) (core : List Instr) → 1 ≤ size → core ≡ replicate size blank → IsCore size core
IsCore-replicate size core some is = rw is (record {
  some = some;
  length = length-replicate size blank;
  numbers = All-replicate (HasNumbersBelow size) size blank (record { a = some; b = some });
})

pub IsCore-blank : (size : ℕ) (core new : List Instr) → IsCore size core → new ≡ replicate (length core) blank → IsCore size new
IsCore-blank size core new h is = IsCore-replicate size new h.some (is ∙ ap (λ (n : ℕ). replicate n blank) h.length)

-- the next instruction of a code is put after those before it
pub paste-put : (core code before new : List Instr) (size at from n : ℕ) (i d : Instr) → IsCore size core → at + length code ≤ size → n < length code →
    before ≡ paste core at code n → from ≡ at → i ≡ get_or code n d → new ≡ set before (from + n) i → new ≡ paste core at code (n + 1)
paste-put core code before new size at from n i d h inside below is_before is_from is_i is_new =
    let within : at + n < length core = omega (arith, h.length) in
    rw (is_new, is_before, is_from, is_i) (paste_more core at code n d within below)

-- after the first code there are blank cells up to the second code, under it, and after it
blanks : (code0 : List Instr) (size at n : ℕ) → length code0 ≤ at → at + n ≤ size →
    code0 ++ drop (length code0) (replicate size blank) ≡ (code0 ++ replicate (at - length code0) blank) ++ (replicate n blank ++ replicate (size - (at + n)) blank)
blanks code0 size at n apart inside =
    let two = replicate-append-replicate n (size - (at + n)) blank in
    let three = replicate-append-replicate (at - length code0) (n + (size - (at + n))) blank in
    let count : at - length code0 + (n + (size - (at + n))) ≡ size - length code0 = omega arith in
    ap (λ (xs : List Instr). code0 ++ xs) (drop-replicate (length code0) size blank ∙ (ap (λ (k : ℕ). replicate k blank) (sym count) ∙ (sym three ∙ ap (λ (xs : List Instr). replicate (at - length code0) blank ++ xs) (sym two))))
    ∙ sym (append_assoc code0 (replicate (at - length code0) blank) (replicate n blank ++ replicate (size - (at + n)) blank))

-- both codes put into a blank core
pub loaded-put : (code0 code1 core clear first both : List Instr) (size position : ℕ) → length code0 ≤ position → position + length code1 ≤ size → length core ≡ size →
    clear ≡ replicate (length core) blank → first ≡ take 0 clear ++ code0 ++ drop (0 + length code0) clear →
    both ≡ take position first ++ code1 ++ drop (position + length code1) first → both ≡ loaded size code0 code1 position
loaded-put code0 code1 core clear first both size position apart inside long is_clear is_first is_both =
    let front = code0 ++ replicate (position - length code0) blank in
    let behind = replicate (size - (position + length code1)) blank in
    let under = replicate (length code1) blank in
    let cleared : clear ≡ replicate size blank = is_clear ∙ ap (λ (n : ℕ). replicate n blank) long in
    let split : first ≡ front ++ (under ++ behind) =
    is_first ∙ (ap (λ (n : ℕ). code0 ++ drop n clear) (zero-add (length code0)) ∙ (ap (λ (xs : List Instr). code0 ++ drop (length code0) xs) cleared ∙ blanks code0 size position (length code1) apart inside)) in
    let length_front : length front ≡ position = omega (arith, length-append code0 (replicate (position - length code0) blank), length-replicate (position - length code0) blank) in
    let taken : take position (front ++ (under ++ behind)) ≡ front = take_at front (under ++ behind) position length_front in
    let past_front : drop position (front ++ (under ++ behind)) ≡ under ++ behind = drop_at front (under ++ behind) position length_front in
    let left : drop (length code1) (under ++ behind) ≡ behind = drop_at under behind (length code1) (length-replicate (length code1) blank) in
    let past_both : drop (position + length code1) (front ++ (under ++ behind)) ≡ behind =
    sym (drop-drop (length code1) position (front ++ (under ++ behind))) ∙ (ap (drop (length code1)) past_front ∙ left) in
    is_both ∙ (ap (λ (xs : List Instr). take position xs ++ code1 ++ drop (position + length code1) xs) split ∙ ap₂ (λ (xs ys : List Instr). xs ++ code1 ++ ys) taken past_both)
