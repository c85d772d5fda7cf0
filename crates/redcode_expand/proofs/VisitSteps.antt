-- The steps of a visit to a line.
use Rattle.std.proofs.Common.{◌≡◌, ◌≢◌, ℕ, zero, suc, ◌+◌, ◌*◌, ◌/◌, ◌≤◌, ◌<◌, true, false, Bool, ◌||◌, List, length, drop, refl, sym, ap, ◌∙◌, arith}
use Rattle.std.proofs.{Common.{inl, inr}, Math.Nat.mul-le-mul, lemmas.Bool.{true≢false, cases_Bool}, lemmas.List.drop_all}
use Rattle.std.specs.Prelude.{if◌then◌else◌}
use Rattle.redcode_expand.specs.{Marks.{has_join, is_bare, is_long, line_in, shortened, IsNextRof}, Steps.{bytes_of, read_steps, rof_steps, tokens_of, visit_steps}, declared.marked_lines.Edge.Edge}
use Rattle.redcode_expand.proofs.{Words.{SourceLine, Blocks, parsed, has_and}, Marks.ends-with, Short.long-parts}

pub visit-least : (n : ℕ) (line : SourceLine) → read_steps line ≤ visit_steps n line
visit-least zero line = omega arith
visit-least (suc n) line = omega arith

sixteenth : (a b : ℕ) → a ≤ b → a / 16 ≤ b / 16
sixteenth a b few = omega (arith, few)

-- a line that joins, within blocks
pub visit-joins : (n : ℕ) (line : SourceLine) (tokens times bytes : ℕ) → n ≢ 0 → has_join line ≡ true → tokens ≤ tokens_of line → times ≤ n + bytes / 16
    → bytes ≤ bytes_of line.front + bytes_of line.tokens → read_steps line + tokens * times ≤ visit_steps n line
visit-joins zero line tokens times bytes some joins few less read = absurd (some refl)
visit-joins (suc n) line tokens times bytes some joins few less read =
    let all : ℕ = bytes_of line.front + bytes_of line.tokens in
    rw joins (omega (arith, mul-le-mul few (within (suc n) times bytes all less (sixteenth bytes all read))))
  where
    within : (n times bytes all : ℕ) → times ≤ n + bytes / 16 → bytes / 16 ≤ all / 16 → times ≤ n + all / 16
    within n times bytes all h1 h2 = omega (arith, h1, h2)

-- one that joins has all of its tokens
pub joins-shortened : (line : SourceLine) → has_join line ≡ true → has_join (shortened line) ≡ true
joins-shortened line joins = elim (cases_Bool (is_long line)) [
  | inl long ↦
      let parts = long-parts _ _ (has_and line.front) (has_and line.tokens) long in
      absurd (true≢false (sym joins ∙ none (has_and line.front) (has_and line.tokens) parts.1 parts.2))
  | inr other ↦ rw other joins
]
  where
    none : (a b : Bool) → a ≡ false → b ≡ false → (a || b) ≡ false
    none a b h1 h2 = grind arith

-- ---- the ROF of a FOR

pub no-end : (visit : SourceLine → ℕ) (ls : List SourceLine) (at rof : ℕ) → IsNextRof ls (at + 1) rof → length ls ≤ rof → rof_steps visit Edge.For (parsed (drop (at + 1) ls)).1 ≡ 0
no-end visit ls at rof own over = rw (sym own.rofs, drop_all rof ls over) refl

pub its-end : (visit : SourceLine → ℕ) (ls : List SourceLine) (at rof : ℕ) → IsNextRof ls (at + 1) rof → rof < length ls
    → rof_steps visit Edge.For (parsed (drop (at + 1) ls)).1 ≡ (if is_bare (line_in ls rof) then 0 else visit (line_in ls rof))
its-end visit ls at rof own there = ap (λ (rofs : List (SourceLine × Blocks)). rof_steps visit Edge.For rofs) (ends-with ls at rof own there)

pub bare-end : (visit : SourceLine → ℕ) (ls : List SourceLine) (at rof : ℕ) → IsNextRof ls (at + 1) rof → rof < length ls → is_bare (line_in ls rof) ≡ true
    → rof_steps visit Edge.For (parsed (drop (at + 1) ls)).1 ≡ 0
bare-end visit ls at rof own there bare = its-end visit ls at rof own there ∙ rw bare refl

pub full-end : (visit : SourceLine → ℕ) (ls : List SourceLine) (at rof : ℕ) → IsNextRof ls (at + 1) rof → rof < length ls → is_bare (line_in ls rof) ≡ false
    → rof_steps visit Edge.For (parsed (drop (at + 1) ls)).1 ≡ visit (line_in ls rof)
full-end visit ls at rof own there full = its-end visit ls at rof own there ∙ rw full refl
