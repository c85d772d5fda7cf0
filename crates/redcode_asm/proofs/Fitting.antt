-- A warrior of code of the right length, with its start in it and its numbers below the core size, fits.
use Rattle.{std.proofs.Common.{◌≡◌, ℕ, ◌<◌, ◌≤◌, List, length, Option, None, Some, Result, Ok, ℤ, IfOk, refl, subst, arith}, std.specs.{Prelude.IsSome, Option.SomeIff}}
use Rattle.{std.proofs.{lemmas.Bool.Decides.nat_tests, lemmas.List.Elements.All-from_recursion}, war_types.specs.{declared.fault.AsmFault.AsmFault, declared.instr.Instr.Instr}}
use Rattle.{war_types.specs.{declared.settings.RawSettings.RawSettings, Settings.AreSettings, Warrior.{HasNumbersBelow, Fits, warrior_parts}}, redcode_statement.specs.Chain.◌>>=◌}
use Rattle.{redcode_names.specs.Name.LabelList, redcode_expand.specs.Expansion.ExpandedLine}
use Rattle.{redcode_asm.specs.Assembly.{Placed, all_said, code_of, of_length, start_of, checked_start, given_start, all_hold}, redcode_asm.proofs.Bounds.{HasCode, below-all_said}}

-- a start that was found is one of few instructions
found : (limit : ℕ) (code : List Instr) (given : Option (ℕ × ℤ)) (held : Result (Unit {0}) AsmFault) (start : ℕ)
    → (of_length limit code >>= λ _. start_of (length code) given >>= λ start. held >>= λ _. Ok start) ≡ Ok start → (start < length code) × (length code ≤ limit)
found limit code given held start is = grind (arith, nat_tests)

-- so the warrior of what lines say fits the settings
pub Fits-said : (s : RawSettings) (labels : LabelList) (lines : List ExpandedLine) (said : List Placed) (code : List Instr) (start : ℕ)
    → AreSettings s → all_said s labels lines ≡ Ok said → code_of said ≡ code → checked_start s.length said ≡ Ok start → (name author : List ℕ) → Fits s (warrior_parts code start name author)
Fits-said s labels lines said code start are says is starts name author =
    let parts = found s.length (code_of said) (given_start said) (all_hold said) start starts in
    let numbers : HasCode s.core said = subst (λ (r : Result (List Placed) AsmFault). IfOk r (HasCode s.core)) says (below-all_said s labels lines (omega (arith, are.core_least))) in
    rw (← is) (record { start = parts.0; length = parts.1; numbers = All-from_recursion (HasNumbersBelow s.core) (code_of said) numbers })

-- a value exactly when a fact holds, and it holds
pub IsSome-from_iff : {T : Type 0} (o : Option T) (P : Type 0) (v : T) → SomeIff o P v → P → IsSome o
IsSome-from_iff None P v h p = absurd (h p)
IsSome-from_iff (Some x) P v h p = refl
