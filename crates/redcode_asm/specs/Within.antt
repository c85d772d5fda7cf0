-- What an assembly within a budget of steps answers.
use Rattle.std.specs.Prelude.{◌≡◌, ◌≤◌, ◌+◌, ℕ, List, length, Bool, true, false, ◌&&◌, if◌then◌else◌, Result, Ok, Err}
use Rattle.{war_types.specs.{declared.fault.AsmFault.AsmFault, declared.fault.AsmKind.AsmKind, declared.settings.RawSettings.RawSettings, Warrior.WarriorParts}, redcode_asm.specs.{declared.within.Unassembled.Unassembled, Assembly.Assembles}, redcode_expand.specs.{Budget.most_steps, Steps.is_plain, Taken.steps_taken}}
use Rattle.redcode_asm.specs.declared.within.Unassembled.TheVariants as why

abbrev pub refused : AsmFault → Unassembled
refused fault = why.Refused fault

abbrev pub is_memory : AsmKind → Bool
is_memory AsmKind.Memory = true
is_memory _ = false

-- spent steps end an assembly as memory that ran out does
abbrev pub cause_of : AsmFault → Bool → Unassembled
cause_of fault are_spent = if are_spent && is_memory fault.kind then why.StepsSpent else why.Refused fault

-- an assembly of this source may take this number of steps: under some settings it takes as many; if no line of it is a FOR or an EQU, they are one more
-- than its bytes at most
abbrev pub MaySpend : ℕ → List ℕ → Type 0
MaySpend steps source =
    (length source ≤ 65536) × (steps ≤ most_steps (length source)) × (is_plain source ≡ true → steps ≤ length source + 1)
    × ((s : RawSettings) × (steps ≤ steps_taken s source))

-- An answer that is given is what was expected, unless memory ran out. Steps that are spent say nothing about it, but for what is so then.
abbrev pub AssemblesWithin : Type 0 → Result WarriorParts Unassembled → Result WarriorParts AsmFault → Type 0
AssemblesWithin Spent (Ok warrior) expected = expected ≡ Ok warrior
AssemblesWithin Spent (Err (why.Refused fault)) expected = Assembles (Err fault) expected
AssemblesWithin Spent (Err why.StepsSpent) expected = Spent
