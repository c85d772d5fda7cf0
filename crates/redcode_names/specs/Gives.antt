-- What a function answers if memory may run out.
use Rattle.std.specs.Prelude.{◌≡◌, ◌⊎◌, ℕ, Result, Ok, Err}
use Rattle.war_types.specs.{declared.fault.AsmFault.AsmFault, declared.fault.AsmKind.AsmKind, Fault.no_memory}

infixl 10 ◌>>=◌
abbrev pub ◌>>=◌ : {A B : Type 0} → Result A AsmFault → (A → Result B AsmFault) → Result B AsmFault
(Ok x) >>= f = f x
(Err fault) >>= f = Err fault

abbrev pub fault_at : ℕ → AsmKind → AsmFault
fault_at line kind = record { line = line; kind = kind }

-- a refusal is the one that is due, unless memory ran out
abbrev pub Fails : {Y : Type 0} → AsmFault → Result Y AsmFault → Type 0
Fails fault due = (fault ≡ no_memory) ⊎ (due ≡ Err fault)

-- what was found, seen by view, is what is due, unless memory ran out
abbrev pub Gives : {X Y : Type 0} → (X → Y) → Result X AsmFault → Result Y AsmFault → Type 0
Gives view (Ok x) due = due ≡ Ok (view x)
Gives view (Err fault) due = Fails fault due
