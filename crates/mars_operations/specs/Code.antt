-- Of the code alone: what its own values are in the words of the definitions. No definition names a word of this file.
use Rattle.std.specs.Prelude.{ℕ, List, [], ◌∷◌}
use Rattle.mars_operations.specs.{declared.effect.Queued.Queued, Operand.Operand}
use Rattle.mars_operations.specs.declared.operand.Operand as code_operand

abbrev pub operand_of : code_operand.Operand → Operand
operand_of o = record { pointer = o.pointer; target = o.target; register = o.register.instr }

-- the addresses that it names one by one
abbrev pub addresses : Queued → List ℕ
addresses Queued.Nothing = []
addresses (Queued.One a) = a ∷ []
addresses (Queued.Two a b) = a ∷ b ∷ []
