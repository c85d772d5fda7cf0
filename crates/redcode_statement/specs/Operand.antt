-- An operand: its mode, and the value of its expression.
use Rattle.std.specs.Prelude.{ℕ, List, [], ◌∷◌, Option, Some, None, Ok, ℤ, pos}
use Rattle.{war_types.specs.declared.instr.Mode.Mode, redcode_text.specs.{Tokens.Piece, Value.value_of, Vocabulary.{named, mode_names}}, redcode_statement.specs.declared.operand.Operand.Operand}

-- the operand if none is written
abbrev pub direct_zero : Operand
direct_zero = record { mode = Mode.Direct; value = Ok (pos 0) }

-- an operand after its mode, or from its first token on if no mode stands there, which is $ then
abbrev pub operand_with : (List ℕ → Option ℤ) → Option Mode → List Piece → List Piece → Operand
operand_with names (Some mode) whole behind = record { mode = mode; value = value_of names behind }
operand_with names None whole behind = record { mode = Mode.Direct; value = value_of names whole }

-- the operand of these tokens, by what the names stand for
abbrev pub operand_of : (List ℕ → Option ℤ) → List Piece → Operand
operand_of names [] = direct_zero
operand_of names (t ∷ ts) = operand_with names (named mode_names t.text) (t ∷ ts) ts
