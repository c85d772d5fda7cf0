-- When two instructions are equal (the 1994 draft standard, "Instructions"; SEQ and SNE as in pMARS).
use Rattle.std.specs.{Prelude.{Bool, ◌&&◌, ◌==◌}, List.list_all}
use Rattle.war_types.specs.{declared.instr.Modifier.Modifier, declared.instr.Instr.Instr}
use Rattle.war_types.specs.Bytes.{op_code, modifier_code, mode_code}
use Rattle.mars_words.specs.{Numbers.number, Pairs.pairs}

abbrev pub numbers_equal : Modifier → Instr → Instr → Bool
numbers_equal modifier a b = list_all (λ p. number p.source a == number p.target b) (pairs modifier)

-- the same operation, modifier and modes
abbrev pub kinds_equal : Instr → Instr → Bool
kinds_equal a b =
    op_code a.op == op_code b.op
    && modifier_code a.modifier == modifier_code b.modifier
    && mode_code a.a_mode == mode_code b.a_mode
    && mode_code a.b_mode == mode_code b.b_mode

-- SEQ: all pairs are equal; under .I all else too
abbrev pub are_equal : Modifier → Instr → Instr → Bool
are_equal Modifier.I a b = kinds_equal a b && numbers_equal Modifier.I a b
are_equal modifier a b = numbers_equal modifier a b
