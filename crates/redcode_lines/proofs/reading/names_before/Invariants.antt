-- Names so far.
use Rattle.{std.proofs.Common.{◌≡◌, ◌++◌, take, drop}, redcode_text.specs.Tokens.pieces, redcode_lines.specs.Line.{taken_while, dropped_while, is_name_token}}
use Rattle.redcode_lines.proofs.reading.names_before.Given as goal

abbrev pub invariant-loop-i : goal.invariant-loop-i
invariant-loop-i l =
    (pieces (take l.i l.tokens) ++ taken_while is_name_token (pieces (drop l.i l.tokens)) ≡ taken_while is_name_token (pieces l.tokens))
    × (dropped_while is_name_token (pieces (drop l.i l.tokens)) ≡ dropped_while is_name_token (pieces l.tokens))
