-- The names so far, and those among the labels that are left, are those among all labels.
use Rattle.{std.proofs.Common.{◌≡◌, ◌++◌, length, map}, std.specs.List.filter, redcode_text.specs.Tokens.pieces, redcode_lines.specs.Line.names_among, redcode_scene.specs.Nearest.is_known}
use Rattle.redcode_scene.proofs.known.add_labels.Given as goal

abbrev pub invariant-loop-rest : goal.invariant-loop-rest
invariant-loop-rest g l =
    map (λ name. name.now) l.names.items ++ filter (is_known l.expanded l.is_equ) (names_among (pieces l.rest))
    ≡ map (λ name. name.now) l.initial.names.items ++ filter (is_known l.expanded l.is_equ) (names_among (pieces l.labels))

abbrev pub decreases-loop-rest : goal.decreases-loop-rest
decreases-loop-rest g l = length l.rest
