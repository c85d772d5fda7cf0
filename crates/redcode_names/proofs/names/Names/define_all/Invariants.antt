-- The names so far, and the labels of what is left.
use Rattle.{std.proofs.Common.{◌≡◌, drop}, redcode_text.specs.Tokens.pieces, redcode_lines.specs.Line.names_among, redcode_names.specs.Name.all_defined}
use Rattle.redcode_names.proofs.names.Names.define_all.Given as goal

abbrev pub invariant-loop-label : goal.invariant-loop-label
invariant-loop-label g l =
    all_defined l.settings l.number l.address (names_among (pieces (drop l.label-index l.labels))) l.self
    ≡ all_defined l.settings l.number l.address (names_among (pieces l.labels)) l.initial.self
