-- The names so far, and what the name that was found last and those of what is left make of them.
use Rattle.{std.proofs.Common.{◌≡◌, ◌++◌, drop, option_map, option_to_list}, redcode_text.specs.Tokens.pieces, redcode_lines.specs.Line.names_among, redcode_names.specs.Name.but_last}
use Rattle.redcode_names.proofs.names.Names.define_but_last.Given as goal

abbrev pub invariant-loop-label : goal.invariant-loop-label
invariant-loop-label g l =
    but_last l.settings l.number l.address (option_to_list (option_map (λ text. text.now) l.name) ++ names_among (pieces (drop l.label-index l.labels))) l.self
    ≡ but_last l.settings l.number l.address (names_among (pieces l.labels)) l.initial.self
