-- The characters so far are put.
use Rattle.{std.proofs.Common.◌≡◌, std.specs.List.flat_map, koth_commands.specs.Name.shown_in_lines}
use Rattle.koth_commands.proofs.name.lines_text.Given as goal

abbrev pub invariant-loop-character : goal.invariant-loop-character
invariant-loop-character g l = l.text.items ≡ flat_map shown_in_lines l.yielded
