-- The characters so far are put.
use Rattle.{std.proofs.Common.{◌≡◌, ◌++◌}, std.specs.List.flat_map, koth_commands.specs.Name.shown_character}
use Rattle.koth_commands.proofs.name.put_name.Given as goal

abbrev pub invariant-loop-character : goal.invariant-loop-character
invariant-loop-character g l = l.text.items ≡ l.fn.text.items ++ flat_map shown_character l.yielded
