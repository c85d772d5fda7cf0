-- The characters so far are put.
use Rattle.{std.proofs.Common.{◌≡◌, ◌++◌}, std.specs.List.flat_map, koth_text.specs.Escape.character_text}
use Rattle.koth_text.proofs.escape.put_characters.Given as goal

abbrev pub invariant-loop-character : goal.invariant-loop-character
invariant-loop-character g l = l.page.items ≡ l.fn.page.items ++ flat_map character_text l.yielded
