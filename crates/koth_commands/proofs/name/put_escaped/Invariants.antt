-- The bytes so far are put.
use Rattle.{std.proofs.Common.{◌≡◌, ◌++◌, take}, std.specs.List.flat_map, koth_commands.specs.Name.byte_shown}
use Rattle.koth_commands.proofs.name.put_escaped.Given as goal

abbrev pub invariant-loop-byte : goal.invariant-loop-byte
invariant-loop-byte g l = l.text.items ≡ l.fn.text.items ++ flat_map byte_shown (take l.byte-index l.bytes)
