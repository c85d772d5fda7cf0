-- The line, with the text of the bytes that are left, is the line with the text of all of them.
use Rattle.{std.proofs.Common.{◌≡◌, ◌++◌, length}, std.specs.List.flat_map, koth_json.specs.Strings.{byte_text, mended}}
use Rattle.koth_json.proofs.string.put_content.Given as goal

abbrev pub invariant-loop-fault : goal.invariant-loop-fault
invariant-loop-fault g l = l.line.items ++ flat_map byte_text (mended l.rest) ≡ l.fn.line.items ++ flat_map byte_text (mended l.fn.bytes)

abbrev pub decreases-loop-fault : goal.decreases-loop-fault
decreases-loop-fault g l = length l.rest
