-- The text of the first bytes is put.
use Rattle.{std.proofs.Common.{◌≡◌, ◌++◌, take}, std.specs.List.flat_map, koth_news.specs.Strings.byte_text}
use Rattle.koth_news.proofs.string.put_bytes.Given as goal

abbrev pub invariant-loop-byte : goal.invariant-loop-byte
invariant-loop-byte g l = l.line.items ≡ l.fn.line.items ++ flat_map byte_text (take l.byte-index l.bytes)
