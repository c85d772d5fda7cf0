-- Each byte so far passes.
use Rattle.{std.proofs.Common.{◌≡◌, drop}, std.specs.List.list_all, redcode_text.specs.Bytes.is_name_byte}
use Rattle.redcode_define.proofs.words.are_name_bytes.Given as goal

abbrev pub invariant-loop-byte : goal.invariant-loop-byte
invariant-loop-byte l = list_all is_name_byte (drop l.byte-index l.text) ≡ list_all is_name_byte l.text
