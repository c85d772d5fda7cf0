-- Each byte so far passes.
use Rattle.{std.proofs.Common.{◌≡◌, drop}, std.specs.List.list_all, redcode_define.specs.Definition.is_body_byte}
use Rattle.redcode_define.proofs.words.is_body.Given as goal

abbrev pub invariant-loop-byte : goal.invariant-loop-byte
invariant-loop-byte l = list_all is_body_byte (drop l.byte-index l.text) ≡ list_all is_body_byte l.text
