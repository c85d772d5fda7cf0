-- Each byte so far belongs to the token.
use Rattle.{std.proofs.Common.{◌≡◌, ◌+◌, drop}, std.specs.List.prefix_len, redcode_text.specs.Bytes.goes_on}
use Rattle.redcode_text.proofs.scanner.word_length.Given as goal

abbrev pub invariant-loop-i : goal.invariant-loop-i
invariant-loop-i l = l.i + prefix_len (goes_on l.letters) (drop l.i l.bytes) ≡ prefix_len (goes_on l.letters) l.bytes
