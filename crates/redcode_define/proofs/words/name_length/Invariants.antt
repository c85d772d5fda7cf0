-- No equals sign so far.
use Rattle.{std.proofs.Common.{◌≡◌, ◌+◌, drop}, std.specs.List.prefix_len, redcode_define.specs.Definition.is_no_equals}
use Rattle.redcode_define.proofs.words.name_length.Given as goal

abbrev pub invariant-loop-i : goal.invariant-loop-i
invariant-loop-i l = l.i + prefix_len is_no_equals (drop l.i l.text) ≡ prefix_len is_no_equals l.text
