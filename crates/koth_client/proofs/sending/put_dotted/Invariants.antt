-- What was put, and what is to come, is what the whole source gives.
use Rattle.{std.proofs.Common.{◌≡◌, ◌++◌, drop, true}, koth_client.specs.Sending.dotted_from}
use Rattle.koth_client.proofs.sending.put_dotted.Given as goal

abbrev pub invariant-loop-byte : goal.invariant-loop-byte
invariant-loop-byte g l = l.text.items ++ dotted_from l.starts (drop l.byte-index l.source) ≡ l.fn.text.items ++ dotted_from true l.source
