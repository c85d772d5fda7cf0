-- What was read so far is followed, and a byte was read of what waited if a command was met.
use Rattle.std.proofs.Common.{◌≡◌, ℕ, ◌<◌, ◌≤◌, true, false, List, length}
use Rattle.{koth_protocol.specs.Commands.{Command, Reader}, koth_session.specs.Inbox.{IsFollowed, is_met}}
use Rattle.koth_session.proofs.inbox.Inbox.read_on.Given as goal

abbrev pub invariant-bytes : goal.invariant-bytes
invariant-bytes g l = record {
  reads : (reader : Reader) (came : List ℕ) (done : List Command) → IsFollowed reader l.fn.self came done → IsFollowed reader l.self came done;
  few : length l.self.waiting ≤ length l.fn.self.waiting;
  fewer : is_met l.fn.self.due ≡ false → is_met l.self.due ≡ true → length l.self.waiting < length l.fn.self.waiting;
  due : is_met l.fn.self.due ≡ true → l.self.due ≡ l.fn.self.due;
  source : is_met l.fn.self.due ≡ true → l.self.script.source ≡ l.fn.self.script.source;
}

abbrev pub decreases-bytes : goal.decreases-bytes
decreases-bytes g l = length l.self.waiting
