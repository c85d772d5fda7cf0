-- No separator so far.
use Rattle.std.proofs.Common.{◌≡◌, ℕ, ◌<◌, ◌==◌, false, get_or}
use Rattle.koth_http.proofs.target.cut.Given as goal

abbrev pub invariant-loop-at : goal.invariant-loop-at
invariant-loop-at l = (k : ℕ) → k < l.at → (get_or l.text k 0 == l.separator) ≡ false
