-- What was written, and the tokens left; the steps so far and those of the tokens left are no more than all.
use Rattle.{std.proofs.Common.{◌≡◌, ◌≤◌, ◌+◌, suc, drop}, redcode_text.specs.Tokens.pieces, redcode_names.specs.{Written.written, Steps.rounds_steps}}
use Rattle.redcode_names.proofs.rounds.+write.Given as goal

abbrev pub invariant-loop-token : goal.invariant-loop-token
invariant-loop-token g l =
    (written (suc l.rounds) l.line l.equs (pieces l.out.items) (pieces (drop l.token-index l.tokens))
    ≡ written (suc l.rounds) l.line l.equs (pieces l.initial.out.items) (pieces l.tokens))
    × (l.work + rounds_steps l.rounds l.equs (pieces (drop l.token-index l.tokens)) ≤ l.initial.work + rounds_steps l.rounds l.equs (pieces l.tokens))

abbrev pub decreases-write : goal.decreases-write
decreases-write g l = l.rounds
