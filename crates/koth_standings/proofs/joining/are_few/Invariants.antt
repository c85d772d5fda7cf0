-- None of the first has more.
use Rattle.{std.proofs.Common.{◌≤◌, All, take}, koth_standings.specs.Standings.{rounds_in}}
use Rattle.koth_standings.proofs.joining.are_few.Given as goal

abbrev pub invariant-loop-place : goal.invariant-loop-place
invariant-loop-place l = All (λ t. rounds_in t ≤ l.most) (take l.place l.counts)
