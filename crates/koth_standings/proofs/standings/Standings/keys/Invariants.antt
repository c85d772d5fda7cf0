-- The keys of the first places.
use Rattle.{std.{proofs.Common.{◌≡◌, map}, specs.List.range_with_len}, koth_standings.specs.Ranking.key_at}
use Rattle.koth_standings.proofs.standings.Standings.keys.Given as goal

abbrev pub invariant-loop-place : goal.invariant-loop-place
invariant-loop-place g l = l.keys.items ≡ map (key_at l.self.counts) (range_with_len 0 l.place)
