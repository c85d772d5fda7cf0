-- The places of the first keys.
use Rattle.{std.proofs.Common.{◌≡◌, take}, koth_standings.specs.Ranking.places_of}
use Rattle.koth_standings.proofs.ranking.places_of.Given as goal

abbrev pub invariant-loop-key : goal.invariant-loop-key
invariant-loop-key g l = l.places.items ≡ places_of (take l.key-index l.keys)
