-- The first parts are joined.
use Rattle.{std.{proofs.Common.{◌≡◌, length}, specs.Io.KnownBytes.Keeps}, koth_standings.specs.PartText.head_parts, koth_rank.specs.Join.Joined}
use Rattle.koth_rank.proofs.joining.join_all.Given as goal

abbrev pub invariant-loop-place : goal.invariant-loop-place
invariant-loop-place g l = record {
  joined : Joined (head_parts l.first) (length l.standings.counts) l.place l.standings;
  many : length l.standings.counts ≡ length l.fn.standings.counts;
  kept : Keeps (g.E.Write.contents l.fn.errors) (g.E.Write.contents l.errors);
}
