-- The part is taken, or isn't.
use Rattle.{std.proofs.{Common.{length}, KnownBytes.Keeps-refl}, koth_standings.specs.PartText.{head_parts, part_parts}}
use Rattle.koth_rank.proofs.PartsJoined.{fails_one, joined_one}
use Rattle.koth_rank.proofs.joining.take_part.Goals as goal

pub returns-in-Ok-clause-joins : goal.returns-in-Ok-clause-joins
returns-in-Ok-clause-joins g c = (
  joined_one (head_parts c.args.first) (length c.args.standings.now.counts) c.args.number (part_parts c.args.part.now) c.args.standings.now c.join_part.new.standings
      c.requires c.in-Ok.ensures.parts,
  Keeps-refl (g.E.Write.contents c.args.errors.now),
)

pub returns-in-Err-clause-joins : goal.returns-in-Err-clause-joins
returns-in-Err-clause-joins g c = fails_one _ _ _ _ _ _ _ _ c.not_taken.ensures
