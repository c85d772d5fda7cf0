-- For people, some text is written.
use Rattle.{std.proofs.Common.{refl, subst, sym}, koth_commands.proofs.Told.in_part, koth_contests.specs.Met.Notes}
use Rattle.koth_contests.proofs.meeting.tell_progress.Goals as goal

pub returns-in-Ok : goal.returns-in-Ok
returns-in-Ok g c =
    subst (λ v. Notes v (g.E.Write.contents c.args.errors.now) (g.E.Write.contents c.write_whole.new.output)) (sym c.in-Table.is)
    (_, in_part c.write_whole.result _ _ _ _ refl c.write_whole.ensures.whole c.write_whole.ensures.part)
