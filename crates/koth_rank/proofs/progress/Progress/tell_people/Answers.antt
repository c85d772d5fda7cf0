-- Some text is written, or none.
use Rattle.koth_commands.proofs.Told.{writes_nothing}
use Rattle.koth_rank.proofs.progress.Progress.tell_people.Goals as goal

pub returns-in_default : goal.returns-in_default
returns-in_default g c = writes_nothing (g.E.Write.contents c.args.errors.now)
