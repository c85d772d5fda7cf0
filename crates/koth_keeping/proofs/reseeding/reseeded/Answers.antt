-- A hill that was created is held, of no sources.
use Rattle.koth_keeping.proofs.reseeding.reseeded.Goals as goal

pub returns-in-Ok : goal.returns-in-Ok
returns-in-Ok g c = c.resubmitted.ensures c.args.settings (c.in-Ok.ensures.holds tt)
