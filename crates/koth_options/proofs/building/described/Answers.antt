-- A text of help changes no word.
use Rattle.koth_options.proofs.Build.{changed}
use Rattle.koth_options.proofs.building.described.Goals as goal

pub returns : goal.returns
returns c = changed _ c.about.ensures c.new.ensures.app c.new.ensures.local
