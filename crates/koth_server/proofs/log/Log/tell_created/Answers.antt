-- The hint stands after the line of the hill.
use Rattle.koth_commands.proofs.Told.{writes_more}
use Rattle.koth_server.proofs.log.Log.tell_created.Goals as goal

pub returns : goal.returns
returns g c = writes_more _ _ _ c.put.ensures c.tell_hint.ensures
