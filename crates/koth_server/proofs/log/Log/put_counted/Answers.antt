-- The line stands after the count.
use Rattle.koth_commands.proofs.Told.{writes_more}
use Rattle.koth_server.proofs.log.Log.put_counted.Goals as goal

pub returns-then-put_count : goal.returns-then-put_count
returns-then-put_count g c = writes_more _ _ _ c.put_count.ensures c.put_line.ensures
