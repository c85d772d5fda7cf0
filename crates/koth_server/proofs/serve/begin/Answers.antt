-- Before the line nothing was written.
use Rattle.{koth_commands.proofs.Told.none_yet, koth_server.specs.Serving.listening_line}
use Rattle.koth_server.proofs.serve.begin.Goals as goal

pub returns-in-Err-clause-announced : goal.returns-in-Err-clause-announced
returns-in-Err-clause-announced g c = ((0, none_yet _ (listening_line 0)), c.in-Err.ensures.of_hill)
