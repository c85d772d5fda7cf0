-- If the hill can't be opened, nothing is read.
use Rattle.koth_commands.specs.Streams.{is_input}
use Rattle.koth_hills.{specs.Hills.SaysReply, proofs.Sources.no_hill}
use Rattle.koth_hills.proofs.submit.perform_submit.Goals as goal

pub returns-in-Err : goal.returns-in-Err
returns-in-Err g c = no_hill (is_input c.args.source) (SaysReply c.args.view) _ c.in-Err.trouble c.in-Err.ensures.of_hill
