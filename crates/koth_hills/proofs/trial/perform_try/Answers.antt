-- If no hill is seen, nothing is read.
use Rattle.{std.proofs.Common.option_copied, koth_commands.specs.Streams.is_input}
use Rattle.koth_hills.{specs.Trials.SaysTrial, proofs.Sources.no_trial}
use Rattle.koth_hills.proofs.trial.perform_try.Goals as goal

pub returns-in-Err : goal.returns-in-Err
returns-in-Err g c = no_trial (is_input c.args.source) (option_copied c.args.definition) (SaysTrial c.args.view) _ c.in-Err.trouble c.in-Err.ensures.of_hill
