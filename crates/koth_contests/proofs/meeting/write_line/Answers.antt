-- What is delivered is the line.
use Rattle.koth_contests.proofs.Written.{line_made}
use Rattle.koth_contests.proofs.meeting.write_line.Goals as goal

pub returns : goal.returns
returns g c = line_made _ _ _ _ c.args.line c.line_answer.result c.deliver.result c.line_answer.ensures c.deliver.ensures
