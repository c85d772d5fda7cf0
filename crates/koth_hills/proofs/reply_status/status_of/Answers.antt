use Rattle.koth_hills.proofs.Replies.{refused-status}
use Rattle.koth_hills.proofs.reply_status.status_of.Goals as goal

pub returns-in-Refused-clause-status : goal.returns-in-Refused-clause-status
returns-in-Refused-clause-status g = refused-status g.args.reply.now g.in-Refused.is
