use Rattle.{std.proofs.Common.arith, koth_session.proofs.Lengths.{fell, placed, refused}}
use Rattle.koth_session.proofs.answers.are_short.Goals as goal

pub returns-clause-placed : goal.returns-clause-placed
returns-clause-placed c = placed c.args._entry c.args._rank c.args._score (omega arith) (omega arith) (omega arith)

pub returns-clause-fell : goal.returns-clause-fell
returns-clause-fell c = fell c.args._entry c.args._score (omega arith) (omega arith)

pub returns-clause-refused : goal.returns-clause-refused
returns-clause-refused c = refused (record { line = c.args._line; kind = c.args._kind }) (omega arith)
