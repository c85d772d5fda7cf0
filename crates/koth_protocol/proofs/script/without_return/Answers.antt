use Rattle.{std.proofs.Common.rules, koth_protocol.proofs.Readings.{ends_return, ends_otherwise}}
use Rattle.koth_protocol.proofs.script.without_return.Goals as goal

pub returns-then-line-end-eq13 : goal.returns-then-line-end-eq13
returns-then-line-end-eq13 c = ends_return c.args.line.now (search rules) c.if-line-end-eq13.true

pub returns : goal.returns
returns c = ends_otherwise c.args.line.now c.if-line-end-eq13.false
