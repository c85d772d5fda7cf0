-- All kinds, and each among them.
use Rattle.{std.proofs.Common.refl, koth_kinds.{specs.Kinds.all_kinds, proofs.Each.each_kind}}
use Rattle.koth_kinds.proofs.kind.kinds.Goals as goal

pub returns-clause-all : goal.returns-clause-all
unfolding all_kinds
returns-clause-all c = refl

pub returns-clause-each : goal.returns-clause-each
unfolding all_kinds
returns-clause-each c = each_kind
