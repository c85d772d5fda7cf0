use Rattle.{std.proofs.Common.subst, redcode_text.specs.Tokens.piece_of, redcode_names.{specs.Cut.AreKept, proofs.Steps.body-kept}}
use Rattle.redcode_names.proofs.equs.Equs.body_at.Goals as goal

pub returns-in-Some-clause-kept : goal.returns-in-Some-clause-kept
returns-in-Some-clause-kept g c = body-kept c.args.self.now (piece_of c.args.token.now) (subst AreKept c.self.view_is c.self.invariant)
