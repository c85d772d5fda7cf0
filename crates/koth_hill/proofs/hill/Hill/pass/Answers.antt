use Rattle.{std.proofs.Common.{◌∙◌, ap, sym, subst}, koth_hill.specs.Kept.{AreTrue, IsKept, kept_of, members_of, rows_of, hill_in}}
use Rattle.koth_hill.proofs.{Hills.passed-kept, Truths.{still-true, true-step}}
use Rattle.koth_hill.proofs.hill.Hill.pass.Goals as goal

pub returns-clause-kept : goal.returns-clause-kept
returns-clause-kept g c = λ w is.
    let es = c.self.inside.members.items in
    passed-kept (kept_of c.self.inside.settings c.self.inside.counter (members_of es) (rows_of es)) c.args.self.now w c.args.judged.now c.self.view_is c.requires.entry c.requires.falls is

pub returns-clause-step : goal.returns-clause-step
returns-clause-step g c = λ w is holds.
    let kept : IsKept c.args.self.now = subst IsKept c.self.view_is c.self.invariant.0 in
    let new = returns-clause-kept g c w is in
    (ap hill_in new ∙ true-step c.args.self.now w kept holds, subst AreTrue (sym new) (still-true c.args.self.now w kept holds))
