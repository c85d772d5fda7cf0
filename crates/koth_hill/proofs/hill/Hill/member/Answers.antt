use Rattle.{std.proofs.Common.{refl, subst}, koth_hill.specs.Kept.{IsKept, kept_of, members_of, rows_of}, koth_hill.proofs.Shown.{member-shown, no-member}}
use Rattle.koth_hill.proofs.hill.Hill.member.Goals as goal

pub returns-in-Some-clause-value : goal.returns-in-Some-clause-value
returns-in-Some-clause-value g c =
    let es = c.self.inside.members.items in
    member-shown (kept_of c.self.inside.settings c.self.inside.counter (members_of es) (rows_of es)) c.args.self.now es c.deref.result.now
    c.self.view_is refl c.deref.ensures.value c.args.i c.in-Some.entrant.now c.shown.result c.in-Some.ensures.lookup.0 c.in-Some.ensures.lookup.1 c.shown.ensures

pub returns-in-Some-clause-hill : goal.returns-in-Some-clause-hill
returns-in-Some-clause-hill g c = subst IsKept c.self.view_is c.self.invariant.0

pub returns-in-None-clause-value : goal.returns-in-None-clause-value
returns-in-None-clause-value g c =
    let es = c.self.inside.members.items in
    no-member (kept_of c.self.inside.settings c.self.inside.counter (members_of es) (rows_of es)) c.args.self.now es c.deref.result.now c.self.view_is refl c.deref.ensures.value c.args.i c.in-None.ensures.lookup.0

pub returns-in-None-clause-hill : goal.returns-in-None-clause-hill
returns-in-None-clause-hill g c = subst IsKept c.self.view_is c.self.invariant.0
