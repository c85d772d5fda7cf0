-- It may leave, or it stays.
use Rattle.{std.proofs.Common.{◌∙◌, refl, sym, true≢false}, koth_service.specs.Places.MayLeaveSince, koth_service.proofs.Longest.{longer_longest, never_since, only_since, stays_longest}}
use Rattle.koth_service.proofs.arrivals.with_longest.Goals as goal

pub returns-then-may_leave : goal.returns-then-may_leave
returns-then-may_leave g c = λ is.
    rw c.longer.ensures (longer_longest (MayLeaveSince c.args.desk.now) c.args.number c.args.seat.useful c.args.longest (c.args.seat, c.requires, c.may_leave.ensures.0 c.if-may_leave.true, refl)
    (only_since c.args.desk.now c.args.number c.args.seat c.requires) is)

pub returns-else-may_leave : goal.returns-else-may_leave
returns-else-may_leave g c = λ is.
    stays_longest (MayLeaveSince c.args.desk.now) c.args.number c.args.longest
    (never_since c.args.desk.now c.args.number c.args.seat c.requires (λ may. true≢false (sym (c.may_leave.ensures.1 may) ∙ c.if-may_leave.false))) is
