-- One peer more.
use Rattle.koth_seats.specs.Seats.{seat_at}
use Rattle.{std.proofs.Common.{arith, ◌∙◌, ◌≤◌, Some, length, sym}, koth_service.specs.Places.{IsLongestUpTo, MayLeaveSince}}
use Rattle.koth_service.proofs.Longest.{full_to, is_longest, none_yet, within_seats}
use Rattle.koth_service.proofs.arrivals.place_for_one.Goals as goal

pub loop-number-init : goal.loop-number-init
loop-number-init g c = (λ p less. absurd (omega (arith, less)), none_yet (MayLeaveSince c.args.desk.now))

pub loop-number-preserved : goal.loop-number-preserved
loop-number-preserved g c = (
  full_to (λ p. seat_at c.args.desk.now.seats.seats.items p) c.loop-number.number c.in-Some.seat (sym c.at.ensures ∙ c.in-Some.is) c.loop-number.invariant.0,
  c.with_longest-longest.ensures c.loop-number.invariant.1,
)

pub returns-in-Some-longest : goal.returns-in-Some-longest
returns-in-Some-longest g c =
    let past = c.loop-number-test.false in
    let all = c.len-number-end.ensures in
    let last : length c.args.desk.now.seats.seats.items ≤ c.loop-number.number = omega (arith, past, all) in
    let up : IsLongestUpTo (MayLeaveSince c.args.desk.now) c.loop-number.number (Some (c.in-Some-longest.number, c.in-Some-longest.field-0-1)) = rw c.in-Some-longest.is at c.loop-number.invariant.1 in (
      λ p less. c.loop-number.invariant.0 p (omega (arith, last, less)),
      is_longest (MayLeaveSince c.args.desk.now) c.loop-number.number c.in-Some-longest.number c.in-Some-longest.field-0-1
          (λ p other may. let less = within_seats c.args.desk.now p other may in omega (arith, last, less)) up,
    )
