use Rattle.{std.proofs.Common.{List, ap, arith}, koth_hill.specs.Kept.{Entrant, kept_of, members_of, rows_of}, koth_hill.proofs.Hills.IsKept-none}
use Rattle.koth_hill.proofs.hill.Hill.with_counter.Goals as goal

pub invariant_of-result : goal.invariant_of-result
invariant_of-result g c = (
  IsKept-none c.args.settings c.args.counter c.in_ok-members.members.items c.capacity.ensures.settings c.in_ok-members.ensures.items,
  omega (arith, c.in_ok-members.ensures.capacity, c.from.ensures, c.capacity.ensures.value),
)

pub returns : goal.returns
returns g c = ap (λ (es : List Entrant). kept_of c.args.settings c.args.counter (members_of es) (rows_of es)) c.in_ok-members.ensures.items
