-- One number more.
use Rattle.std.proofs.{Common.{◌≡◌, ◌∙◌, ◌<◌, ◌≤◌, None, Some, ap, arith, length, slice_index_or, sym}, lemmas.List.{get_or_default}}
use Rattle.koth_service.specs.{Connections.{LosesSlotAt, stage_at, stage_in}, Places.IsLongestUpTo}
use Rattle.koth_service.proofs.{Displacing.{given, longer_at, not_given}, Longest.full_to}
use Rattle.koth_service.proofs.connections.Browsers.slot_for_one.Goals as goal

pub loop-number-preserved : goal.loop-number-preserved
loop-number-preserved g c =
    let connections = c.args.self.now.connections.items in
    let n = c.loop-number.number in
    let fits = c.loop-number-test.true in
    let all = c.len-number-end.ensures in
    let within : n < length connections = omega (arith, fits, all) in
    let at : slice_index_or connections n None ≡ Some c.in-Some.connection =
    get_or_default connections n None c.index.result.now within ∙ sym c.index.ensures ∙ c.in-Some.is in
    let here : stage_at connections n ≡ Some c.in-Some.connection.stage = ap stage_in at in (
      full_to (λ p. stage_at connections p) n c.in-Some.connection.stage here c.loop-number.invariant.0,
      rw c.longer_if-longest.ensures (longer_at c.args.now connections n c.loop-number.longest c.in-Some.connection.stage c.loses_since.result here c.loses_since.ensures c.loop-number.invariant.1),
    )

pub returns-in-Some-longest : goal.returns-in-Some-longest
returns-in-Some-longest g c =
    let past = c.loop-number-test.false in
    let all = c.len-number-end.ensures in
    let last : length c.args.self.now.connections.items ≤ c.loop-number.number = omega (arith, past, all) in
    let up : IsLongestUpTo (LosesSlotAt c.args.now c.args.self.now.connections.items) c.loop-number.number (Some (c.in-Some-longest.number, c.in-Some-longest.field-0-1)) =
    rw c.in-Some-longest.is at c.loop-number.invariant.1 in
    given c.args.now c.args.self.now.connections.items c.loop-number.number c.in-Some-longest.number c.in-Some-longest.field-0-1 last c.loop-number.invariant.0 up

pub returns-in-None : goal.returns-in-None
returns-in-None g c =
    let past = c.loop-number-test.false in
    let all = c.len-number-end.ensures in
    let last : length c.args.self.now.connections.items ≤ c.loop-number.number = omega (arith, past, all) in
    let up : IsLongestUpTo (LosesSlotAt c.args.now c.args.self.now.connections.items) c.loop-number.number None = rw c.in-None.is at c.loop-number.invariant.1 in
    not_given c.args.now c.args.self.now.connections.items c.loop-number.number last c.loop-number.invariant.0 up
