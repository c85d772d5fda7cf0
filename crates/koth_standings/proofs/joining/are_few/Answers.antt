-- One more has few, until all have.
use Rattle.{std.proofs.{Common.{◌≤◌, All, length, get_or, refl, subst, arith}, lemmas.List.{take_all, get_or_default}}, koth_text.specs.declared.tally.Tally.Tally, koth_standings.{specs.Standings.{no_rounds, rounds_in}, proofs.PartsJoined.one_more}}
use Rattle.koth_standings.proofs.joining.are_few.Goals as goal

pub loop-place-preserved : goal.loop-place-preserved
loop-place-preserved c =
    let x = get_or c.args.counts.now c.loop-place.place no_rounds in
    one_more (λ (t : Tally). rounds_in t ≤ c.args.most) c.args.counts.now c.loop-place.place x
    c.loop-place-test.true (get_or_default c.args.counts.now c.loop-place.place no_rounds x c.loop-place-test.true) (c.is_few.ensures c.if-not-is_few.false) c.loop-place.invariant

pub returns : goal.returns
returns c told =
    let past : length c.args.counts.now ≤ c.loop-place.place = omega (arith, c.loop-place-test.false) in
    subst (λ l. All (λ (t : Tally). rounds_in t ≤ c.args.most) l) (take_all c.loop-place.place c.args.counts.now past) c.loop-place.invariant
