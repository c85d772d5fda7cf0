-- One byte more was passed on, until all were.
use Rattle.{std.proofs.{Common.{◌≡◌, ◌≤◌, length, take, ap, subst, sym, ◌∙◌, arith}, lemmas.List.{take_all, take_more}}, koth_candidates.specs.Sources.IsAt}
use Rattle.koth_candidates.proofs.sources.feed_all.Goals as goal

pub loop-place-preserved : goal.loop-place-preserved
loop-place-preserved g c fresh =
    let text = c.args.text.now in
    subst (IsAt c.feed.new.script) (sym (take_more text c.loop-place.place 0 c.loop-place-test.true))
    (c.feed.ensures.goes_on (take c.loop-place.place text) (c.loop-place.invariant fresh) c.in-Nothing.is)

pub returns : goal.returns
returns g c told fresh =
    let past : length c.args.text.now ≤ c.loop-place.place = omega (arith, c.loop-place-test.false) in
    subst (IsAt c.loop-place.script) (take_all c.loop-place.place c.args.text.now past) (c.loop-place.invariant fresh)
