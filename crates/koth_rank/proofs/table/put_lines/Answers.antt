-- The line of one place more.
use Rattle.std.proofs.{Common.{◌<◌, ◌∙◌, length, map, ap, subst, sym}, lemmas.List.{get_or-map, get_or_default}, lemmas.List.Elements.All-get_or}
use Rattle.{koth_json.specs.{Contest.contender_parts}, koth_rank.proofs.Ranked.put_line_more}
use Rattle.koth_rank.proofs.table.put_lines.Goals as goal

pub loop-at-preserved : goal.loop-at-preserved
loop-at-preserved g c =
    let contenders = map contender_parts c.args.contenders.now in
    let place = c.place_at-place.result in
    let one = c.index-contenders-place.result in
    let is = c.place_at-place.ensures ∙ get_or_default c.args.ranked.now c.loop-at.at 0 place c.loop-at-test.true in
    let below : place < length c.args.contenders.now =
    subst (λ n. n < length c.args.contenders.now) (sym c.place_at-place.ensures)
    (All-get_or (λ n. n < length c.args.contenders.now) c.args.ranked.now c.loop-at.at 0 c.loop-at-test.true c.requires.within) in
    put_line_more c.args.view contenders c.args.standings.now.counts c.args.ranked.now c.loop-at.at place (contender_parts one) _ c.args.text.now.items _ _
    c.loop-at-test.true is (ap contender_parts c.index-contenders-place.is ∙ sym (get_or-map contender_parts c.args.contenders.now place one _ below)) c.tally.ensures.value
    c.loop-at.invariant c.in_ok-put_line.ensures
