-- One member more.
use Rattle.{std.proofs.{Common.{◌∙◌, ℕ, List, ap, map}, lemmas.List.map_push}, koth_json.specs.Contest.contender_parts, koth_contests.specs.Lines.{contender, entrant}, koth_rank.proofs.Parts.contenders_more}
use Rattle.koth_rank.proofs.table.contenders_of.Goals as goal

pub loop-place-preserved : goal.loop-place-preserved
loop-place-preserved g c =
    let member = c.index-members-place.result in
    let old = c.loop-place.contenders.items in
    let told = c.contender.ensures ∙ ap (λ (t : List ℕ). contender (entrant t member.warrior)) c.as_str.ensures.value in
    ap (map contender_parts) c.in_ok-push.ensures.items ∙ map_push contender_parts old c.contender.result
    ∙ contenders_more c.args.members.now c.loop-place.place member (map contender_parts old) (contender_parts c.contender.result) c.loop-place-test.true c.index-members-place.is told c.loop-place.invariant
