use Rattle.{std.proofs.Common.{◌≡◌, ◌∙◌, ◌+◌, ◌-◌, ◌++◌, List, ap, arith, length, map, subst, sym}, koth_hill.specs.{declared.score.Score.Score, Rows.rows_parts, Table.{rows_by_rank, rows_of_rank}}}
use Rattle.{koth_hill.specs.{Kept.members_of, Standings.{AreStandings, StandingParts, standing_parts}}, koth_hill.proofs.Tables.{scores-kept, scores-beside, table-kept, rank-more, rank-last}}
use Rattle.koth_hill.proofs.table.rows_of.Goals as goal

pub push_rank-requires-clause-beside : goal.push_rank-requires-clause-beside
push_rank-requires-clause-beside g c =
    ap length c.as_slice-in-loop-place.ensures.value
    ∙ scores-beside c.args.members.now c.scores-all_scores.result
    (scores-kept c.args.members.now c.as_slice.result.now c.scores-all_scores.result (ap (map standing_parts) c.as_slice.ensures.value ∙ c.of-standings.ensures.parts) c.scores-all_scores.ensures)

pub loop-place-preserved : goal.loop-place-preserved
loop-place-preserved g c =
    rank-more (members_of c.args.members.now) c.scores-all_scores.result (rows_parts c.loop-place.rows.items) (rows_parts c.push_rank.new.rows.items) _ c.loop-place.place (length c.args.members.now)
    c.loop-place-test.true c.loop-place.invariant
    (c.in_ok-push_rank.ensures ∙ ap (λ (xs : List Score). rows_parts c.loop-place.rows.items ++ rows_of_rank xs (c.loop-place.place + 1) (members_of c.args.members.now) xs) c.as_slice-in-loop-place.ensures.value)

pub returns : goal.returns
returns g c =
    table-kept c.args.members.now c.scores-all_scores.result (rows_parts c.loop-place.rows.items)
    (scores-kept c.args.members.now c.as_slice.result.now c.scores-all_scores.result (ap (map standing_parts) c.as_slice.ensures.value ∙ c.of-standings.ensures.parts) c.scores-all_scores.ensures)
    (rank-last (members_of c.args.members.now) c.scores-all_scores.result (rows_parts c.loop-place.rows.items) _ c.loop-place.place (length c.args.members.now) c.loop-place-test.false c.loop-place.invariant)

pub scores-all_scores-requires-clause-standings : goal.scores-all_scores-requires-clause-standings
scores-all_scores-requires-clause-standings g c =
    let P : List StandingParts → Type 0 = λ ss. AreStandings ss in
    subst P (sym (ap (map standing_parts) c.as_slice.ensures.value ∙ c.of-standings.ensures.parts)) c.requires.standings

pub scores-all_scores-requires-clause-few : goal.scores-all_scores-requires-clause-few
scores-all_scores-requires-clause-few g c = c.as_slice.ensures.few

pub overflow_cast-place-end : goal.overflow_cast-place-end
overflow_cast-place-end g c = omega (arith, c.requires.few)

pub overflow_add-place : goal.overflow_add-place
overflow_add-place g c = omega (arith, c.loop-place-test.true, c.requires.few)

pub push_rank-requires-clause-few : goal.push_rank-requires-clause-few
push_rank-requires-clause-few g c = c.requires.few

pub loop-place-init : goal.loop-place-init
loop-place-init g c =
    let all : length c.args.members.now - 0 ≡ length c.args.members.now = omega arith in
    ap (λ n. rows_parts c.in_ok-rows.rows.items ++ rows_by_rank c.scores-all_scores.result (members_of c.args.members.now) 1 n) all
    ∙ ap (λ xs. rows_parts xs ++ rows_by_rank c.scores-all_scores.result (members_of c.args.members.now) 1 (length c.args.members.now)) c.in_ok-rows.ensures.items
