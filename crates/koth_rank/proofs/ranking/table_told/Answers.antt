-- The table, the heading and the lines.
use Rattle.{std.proofs.Common.{◌∙◌, ◌++◌, ap, map, subst}, koth_json.specs.Contest.contender_parts, koth_rank.{specs.Table.IsTableOf, proofs.Parts.put_two}}
use Rattle.koth_rank.proofs.ranking.table_told.Goals as goal

pub returns : goal.returns
returns g c = (
  c.in_ok-text.text.items,
  subst (λ l. IsTableOf c.args.plan.terms.view l c.args.fought.now.standings.counts c.in_ok-text.text.items)
      (ap (λ l. map contender_parts l) c.as_slice.ensures.value ∙ c.in_ok-contenders.ensures) c.in_ok-text.ensures,
  put_two c.in_ok-text.text.items c.put_matches_heading.new.text.items c.extend_from_slice.new.self.items _ _ c.in_ok-put_matches_heading.ensures
      (c.in_ok-extend_from_slice.ensures.items ∙ ap (λ l. c.put_matches_heading.new.text.items ++ l) c.as_slice-2.ensures.value),
)
