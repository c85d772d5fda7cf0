-- The table comes if all parts are joined.
use Rattle.{std.proofs.{Common.{◌∙◌, length, map, sym}, lemmas.List.length-map}, koth_standings.specs.{PartText.head_parts, declared.part_text.Row.Row}, koth_rank.proofs.PartsJoined.{all_fail, summed}}
use Rattle.koth_rank.proofs.joining.summed_table.Goals as goal

pub told_table-requires : goal.told_table-requires
told_table-requires g c = c.join_all.ensures.places ∙ c.requires.many

pub returns-in-Done : goal.returns-in-Done
returns-in-Done g c =
    let rows = c.args.first.now.rows.items in
    let label = λ (r : Row). r.label.now in
    summed c.told_table.result c.args.view (head_parts c.args.first.now.head) (length c.args.standings.now.counts) (length c.args.order.now) (map label rows) c.join_all.new.standings
    _ _ _ c.in-Done.ensures.joins.0 c.requires.counted c.requires.some (c.requires.many ∙ sym (length-map rows label)) c.in-Done.ensures.joins.1 c.told_table.ensures

pub returns-in_default : goal.returns-in_default
returns-in_default g c = all_fail _ _ _ _ _ _ _ c.in_default.not-Done c.join_all.ensures.joins
