-- The table is of the warriors that the labels call.
use Rattle.{std.proofs.Common.{◌∙◌, ap, map}, koth_json.specs.Contest.contender_parts, koth_standings.specs.declared.part_text.Row.Row, koth_rank.{specs.Join.named_parts, proofs.PartsJoined.labels_called}}
use Rattle.koth_rank.proofs.names.named_table.Goals as goal

pub returns-in-Ok-table_of : goal.returns-in-Ok-table_of
returns-in-Ok-table_of g c =
    labels_called c.args.view (map contender_parts c.as_slice-2.result.now) c.in-Ok.names.items (map (λ (r : Row). r.label.now) c.args.rows.now)
    c.args.standings.now.counts c.in-Ok-table_of.table.items
    (ap (map contender_parts) c.as_slice-2.ensures.value ∙ c.in-Ok-contenders_of.ensures ∙ ap (map named_parts) c.as_slice.ensures.value) c.in-Ok.ensures c.in-Ok-table_of.ensures
