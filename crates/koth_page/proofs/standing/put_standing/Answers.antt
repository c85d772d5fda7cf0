-- Headings and rows, between what begins and ends the table.
use Rattle.koth_text.proofs.Steps.{four_parts}
use Rattle.koth_page.specs.{declared.parts.TheConstants.{STANDING_START, TABLE_END}, Ranked.all_parts, Standing.{standing_heading, standing_rows, standing_text}}
use Rattle.koth_page.proofs.standing.put_standing.Goals as goal

pub returns : goal.returns
unfolding standing_text
returns g c =
    let rows = all_parts c.args.rows.now in
    four_parts c.args.page.now.items STANDING_START.now (standing_heading rows) (standing_rows rows) TABLE_END.now
    c.extend_from_slice.new.self.items c.put_heading.new.page.items c.put_rows.new.page.items c.extend_from_slice-2.new.self.items
    c.in_ok-extend_from_slice.ensures.items c.in_ok-put_heading.ensures c.in_ok-put_rows.ensures c.in_ok-extend_from_slice-2.ensures.items
