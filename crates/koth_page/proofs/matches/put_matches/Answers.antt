-- Headings and rows, between what begins and ends the table.
use Rattle.koth_text.proofs.Steps.{four_parts}
use Rattle.koth_page.specs.{declared.parts.TheConstants.{MATCHES_START, TABLE_END}, Matches.{matches_heading, matches_rows, matches_text}, Ranked.all_parts}
use Rattle.koth_page.proofs.matches.put_matches.Goals as goal

pub returns : goal.returns
unfolding matches_text
returns g c =
    let rows = all_parts c.args.rows.now in
    four_parts c.args.page.now.items MATCHES_START.now (matches_heading rows) (matches_rows (g.R.Results.rounds c.args.results.now) c.args.links rows rows) TABLE_END.now
    c.extend_from_slice.new.self.items c.put_heading.new.page.items c.put_rows.new.page.items c.extend_from_slice-2.new.self.items
    c.in_ok-extend_from_slice.ensures.items c.in_ok-put_heading.ensures c.in_ok-put_rows.ensures c.in_ok-extend_from_slice-2.ensures.items
