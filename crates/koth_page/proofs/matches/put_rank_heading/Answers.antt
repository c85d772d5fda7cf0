-- The five parts of a heading.
use Rattle.{std.proofs.Common.{codes, decimal}, koth_text.{specs.Escape.escaped, proofs.Steps.five_parts}, koth_page.specs.Matches.rank_heading}
use Rattle.koth_page.proofs.matches.put_rank_heading.Goals as goal

pub returns : goal.returns
unfolding rank_heading
returns g c =
    five_parts c.args.page.now.items (codes "<th scope=\"col\" title=\"") (escaped c.args.row.now.name.now) (codes "\">") (decimal c.args.rank) (codes "</th>")
    c.extend_from_slice.new.self.items c.put_escaped.new.page.items c.extend_from_slice-2.new.self.items c.put_number.new.page.items c.extend_from_slice-3.new.self.items
    c.in_ok-extend_from_slice.ensures.items c.in_ok-put_escaped.ensures
    c.in_ok-extend_from_slice-2.ensures.items c.in_ok-put_number.ensures c.in_ok-extend_from_slice-3.ensures.items
