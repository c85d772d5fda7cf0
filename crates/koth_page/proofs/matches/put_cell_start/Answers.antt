-- The five parts of what begins a cell.
use Rattle.{std.proofs.Common.codes, koth_text.proofs.Steps.five_parts, koth_page.specs.{Matches.{cell_start, sides_text}, Ranked.ranked_parts, Shade.shade}}
use Rattle.koth_page.proofs.matches.put_cell_start.Goals as goal

pub returns : goal.returns
unfolding cell_start
returns g c =
    five_parts c.args.page.now.items (codes "<td class=\"") (shade c.args.rounds) (codes "\" title=\"") (sides_text (ranked_parts c.args.row.now) (ranked_parts c.args.other.now)) (codes "\">")
    c.extend_from_slice.new.self.items c.put_shade.new.page.items c.extend_from_slice-2.new.self.items c.put_sides.new.page.items c.extend_from_slice-3.new.self.items
    c.in_ok-extend_from_slice.ensures.items c.in_ok-put_shade.ensures c.in_ok-extend_from_slice-2.ensures.items c.in_ok-put_sides.ensures c.in_ok-extend_from_slice-3.ensures.items
