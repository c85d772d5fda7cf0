-- The headings that each table has, and then those of these rows.
use Rattle.{std.proofs.Common.{codes, ◌++◌, ◌∙◌, List, ℕ, ap}, koth_text.proofs.Steps.three_parts}
use Rattle.koth_page.specs.{Ranked.all_parts, Standing.{origin_headings, standing_heading, standing_start}}
use Rattle.koth_page.proofs.standing.put_heading.Goals as goal

pub returns : goal.returns
unfolding standing_heading
returns g c =
    let one = c.put_start.new.page.items in
    three_parts c.args.page.now.items standing_start (origin_headings (all_parts c.args.rows.now)) (codes "</tr></thead>\n")
    one c.extend_from_slice.new.self.items c.extend_from_slice-2.new.self.items
    c.in_ok-put_start.ensures (c.in_ok-extend_from_slice.ensures.items ∙ ap (λ (headings : List ℕ). one ++ headings) c.origin_headings.ensures)
    c.in_ok-extend_from_slice-2.ensures.items
