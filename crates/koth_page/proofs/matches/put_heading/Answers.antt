-- The headings between what begins and ends them.
use Rattle.{std.proofs.Common.{ℕ, codes}, std.specs.List.{enumerate_from, flat_map}, koth_text.proofs.Steps.three_parts}
use Rattle.koth_page.specs.{Matches.{matches_heading, rank_heading}, Ranked.{RankedParts, all_parts}}
use Rattle.koth_page.proofs.matches.put_heading.Goals as goal

pub returns : goal.returns
unfolding matches_heading
returns g c =
    let ranks = flat_map (λ (p : ℕ × RankedParts). rank_heading p.0 p.1) (enumerate_from 1 (all_parts c.args.rows.now)) in
    three_parts c.args.page.now.items (codes "<thead><tr><th scope=\"col\">rank</th><th scope=\"col\" class=\"name\">warrior</th>") ranks (codes "</tr></thead>\n") c.extend_from_slice.new.self.items c.put_rank_headings.new.page.items c.extend_from_slice-2.new.self.items
    c.in_ok-extend_from_slice.ensures.items c.in_ok-put_rank_headings.ensures c.in_ok-extend_from_slice-2.ensures.items
