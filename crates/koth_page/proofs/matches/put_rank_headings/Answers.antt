-- One heading more.
use Rattle.{std.proofs.Common.{ℕ, get_or}, koth_page.specs.{Matches.rank_heading, Ranked.RankedParts}, koth_page.proofs.Steps.{one_row_more, row_read}}
use Rattle.koth_page.proofs.matches.put_rank_headings.Goals as goal

pub loop-place-preserved : goal.loop-place-preserved
loop-place-preserved g c =
    let loop = c.loop-place in
    let rows = c.args.rows.now in
    let below = c.loop-place-test.true in
    one_row_more (λ (p : ℕ × RankedParts). rank_heading p.0 p.1) rows loop.place (get_or rows loop.place _) c.args.page.now.items loop.page.items c.put_rank_heading.new.page.items below
    (row_read rows loop.place _ below) loop.invariant c.in_ok-put_rank_heading.ensures
