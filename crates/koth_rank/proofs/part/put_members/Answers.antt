-- The line of one place more.
use Rattle.{std.proofs.Common.{◌≡◌, ◌∙◌, ◌++◌, length, ap, ap₂, subst, sym, arith}, koth_standings.specs.PartText.{row_of, rows_text}, koth_field.specs.{Field.entrants_of, Digest.label_of}, koth_rank.{specs.Part.rows_of, proofs.{Fought.member_at, Parts.row_put}}}
use Rattle.koth_rank.proofs.part.put_members.Goals as goal

pub loop-place-preserved : goal.loop-place-preserved
loop-place-preserved g c =
    let member = c.index-members-place.result in
    let here = member_at c.args.members.now c.loop-place.place member c.loop-place-test.true c.index-members-place.is in
    let label = c.as_slice.ensures.value ∙ c.in_ok-label.ensures ∙ ap label_of (sym here) in
    row_put c.args.text.now.items _ _ (entrants_of c.args.members.now) c.args.standings.now.counts c.loop-place.place _ (ap₂ (λ t l. row_of t l) c.tally.ensures.value label)
    c.loop-place.invariant c.in_ok-put_row.ensures

pub returns : goal.returns
returns g c =
    let all : c.loop-place.place ≡ length c.args.members.now = omega (arith, c.loop-place.auto.place-end, c.loop-place-test.false) in
    subst (λ n. c.loop-place.text.items ≡ c.args.text.now.items ++ rows_text (rows_of (entrants_of c.args.members.now) c.args.standings.now.counts n)) all c.loop-place.invariant
