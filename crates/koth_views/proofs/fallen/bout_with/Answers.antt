-- The entry at this place is the one, or one of those after it is.
use Rattle.std.proofs.{Common.{sym, ◌∙◌, length, arith}, lemmas.List.{at_drop_all, length-map}}
use Rattle.{koth_hill.specs.Kept.entries_of, koth_views.{specs.Fallen.bout_of, proofs.Results.{at_entry, past_entry}}}
use Rattle.koth_views.proofs.fallen.bout_with.Goals as goal

pub loop-place-preserved : goal.loop-place-preserved
loop-place-preserved g c =
    let es = entries_of c.args.hill.now.members in
    sym (past_entry es c.args.bouts.now c.loop-place.place c.args.entry c.entry_at.result
    (omega (arith, c.loop-place-test.true, c.len-place-end.ensures.value, length-map c.args.hill.now.members (λ m. m.entry)))
    c.entry_at.ensures c.if-entry_at-entry.false) ∙ c.loop-place.invariant
