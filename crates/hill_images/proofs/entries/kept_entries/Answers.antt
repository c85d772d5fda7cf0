use Rattle.{std.proofs.Common.{◌≡◌, ◌≤◌, ◌+◌, ◌++◌, List, length, take, get_or, [], ◌∷◌, ap, sym, ◌∙◌, subst}, hill_bytes.specs.declared.header.HeaderEntry.HeaderEntry}
use Rattle.{hill_images.specs.Places.{kept_entries, new_entry}, hill_images.proofs.FreeSlots.{kept_more, kept_few_of}}
use Rattle.hill_images.proofs.entries.kept_entries.Goals as goal

pub loop-e-preserved : goal.loop-e-preserved
loop-e-preserved c =
    let this : HeaderEntry = get_or c.args.entries.now c.loop-e.e-index (new_entry 0 0) in
    let next : c.push_kept.new.self ≡ kept_entries c.args.falls (take (c.loop-e.e-index + 1) c.args.entries.now) =
    c.push_kept.ensures.kept
    ∙ ap (λ (xs : List HeaderEntry). xs ++ kept_entries c.args.falls (this ∷ [])) c.loop-e.invariant.0
    ∙ sym (kept_more c.args.falls c.args.entries.now c.loop-e.e-index (new_entry 0 0) c.loop-e-test.true) in
    (next, subst (λ xs. length xs ≤ c.loop-e.e-index + 1) (sym next) (kept_few_of c.args.falls c.args.entries.now (c.loop-e.e-index + 1)))
