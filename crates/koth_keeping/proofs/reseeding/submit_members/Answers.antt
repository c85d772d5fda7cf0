-- One warrior more is held, or all are.
use Rattle.std.proofs.{Common.{◌++◌, ℕ, List, map, take, arith, subst}, lemmas.List.take_all}
use Rattle.{sector_disk.specs.Memory.memory_facts, koth_hill.specs.Hill.Member, hill_store.specs.Holding.IsHolding}
use Rattle.koth_keeping.{specs.Reseeding.source_of, proofs.Holdings.{next, one_at}}
use Rattle.koth_keeping.proofs.reseeding.submit_members.Goals as goal

pub loop-place-preserved : goal.loop-place-preserved
loop-place-preserved g c = λ s before holding.
    let ms = c.args.hill.now.members in
    let f : Member → List ℕ = λ m. source_of c.args.hill.now.settings.core m.warrior in
    let here = one_at ms c.loop-place.place (omega (arith, c.loop-place-test.true, c.len-place-end.ensures.value)) in
    next memory_facts s f before ms c.loop-place.place here.0 c.submit_member.new.store here.1
    (c.in_ok-submit_member.ensures s (before ++ map f (take c.loop-place.place ms)) here.0 here.1 (c.loop-place.invariant s before holding))

pub returns : goal.returns
returns g c = λ s before holding.
    let ms = c.args.hill.now.members in
    let f : Member → List ℕ = λ m. source_of c.args.hill.now.settings.core m.warrior in
    subst (λ xs. IsHolding memory_facts s (before ++ map f xs) c.loop-place.store)
    (take_all c.loop-place.place ms (omega (arith, c.loop-place-test.false, c.len-place-end.ensures.value))) (c.loop-place.invariant s before holding)
