use Rattle.{std.proofs.Common.{ℕ, ◌+◌, ◌<◌, ◌≤◌, refl, sym, ap, subst, ◌∙◌, arith}, sector_disk.specs.Memory.{MemoryState, memory_size}, sector_disk.proofs.Kept.{kept_on, kept_where_served}}
use Rattle.hill_look.{specs.{Looked.{shown, taken}, Meanwhile.StoodAt}, proofs.{Moves.{moves_more, stays, stood_within}, Takings.{size_set, slots_more}}}
use Rattle.hill_look.proofs.taking.read_slots.Goals as goal

pub returns-in_err-read-clause-moved : goal.returns-in_err-read-clause-moved
returns-in_err-read-clause-moved g c = λ lawful.
    moves_more _ _ _ (c.loop-n.invariant.moved lawful) (c.in_err-read.ensures.moved (c.loop-n.invariant.kept.same_laws.1 lawful))

pub loop-n-preserved : goal.loop-n-preserved
loop-n-preserved g c =
    let facts = g.S.Source.facts in
    let old = shown facts c.args.source.now in
    let mid = shown facts c.loop-n.source in
    let new = shown facts c.read.new.self in
    let below : c.loop-n.n < memory_size c.loop-n.device = omega (arith, c.loop-n-test.true, c.sectors-n-end.ensures, c.loop-n.invariant.size) in record {
      kept = kept_on facts c.args.source.now c.loop-n.source c.read.new.self c.loop-n.invariant.kept (kept_where_served facts c.loop-n.source c.read.new.self _ c.in_ok-read.ensures.served);
      faultless = c.in_ok-read.ensures.served.ok refl ∙ c.loop-n.invariant.faultless;
      size = ap memory_size c.set.ensures ∙ size_set c.loop-n.n c.read.new.to c.loop-n.device ∙ c.loop-n.invariant.size;
      moved = λ lawful. moves_more old mid new (c.loop-n.invariant.moved lawful) (c.in_ok-read.ensures.moved (c.loop-n.invariant.kept.same_laws.1 lawful));
      stood = λ lawful.
          let later = c.loop-n.invariant.kept.same_laws.1 lawful in
          let stood = stood_within old mid new new c.loop-n.n c.read.new.to (c.loop-n.invariant.moved lawful) (stays new) (c.in_ok-read.ensures.given later) in
          subst (λ (memory : MemoryState). (k : ℕ) → 2 ≤ k → k < c.loop-n.n + 1 → StoodAt old new k (taken memory k)) (sym c.set.ensures)
          (slots_more old mid new c.loop-n.n c.read.new.to c.loop-n.device below (c.in_ok-read.ensures.moved later) stood (c.loop-n.invariant.stood lawful));
    }
