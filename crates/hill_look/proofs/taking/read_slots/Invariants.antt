-- The sectors of slots below `n` were read, each as it stood at a moment.
use Rattle.{std.proofs.Common.{◌≡◌, ℕ, ◌<◌, ◌≤◌}, sector_disk.specs.{Memory.memory_size, Served.IsKept}}
use Rattle.hill_look.specs.{Looked.{shown, taken}, Meanwhile.{MovesOn, StoodAt}}
use Rattle.hill_look.proofs.taking.read_slots.Given as goal

abbrev pub invariant-loop-n : goal.invariant-loop-n
invariant-loop-n g l = record {
  kept : IsKept g.S.Source.facts l.fn.source l.source;
  faultless : g.S.Source.facts.faults l.source ≡ g.S.Source.facts.faults l.fn.source;
  size : memory_size l.device ≡ memory_size l.fn.device;
  moved : g.S.Source.facts.lawful l.fn.source → MovesOn (shown g.S.Source.facts l.fn.source) (shown g.S.Source.facts l.source);
  stood : g.S.Source.facts.lawful l.fn.source → (k : ℕ) → 2 ≤ k → k < l.n → StoodAt (shown g.S.Source.facts l.fn.source) (shown g.S.Source.facts l.source) k (taken l.device k);
}
