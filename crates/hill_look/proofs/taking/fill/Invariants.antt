-- The headers that were read last stood at some moment, and if slots were read, the headers have changed.
use Rattle.{std.proofs.Common.{◌≡◌, ◌<◌}, sector_disk.specs.{Memory.memory_size, Served.IsKept}}
use Rattle.hill_look.specs.{Looked.{HeadersStood, shown}, Meanwhile.MovesOn}
use Rattle.hill_look.proofs.taking.fill.Given as goal

abbrev pub invariant-loop-try : goal.invariant-loop-try
invariant-loop-try g l = record {
  kept : IsKept g.S.Source.facts l.fn.source l.source;
  faultless : g.S.Source.facts.faults l.source ≡ g.S.Source.facts.faults l.fn.source;
  size : memory_size l.device ≡ memory_size l.fn.device;
  moved : g.S.Source.facts.lawful l.fn.source → MovesOn (shown g.S.Source.facts l.fn.source) (shown g.S.Source.facts l.source);
  stood : g.S.Source.facts.lawful l.fn.source → HeadersStood (shown g.S.Source.facts l.fn.source) (shown g.S.Source.facts l.source) l.before;
  changed : g.S.Source.facts.lawful l.fn.source → 0 < l._try → shown g.S.Source.facts l.source ≡ shown g.S.Source.facts l.fn.source → ⊥;
}
