use Rattle.{std.proofs.Common.{◌≡◌, ◌-◌, ◌^◌, ◌≤◌, length, take, vec_capacity}, sector_disk.specs.Served.IsKept, hill_store.specs.Runs.texts, hill_store.proofs.Lists.RunsOpen}
use Rattle.hill_store.proofs.store.Store.submit_all.Given as goal

abbrev pub invariant-loop-source : goal.invariant-loop-source
invariant-loop-source g l = record {
  runs : RunsOpen g.D.Device.facts l.fn.self (take l.source-index (texts l.sources)) l.replies.items l.self;
  room : length l.sources ≤ vec_capacity l.replies;
  count : length l.replies.items ≡ l.source-index;
  kept : IsKept g.D.Device.facts l.fn.self.device l.self.device;
  worn : l.fn.self.generation ≡ 2 ^ 64 - 1 → l.self ≡ l.fn.self;
}
