-- The sectors so far were written.
use Rattle.{std.proofs.Common.{◌≡◌, length, take}, sector_disk.specs.{Changes.after, Served.IsKept}, hill_bytes.specs.Layout.{new_layout, slot_at}, hill_images.specs.Places.writes_from}
use Rattle.hill_images.proofs.slots.write_slot.Given as goal

abbrev pub invariant-loop-n : goal.invariant-loop-n
invariant-loop-n g l = record {
  kept : IsKept g.D.Device.facts l.fn.device l.device;
  faultless : g.D.Device.facts.faults l.device ≡ g.D.Device.facts.faults l.fn.device;
  long : length l.fn.content.sectors ≡ 4;
  made : g.D.Device.facts.lawful l.fn.device → g.D.Device.facts.disk l.device ≡ after (writes_from (slot_at new_layout l.fn.slot) (take l.n l.fn.content.sectors)) (g.D.Device.facts.disk l.fn.device);
}
