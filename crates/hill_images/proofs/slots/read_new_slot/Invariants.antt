-- The sectors so far are the slot's.
use Rattle.{std.proofs.Common.{◌≡◌, length, take}, sector_disk.specs.{Disk.current, Served.IsKept}, hill_bytes.specs.Layout.{new_layout, slot_in}}
use Rattle.hill_images.proofs.slots.read_new_slot.Given as goal

abbrev pub invariant-loop-n : goal.invariant-loop-n
invariant-loop-n g l = record {
  kept : IsKept g.D.Device.facts l.fn.device l.device;
  faultless : g.D.Device.facts.faults l.device ≡ g.D.Device.facts.faults l.fn.device;
  same : g.D.Device.facts.lawful l.fn.device → g.D.Device.facts.disk l.device ≡ g.D.Device.facts.disk l.fn.device;
  read : g.D.Device.facts.lawful l.fn.device → take l.n l.content.sectors ≡ take l.n (slot_in new_layout (current (g.D.Device.facts.disk l.fn.device)) l.fn.slot);
  len : length l.content.sectors ≡ 4;
}
