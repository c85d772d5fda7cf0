-- The slots of the entries before this one hold warriors.
use Rattle.{std.proofs.Common.{◌≡◌, ℕ, Option, drop}, sector_disk.specs.{Disk.current, Served.IsKept}, hill_images.specs.Damage.FirstDamaged}
use Rattle.hill_images.proofs.damage.first_of.Given as goal

abbrev pub invariant-loop-e : goal.invariant-loop-e
invariant-loop-e g l = IsKept g.D.Device.facts l.fn.device l.device
    × (g.D.Device.facts.lawful l.fn.device → g.D.Device.facts.disk l.device ≡ g.D.Device.facts.disk l.fn.device)
    × (g.D.Device.facts.lawful l.fn.device → (found : Option ℕ)
    → FirstDamaged l.fn.header.settings (current (g.D.Device.facts.disk l.fn.device)) (drop l.e-index l.fn.header.entries) found
    → FirstDamaged l.fn.header.settings (current (g.D.Device.facts.disk l.fn.device)) l.fn.header.entries found)
