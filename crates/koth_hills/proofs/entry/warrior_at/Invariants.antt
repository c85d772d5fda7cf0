-- No warrior before this place entered as this one.
use Rattle.{std.proofs.Common.{◌≡◌, ℕ, ◌<◌}, std.specs.Prelude.{Some, slice_get}, koth_hill.specs.Hill.Member}
use Rattle.koth_hills.proofs.entry.warrior_at.Given as goal

abbrev pub invariant-loop-place : goal.invariant-loop-place
invariant-loop-place g l = (k : ℕ) (m : Member) → k < l.place → slice_get l.hill.members k ≡ Some m → ¬ (m.entry ≡ l.entry)
