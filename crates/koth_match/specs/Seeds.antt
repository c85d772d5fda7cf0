-- The seeds of a match's rounds, and the position of the younger warrior (pMARS, "Placement"; that every match begins
-- with the settings' seed is this project's own).
use Rattle.std.specs.Prelude.{ℕ, ◌+◌, ◌-◌, ◌*◌, ◌^◌, ◌%◌, ◌≤◌}
use Rattle.war_types.specs.declared.settings.RawSettings.{RawSettings}

-- the seed after a seed
abbrev pub next_seed : ℕ → ℕ
next_seed x = (16807 * x) % 2147483647

-- the seed of a round, counted from 0
abbrev pub seed_of_round : RawSettings → ℕ → ℕ
seed_of_round s r = (s.seed * 16807 ^ r) % 2147483647

-- the address at which the younger warrior is loaded
abbrev pub position : RawSettings → ℕ → ℕ
position s seed = s.distance + seed % (s.core + 1 - 2 * s.distance)

-- the range of seeds
pub record IsSeed (x : ℕ) : Type 0 where
  pub least : 1 ≤ x
  pub most : x ≤ 2147483646

-- the range of positions: at least the settings' distance away from address 0 on both sides
pub record IsPosition (s : RawSettings) (at : ℕ) : Type 0 where
  pub least : s.distance ≤ at
  pub most : at + s.distance ≤ s.core
