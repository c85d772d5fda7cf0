-- A challenge that is fought in steps.
use Rattle.std.specs.Prelude.{◌≡◌, ◌⊎◌, ℕ, ◌+◌, ◌*◌, ◌/◌, ◌<◌, ◌≤◌, [], ◌∷◌, ◌++◌, length, take, slice_get, max, IfSome}
use Rattle.{war_types.specs.{declared.settings.RawSettings.RawSettings, Warrior.WarriorParts}, koth_match.specs.Match.{match_of, IsPlayed}}
use Rattle.koth_hill.specs.{declared.challenge.Challenge.Challenge, Step.matches_with, Kept.Kept}

-- how many rounds a step plays at most: those that have `turns` turns at most, and at least one
abbrev pub rounds_of_step : ℕ → RawSettings → ℕ
rounds_of_step turns s = max 1 (turns / (2 * s.cycles))

-- a challenge of this warrior to this hill: its matches with the first members were fought, and some rounds of the one
-- with the next
pub record IsUnderWay (k : Kept) (w : WarriorParts) (c : Challenge) : Type 0 where
  pub few : length c.bouts ≤ length k.members
  pub fought : c.bouts ≡ matches_with k.settings (take (length c.bouts) k.members) w
  pub next : IfSome (slice_get k.members (length c.bouts)) (λ m. IsPlayed k.settings m.warrior w c.under_way)
  pub left : c.under_way.round < k.settings.rounds

-- ---- a step

-- the match under way goes on, by the rounds of a step
pub record GoesOn (turns : ℕ) (s : RawSettings) (old new : Challenge) : Type 0 where
  pub bouts : new.bouts ≡ old.bouts
  pub round : new.under_way.round ≡ old.under_way.round + rounds_of_step turns s
  pub more : old.under_way.round < new.under_way.round
  pub left : new.under_way.round < s.rounds

-- its last rounds were played, no more than a step has, and the next match is before its first one
pub record EndsMatch (turns : ℕ) (s : RawSettings) (old new : Challenge) : Type 0 where
  pub bouts : length new.bouts ≡ length old.bouts + 1
  pub last : s.rounds ≤ old.under_way.round + rounds_of_step turns s
  pub round : new.under_way.round ≡ 0

abbrev pub IsStep : ℕ → RawSettings → Challenge → Challenge → Type 0
IsStep turns s old new = GoesOn turns s old new ⊎ EndsMatch turns s old new

-- what a step makes of a challenge, if this is the member under way
pub record GoesOnWith (turns : ℕ) (s : RawSettings) (older w : WarriorParts) (old new : Challenge) : Type 0 where
  pub step : GoesOn turns s old new
  pub played : IsPlayed s older w new.under_way

pub record EndsMatchWith (turns : ℕ) (s : RawSettings) (older w : WarriorParts) (old new : Challenge) : Type 0 where
  pub step : EndsMatch turns s old new
  pub fought : new.bouts ≡ old.bouts ++ match_of s older w ∷ []
  pub next : (other : WarriorParts) → IsPlayed s other w new.under_way
