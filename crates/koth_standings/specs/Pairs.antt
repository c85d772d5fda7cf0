-- The pairs of a field, in their order. Warriors are named by their places in the field, counted from 0.
use Rattle.std.specs.{Prelude.{ℕ, ◌+◌, ◌-◌, ◌<◌, ◌≤◌, List, ◌++◌, map}, List.{flat_map, range_with_len}}
use Rattle.koth_standings.specs.declared.pairs.{Pair.Pair, Pairs.Pairs}

-- the earlier place of a pair has the older warrior
abbrev pub pair : ℕ → ℕ → Pair
pair older younger = record { older = older; younger = younger }

-- the pairs of one older warrior with the younger ones from place `from` on, in a field of n
abbrev pub pairs_from : ℕ → ℕ → ℕ → List Pair
pairs_from n older from = map (pair older) (range_with_len from (n - from))

-- the pairs of one older warrior, with each place after its own
abbrev pub pairs_of : ℕ → ℕ → List Pair
pairs_of n older = pairs_from n older (older + 1)

-- the pairs of the older warriors from place `from` on
abbrev pub pairs_after : ℕ → ℕ → List Pair
pairs_after n from = flat_map (pairs_of n) (range_with_len from (n - from))

-- all pairs of a field of n: of each two places one pair
abbrev pub pairs : ℕ → List Pair
pairs n = pairs_after n 0

-- the pairs that are left: of this older warrior from this younger one on, and of all older warriors after it
abbrev pub pairs_left : Pairs → List Pair
pairs_left p = pairs_from p.places p.older p.younger ++ pairs_after p.places (p.older + 1)

-- the next pair is this one; if its younger place is past the field, no pair is left
pub record IsNext (p : Pairs) : Type 0 where
  pub apart : p.older < p.younger
  pub last : p.places ≤ p.younger → p.places ≤ p.older + 1

-- both places are in a field of n, the older warrior's first
pub record IsPair (n : ℕ) (p : Pair) : Type 0 where
  pub apart : p.older < p.younger
  pub within : p.younger < n
