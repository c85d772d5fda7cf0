-- The ranking of a field: by points, and of equals the earlier place first.
use Rattle.std.specs.{Prelude.{◌≡◌, ℕ, ◌+◌, ◌<◌, ◌≤◌, ◌⊎◌, List, length, get_or, map, IsPermutation}, List.range_with_len, declared.cmp.Reverse.Reverse}
use Rattle.{koth_text.specs.{Tally.points_of, declared.tally.Tally.Tally}, koth_standings.specs.Standings.at_place}

-- the points of a place
abbrev pub points_at : List Tally → ℕ → ℕ
points_at counts place = points_of (at_place counts place)

-- place a is before place b: it has more points, or as many and is the earlier one
abbrev pub IsBefore : List Tally → ℕ → ℕ → Type 0
IsBefore counts a b = (points_at counts b < points_at counts a) ⊎ ((points_at counts a ≡ points_at counts b) × (a ≤ b))

-- what places are sorted by: the points, of which more come first, and the place
abbrev pub key_at : List Tally → ℕ → Reverse ℕ × ℕ
key_at counts place = (record { 0 = points_at counts place }, place)

-- the keys of all places, in the order of places
abbrev pub keys_of : List Tally → List (Reverse ℕ × ℕ)
keys_of counts = map (key_at counts) (range_with_len 0 (length counts))

abbrev pub places_of : List (Reverse ℕ × ℕ) → List ℕ
places_of keys = map (λ (k : Reverse ℕ × ℕ). k.1) keys

-- these are the places of the field, each once, and each is before the next
pub record IsRanking (counts : List Tally) (ranked : List ℕ) : Type 0 where
  pub each : IsPermutation (range_with_len 0 (length counts)) ranked
  pub ordered : (i : ℕ) → i + 1 < length ranked → IsBefore counts (get_or ranked i 0) (get_or ranked (i + 1) 0)
