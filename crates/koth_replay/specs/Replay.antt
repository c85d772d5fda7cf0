-- A round of a match as a replay has it.
use Rattle.std.specs.{Prelude.{◌≡◌, ℕ, ◌*◌, ◌<◌, ◌≤◌, min, nat_lt, Bool, List, [], ◌∷◌, length, take, replicate, slice_index_or}, List.flat_map}
use Rattle.{war_types.specs.{declared.settings.RawSettings.RawSettings, Warrior.WarriorParts}, mars_core.specs.{declared.round.Outcome.Outcome, Cells.blank}}
use Rattle.{mars_core.specs.Round.{Round, opening, after_turns}, koth_match.specs.{Match.{first_in, round_outcome}, Seeds.{position, seed_of_round}}}
use Rattle.koth_replay.specs.{declared.event.Event.Event, declared.opening.Opening.Opening, Picture.{Picture, picture, picture_of, drawn}, Turn.{core_events, turn_events}}

-- round r of a match as it begins, counted from 0
abbrev pub begun : RawSettings → WarriorParts → WarriorParts → ℕ → Round
begun s older younger r = opening s older younger (position s (seed_of_round s r)) (first_in r)

-- how many turns it has
abbrev pub turns_in : RawSettings → WarriorParts → WarriorParts → ℕ → ℕ
turns_in s older younger r = (after_turns (2 * s.cycles) (begun s older younger r)).used

-- what a replay holds, wherever that lies in memory
pub record ReplayParts : Type 0 where
  pub opening : Opening
  pub loaded : List Event
  pub turns : List (List Event)
  pub outcome : Outcome
  pub is_cut : Bool

abbrev pub replay_parts : Opening → List Event → List (List Event) → Outcome → Bool → ReplayParts
replay_parts begins loaded turns ends is_cut = record { opening = begins; loaded = loaded; turns = turns; outcome = ends; is_cut = is_cut }

-- nothing is loaded yet, and each side has one process
abbrev pub blank_picture : Opening → Picture
blank_picture o = picture (replicate o.core blank) (o.older ∷ []) (o.younger ∷ []) o.first

-- the picture with which a replay begins
abbrev pub first_picture : ReplayParts → Picture
first_picture r = drawn (blank_picture r.opening) r.loaded

-- the events of the first n turns
abbrev pub events_before : ℕ → List (List Event) → List Event
events_before n turns = flat_map (λ t. t) (take n turns)

-- the replay of a round, with `most` turns at most
pub record IsReplay (s : RawSettings) (older younger : WarriorParts) (r most : ℕ) (replay : ReplayParts) : Type 0 where
  -- it begins with the picture of the round as it begins
  pub begins : first_picture replay ≡ picture_of (begun s older younger r)
  -- the events of the first n turns make of that the picture of the round after n turns
  pub draws : (n : ℕ) → n ≤ length replay.turns → drawn (first_picture replay) (events_before n replay.turns) ≡ picture_of (after_turns n (begun s older younger r))
  -- it has all turns of the round, or the first `most`, and then says that it is cut
  pub count : length replay.turns ≡ min most (turns_in s older younger r)
  pub cut : replay.is_cut ≡ nat_lt most (turns_in s older younger r)
  -- it ends as the round does
  pub ends : replay.outcome ≡ round_outcome s older younger r
  -- the younger warrior is at its position, and each cell and each turn has its own events and no others
  pub position : replay.opening.position ≡ position s (seed_of_round s r)
  pub loads : replay.loaded ≡ core_events s.core (replicate s.core blank) (begun s older younger r).core
  pub tells : (n : ℕ) → n < length replay.turns → slice_index_or replay.turns n [] ≡ turn_events (after_turns n (begun s older younger r))
