-- Of the code alone: the turns that it keeps, what it keeps of a round that has begun, and how it puts addresses in
-- order. No definition names a word of this file.
use Rattle.std.specs.Prelude.{◌≡◌, ℕ, ◌*◌, ◌<◌, ◌≤◌, ◌⊎◌, min, nat_lt, List, [], length, map, replicate, slice_index, slice_index_or, MatchOption, Option, Vec}
use Rattle.mars_core.specs.{Cells.blank, Round.{Round, after_turns, outcome}}
use Rattle.koth_replay.specs.{declared.event.Event.Event, declared.opening.Opening.Opening, Picture.{picture_of, drawn}, Turn.{core_events, turn_events}, Replay.{ReplayParts, events_before}}

-- the events of each of these turns
abbrev pub turns_of : {A : Type 0} → List (Vec Event A) → List (List Event)
turns_of {A} turns = map (λ (t : Vec Event A). t.items) turns

-- the turns of a round from `start` on: their events draw the round after each of them, and there are no other events
pub record AreTurns (start : Round) (turns : List (List Event)) : Type 0 where
  pub draw : (n : ℕ) → n ≤ length turns → drawn (picture_of start) (events_before n turns) ≡ picture_of (after_turns n start)
  pub tell : (n : ℕ) → n < length turns → slice_index_or turns n [] ≡ turn_events (after_turns n start)

-- what is kept of a round from this start on, which begins as this opening says, with `most` turns at most
pub record IsReplayOf (start : Round) (begins : Opening) (most : ℕ) (replay : ReplayParts) : Type 0 where
  pub opening : replay.opening ≡ begins
  pub loaded : replay.loaded ≡ core_events start.settings.core (replicate start.settings.core blank) start.core
  pub turns : AreTurns start replay.turns
  pub count : length replay.turns ≡ min most (after_turns (2 * start.settings.cycles) start).used
  pub cut : replay.is_cut ≡ nat_lt most (after_turns (2 * start.settings.cycles) start).used
  pub ends : replay.outcome ≡ outcome (after_turns (2 * start.settings.cycles) start)

-- the first n addresses are below another one
abbrev pub AreBelow : ℕ → List ℕ → ℕ → Type 0
AreBelow n addresses from = (i : ℕ) → i < n → slice_index addresses i < from

-- of the first n addresses the one at this place is the least that isn't below another one
pub record IsLeast (n : ℕ) (addresses : List ℕ) (from place : ℕ) : Type 0 where
  pub inside : place < n
  pub past : from ≤ slice_index addresses place
  pub least : (i : ℕ) → i < n → slice_index addresses i < from ⊎ slice_index addresses place ≤ slice_index addresses i

-- the place of that one, or none if all are below
abbrev pub IsNearest : ℕ → List ℕ → ℕ → Option ℕ → Type 0
IsNearest n addresses from best = MatchOption best (AreBelow n addresses from) (IsLeast n addresses from)
