-- What the device holds during a service, in words of the sources that earn its hill, and what a service is in the
-- life of its device.
use Rattle.std.specs.Prelude.{◌≡◌, ℕ, true, List, [], ◌∷◌, ◌++◌, Option, None, Some}
use Rattle.{war_types.specs.declared.settings.RawSettings.RawSettings, koth_hill.specs.{Hill.Hill, Kept.fought}}
use Rattle.{sector_disk.specs.Facts.DeviceFacts, hill_store.specs.Holding.{AreDecided, IsHeldWith, IsHolding}}
use Rattle.{hill_store.specs.{Lives.{Event, Lives}, Seen.Seen}, koth_session.specs.{Lives.answers_to, Transcript.submitted}}
use Rattle.koth_service.specs.{Moment.{Happening, Start, noted}, Noted.Noted, History.{IsHistory, Shows}}

-- The sources that count after a history: those from before it, and those of the submissions that were answered, in
-- the order of their answers. And the one in which the device failed, until the hill is opened again: that decides
-- whether it counts.
abbrev pub Counts : {D : Type 0} → List (List ℕ) → List (Happening D) → List (List ℕ) → Option (List ℕ)
    → Type 0
Counts before [] found more = (found ≡ before) × (more ≡ None)
Counts before (Happening.Answered n e new ∷ older) found more =
    (answered : List (List ℕ)) × Counts before older answered None × (found ≡ answered ++ submitted (e ∷ []))
    × (more ≡ None)
Counts before (Happening.CutOff n source new ∷ older) found more =
    Counts before older found None × (more ≡ Some source)
Counts before (Happening.Reopened new ∷ older) found more =
    (answered : List (List ℕ)) × (last : Option (List ℕ)) × Counts before older answered last
    × AreDecided answered last found × (more ≡ None)
Counts before (_ ∷ older) found more = Counts before older found more

-- the store after a history
abbrev pub store_at : {D : Type 0} → Seen D → List (Happening D) → Seen D
store_at store [] = store
store_at store (Happening.Answered n e new ∷ older) = new
store_at store (Happening.CutOff n source new ∷ older) = new
store_at store (Happening.Reopened new ∷ older) = new
store_at store (_ ∷ older) = store_at store older

-- The store holds what the sources that count earn, each pair fought again: so it is with every image that a stop may
-- leave. In that of a device that failed, the one more may be missing.
pub record IsHeld {D : Type 0} (facts : DeviceFacts D) (s : RawSettings) (before : List (List ℕ)) (start : Start D)
    (history : List (Happening D)) : Type 0 where
  pub found : List (List ℕ)
  pub more : Option (List ℕ)
  pub counts : Counts before history found more
  pub holds : IsHeldWith facts s found more (store_at start.store history)

-- so it is at each moment of a history
abbrev pub AreHeld : {D : Type 0} → DeviceFacts D → RawSettings → List (List ℕ) → Start D
    → List (Happening D) → Type 0
AreHeld facts s before start [] = IsHeld facts s before start []
AreHeld facts s before start (what ∷ older) =
    IsHeld facts s before start (what ∷ older) × AreHeld facts s before start older

-- If nothing had happened on the sockets before, this is so of some history of what happened on them since.
abbrev pub HasHistory : {S D : Type 0} → (S → List Noted → Type 0) → (List (Happening D) → Type 0) → S → S → Type 0
HasHistory {S} {D} happened P old new =
    happened old [] → (history : List (Happening D)) × happened new (noted history) × P history

-- Whatever sources its store held then, the device held at each moment of that what they and the submissions answered
-- by then earn.
abbrev pub IsDurable : {S D : Type 0} → (S → List Noted → Type 0) → DeviceFacts D → Start D → S → S → Type 0
IsDurable happened facts start old new = HasHistory happened
    (λ history. (s : RawSettings) (before : List (List ℕ)) → IsHolding facts s before start.store
    → AreHeld facts s before start history)
    old new

-- what a history is in the life of the device: submissions that were answered, or in which the device failed, and
-- openings
abbrev pub AreEvents : {D : Type 0} → List (Happening D) → List Event → Type 0
AreEvents [] events = events ≡ []
AreEvents (Happening.Answered n e new ∷ older) events =
    (before : List Event) × AreEvents older before × (events ≡ before ++ answers_to (e ∷ []) ∷ [])
AreEvents (Happening.CutOff n source new ∷ older) events =
    (before : List Event) × AreEvents older before × (events ≡ before ++ Event.Unanswered source ∷ [])
AreEvents (Happening.Reopened new ∷ older) events =
    (before : List Event) × (hill : Hill) × AreEvents older before × (new.hill ≡ fought hill)
    × (events ≡ before ++ Event.Opened hill ∷ [])
AreEvents (_ ∷ older) events = AreEvents older events

-- if the service began with a store that holds what some sources earn
pub record ServicesAreLives {D : Type 0} (facts : DeviceFacts D) (shows : Shows D) : Type 0 where
  pub lived : (start : Start D) (history : List (Happening D)) (s : RawSettings) (before : List (List ℕ))
      → IsHolding facts s before start.store
      → IsHistory facts shows start history → (events : List Event) × AreEvents history events
      × Lives (facts.size start.store.device) true (facts.disk start.store.device)
      events (facts.disk (store_at start.store history).device)
