-- What a session is in the life of its device.
use Rattle.std.specs.Prelude.{ℕ, true, List, [], ◌∷◌, ◌++◌, Option}
use mathlib.Core.Logic.{inl, inr}
use Rattle.{sector_disk.specs.Facts.DeviceFacts, hill_store.specs.{Seen.IsStanding, Lives.{Event, Lives}}}
use Rattle.koth_session.specs.{Sessions.{EndsSo, Scene}, Transcript.{Exchange, submitted}}
use Rattle.koth_session.specs.declared.sessions.SessionEnd.{SessionEnd}

-- the submissions among these commands were answered
abbrev pub answers_to : List Exchange → Event
answers_to es = Event.Answered (submitted es)

-- a session that ended so: the submissions among the commands that were answered, and the one in which the device
-- failed
abbrev pub events_of : {D : Type 0} (facts : DeviceFacts D) (end : SessionEnd) (taken : List ℕ)
    (left : Option (List ℕ)) (old new : Scene D) → EndsSo facts end taken left old new → List Event
events_of facts SessionEnd.Quit taken left old new is = answers_to is.es ∷ []
events_of facts SessionEnd.EndOfInput taken left old new is = answers_to is.1.es ∷ []
events_of facts SessionEnd.ReadFault taken left old new is = answers_to is.es ∷ []
events_of facts SessionEnd.WriteFault taken left old new is = answers_to (is.es ++ is.ended.0 ∷ []) ∷ []
events_of facts SessionEnd.Limit taken left old new is = answers_to is.1.es ∷ []
events_of facts SessionEnd.StoreFailed taken left old new is = answers_to is.es ∷ Event.Unanswered is.ended.0 ∷ []
events_of facts SessionEnd.Memory taken left old new (inl nothing) = []
events_of facts SessionEnd.Memory taken left old new (inr is) = answers_to is.es ∷ []

-- on a lawful device, if the session began with a store that takes submissions
pub record SessionsAreEvents {D : Type 0} (facts : DeviceFacts D) : Type 0 where
  pub ended : (end : SessionEnd) (taken : List ℕ) (left : Option (List ℕ)) (old new : Scene D)
      → facts.lawful old.store.device → IsStanding facts old.store
      → (is : EndsSo facts end taken left old new)
      → Lives (facts.size old.store.device) true (facts.disk old.store.device)
      (events_of facts end taken left old new is) (facts.disk new.store.device)
