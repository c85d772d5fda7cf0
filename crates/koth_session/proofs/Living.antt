-- What a session is in the life of its device: for `sessions_in_lives`.
use Rattle.{std.proofs.Common.{◌≡◌, ◌⊎◌, ℕ, true, inl, inr, List, [], ◌∷◌, ◌++◌, Option, refl, sym, ap, subst, ◌∙◌}, koth_hill.specs.Kept.fought, sector_disk.specs.{Facts.DeviceFacts, Image.Images}}
use Rattle.{hill_images.specs.Stands.Reads, hill_store.specs.{Earned.kept_next, Lives.{Event, Lives, MovesOn}, Seen.{IsStanding, Seen}}, hill_store.proofs.Eventful.{may_move_on, moves_on, next_by}}
use Rattle.koth_session.specs.{Lives.{SessionsAreEvents, answers_to, events_of}, Sessions.{EndsSo, IsLeftOff, AreServed, Scene}, Transcript.{Exchange, submitted}}
use Rattle.{koth_session.specs.declared.sessions.SessionEnd.SessionEnd, koth_session.proofs.{Holding.hill_is, Exchanges.served_on}}

module _ {D : Type 0} (facts : DeviceFacts D) where
  -- commands were answered
  pub moves_by : (old new : Seen D) (es : List Exchange) → facts.lawful old.device → IsStanding facts old → AreServed facts old new es
      → MovesOn (facts.size old.device) (submitted es) (facts.disk old.device) (facts.disk new.device)
  moves_by old new es lawful standing is =
      let now = is.reads lawful standing.is_open standing.reads in
      let sized = subst (λ n. Images (facts.disk new.device) (λ image. Reads n image new.hill)) is.kept.same_size now in
      moves_on (facts.size old.device) (facts.disk old.device) (facts.disk new.device) old.hill new.hill (submitted es) standing.reads sized
      (λ hill is_hill same. let after = is.anew hill is_hill same in after.fought_is ∙ ap fought (hill_is hill es))

  served : (old new : Seen D) (es : List Exchange) → facts.lawful old.device → IsStanding facts old → AreServed facts old new es
      → Lives (facts.size old.device) true (facts.disk old.device) (answers_to es ∷ []) (facts.disk new.device)
  served old new es lawful standing is = (facts.disk new.device, refl, moves_by old new es lawful standing is, refl)

  -- and nothing changed after them
  served_to : (old last new : Seen D) (es : List Exchange) → facts.lawful old.device → IsStanding facts old → AreServed facts old last es → new ≡ last
      → Lives (facts.size old.device) true (facts.disk old.device) (answers_to es ∷ []) (facts.disk new.device)
  served_to old last new es lawful standing is same =
      subst (λ (s : Seen D). Lives (facts.size old.device) true (facts.disk old.device) (answers_to es ∷ []) (facts.disk s.device)) (sym same) (served old last es lawful standing is)

  -- the store still stands after them
  standing_on : (old new : Seen D) (es : List Exchange) → facts.lawful old.device → IsStanding facts old → AreServed facts old new es → IsStanding facts new
  standing_on old new es lawful standing is = record {
    is_open = is.still ∙ standing.is_open;
    reads = is.reads lawful standing.is_open standing.reads;
  }

  -- the device failed after them
  cut_behind : (old last new : Seen D) (es : List Exchange) (source : List ℕ) → facts.lawful old.device → IsStanding facts old
      → AreServed facts old last es → IsLeftOff facts last new source
      → Lives (facts.size old.device) true (facts.disk old.device) (answers_to es ∷ Event.Unanswered source ∷ []) (facts.disk new.device)
  cut_behind old last new es source lawful standing is cut =
      let on = standing_on old last es lawful standing is in
      let either = cut.reads (is.kept.same_laws.1 lawful) on.is_open in
      let size = facts.size old.device in
      let sized : Images (facts.disk new.device) (λ image. Reads size image last.hill ⊎ Reads size image (kept_next last.hill source)) =
      subst (λ n. Images (facts.disk new.device) (λ image. Reads n image last.hill ⊎ Reads n image (kept_next last.hill source))) (cut.kept.same_size ∙ is.kept.same_size) either in
      let held : Images (facts.disk last.device) (λ image. Reads size image last.hill) =
      subst (λ n. Images (facts.disk last.device) (λ image. Reads n image last.hill)) is.kept.same_size on.reads in (
        facts.disk last.device,
        refl,
        moves_by old last es lawful standing is,
        (facts.disk new.device, refl, may_move_on size (facts.disk last.device) (facts.disk new.device) last.hill (kept_next last.hill source) source held sized (next_by last.hill source), refl),
      )

  ended : (end : SessionEnd) (taken : List ℕ) (left : Option (List ℕ)) (old new : Scene D) → facts.lawful old.store.device → IsStanding facts old.store
      → (is : EndsSo facts end taken left old new)
      → Lives (facts.size old.store.device) true (facts.disk old.store.device) (events_of facts end taken left old new is) (facts.disk new.store.device)
  ended SessionEnd.Quit taken left old new lawful standing is = served_to old.store is.last.store new.store is.es lawful standing is.answered.served is.ended.1
  ended SessionEnd.EndOfInput taken left old new lawful standing is = served old.store new.store is.1.es lawful standing is.1.answered.served
  ended SessionEnd.ReadFault taken left old new lawful standing is = served old.store new.store is.es lawful standing is.answered.served
  ended SessionEnd.WriteFault taken left old new lawful standing is =
      served old.store new.store (is.es ++ is.ended.0 ∷ []) lawful standing
      (served_on facts old.store is.last.store new.store is.es (is.ended.0 ∷ []) is.answered.served is.ended.2)
  ended SessionEnd.Limit taken left old new lawful standing is = served old.store new.store is.1.es lawful standing is.1.answered.served
  ended SessionEnd.StoreFailed taken left old new lawful standing is =
      cut_behind old.store is.last.store new.store is.es is.ended.0 lawful standing is.answered.served is.ended.2
  ended SessionEnd.Memory taken left old new lawful standing (inl is) = ap (λ (s : Seen D). facts.disk s.device) is.1
  ended SessionEnd.Memory taken left old new lawful standing (inr is) = served_to old.store is.last.store new.store is.es lawful standing is.answered.served is.ended.1

  pub sessions : SessionsAreEvents facts
  sessions = record { ended = ended }
