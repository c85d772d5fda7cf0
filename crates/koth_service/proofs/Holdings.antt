-- What the device holds at each moment of a service, and what the service is in the life of its device.
use Rattle.std.proofs.Common.{◌≡◌, ℕ, true≢false, false, List, [], ◌∷◌, ◌++◌, Option, None, Some, refl, sym, subst, ◌∙◌, append-nil}
use Rattle.{war_types.specs.declared.settings.RawSettings.RawSettings, sector_disk.specs.Facts.DeviceFacts, hill_store.specs.{Holding.{AreDecided, Holds, IsCutOff, IsHeldWith, IsHolding}, Seen.Seen}}
use Rattle.{hill_store.proofs.Decided.decided, koth_session.specs.{Sessions.{AreServed, IsLeftOff}, Transcript.{Exchange, submitted}}}
use Rattle.koth_session.proofs.{Exchanges.served_none, Holding.{keeps_cut, keeps_list}}
use Rattle.koth_service.specs.{Noted.Noted, Moment.{Happening, Moment, Start, moment, next}, History.{Follows, IsHistory, Reopens, Shows}, Held.{AreHeld, Counts, IsHeld, store_at}}

-- what happens on the sockets leaves the store as it is
pub same_store : {D : Type 0} (what : Noted) (m : Moment D) → (next (Happening.On what) m).now ≡ m.now
same_store (Noted.Clock t) m = refl
same_store (Noted.Waited t) m = refl
same_store Noted.Arrived m = refl
same_store Noted.Refused m = refl
same_store (Noted.Seated n) m = refl
same_store (Noted.Heard n bytes) m = refl
same_store (Noted.AtEnd n) m = refl
same_store (Noted.Told n bytes) m = refl
same_store (Noted.Shut n) m = refl
same_store (Noted.Lost n) m = refl
same_store (Noted.Here n) m = refl
same_store (Noted.Closed n) m = refl
same_store Noted.Called m = refl
same_store Noted.Uncalled m = refl
same_store Noted.TurnedAway m = refl
same_store (Noted.Admitted n) m = refl
same_store (Noted.Requested n bytes) m = refl
same_store (Noted.Shown n bytes) m = refl
same_store (Noted.Left n) m = refl

-- the store after a history is that of its moment
pub store_is : {D : Type 0} (start : Start D) (history : List (Happening D)) → store_at start.store history ≡ (moment start history).now
store_is start [] = refl
store_is start (Happening.On what ∷ older) = store_is start older ∙ sym (same_store what (moment start older))
store_is start (Happening.Answered n e new ∷ older) = refl
store_is start (Happening.Stopped n end ∷ older) = store_is start older
store_is start (Happening.Stepped n source submission ∷ older) = store_is start older
store_is start (Happening.PutOff n source ∷ older) = store_is start older
store_is start (Happening.CutOff n source new ∷ older) = refl
store_is start (Happening.Reopened new ∷ older) = refl
store_is start (Happening.Disconnected n how ∷ older) = store_is start older
store_is start (Happening.Replied n reply ∷ older) = store_is start older
store_is start (Happening.Displaced n ∷ older) = store_is start older

module _ {D : Type 0} (facts : DeviceFacts D) (s : RawSettings) where
  pub holds_now : (start : Start D) (before : List (List ℕ)) (history : List (Happening D)) (held : IsHeld facts s before start history)
      → IsHeldWith facts s held.found held.more (moment start history).now
  holds_now start before history held =
      subst (λ (store : Seen D). IsHeldWith facts s held.found held.more store) (store_is start history) held.holds

  -- ---- what each happening makes of what the store holds

  pub open_holds : (found : List (List ℕ)) (more : Option (List ℕ)) (store : Seen D) → store.reopen ≡ false → IsHeldWith facts s found more store
      → (more ≡ None) × IsHolding facts s found store
  open_holds found None store sound is = (refl, is)
  open_holds found (Some source) store sound is = absurd (true≢false (sym is.broken ∙ sound))

  answered_holds : (found : List (List ℕ)) (old new : Seen D) (e : Exchange) → AreServed facts old new (e ∷ []) → IsHolding facts s found old
      → IsHolding facts s (found ++ submitted (e ∷ [])) new
  answered_holds found old new e served is =
      let kept = keeps_list facts old new (e ∷ []) served s found is.lawful is.open_now is.hill is.holds in
      record { lawful = served.kept.same_laws.1 is.lawful; open_now = served.still ∙ is.open_now; hill = kept.0; holds = kept.1 }

  cut_holds : (found : List (List ℕ)) (old new : Seen D) (source : List ℕ) → IsLeftOff facts old new source → IsHolding facts s found old → IsCutOff facts s found source new
  cut_holds found old new source left is = record {
    lawful = left.kept.same_laws.1 is.lawful;
    broken = left.broken;
    hill = left.hill ∙ is.hill;
    holds = subst (λ (l : List (List ℕ)). Holds (facts.size new.device) (facts.disk new.device) s l (Some source)) (append-nil found)
        (keeps_cut facts old old new [] source (served_none facts old) left s found is.lawful is.open_now is.hill is.holds);
  }

  pub reopened_holds : (found : List (List ℕ)) (more : Option (List ℕ)) (new : Seen D) (m : Moment D) → Reopens facts new m → IsHeldWith facts s found more m.now
      → (all : List (List ℕ)) × AreDecided found more all × IsHolding facts s all new
  reopened_holds found None new m reopens is = absurd (true≢false (sym reopens.failed ∙ is.open_now))
  reopened_holds found (Some source) new m reopens is =
      let again = reopens.again is.lawful in
      let opened = decided facts m.now.device s found (Some source) new again.0 again.1 is.lawful is.holds in
      (opened.found, opened.are, opened.holding)

  -- ---- at each moment

  module _ (shows : Shows D) (start : Start D) (before : List (List ℕ)) where
    held_next : (what : Happening D) (older : List (Happening D)) → Follows facts shows start what (moment start older) → IsHeld facts s before start older
        → IsHeld facts s before start (what ∷ older)
    held_next (Happening.On what) older follows held = record { found = held.found; more = held.more; counts = held.counts; holds = held.holds }
    held_next (Happening.Answered n e new) older follows held =
        let m : Moment D = moment start older in
        let is = open_holds held.found held.more m.now (sym follows.served.still ∙ follows.safe.open_now) (holds_now start before older held) in record {
          found = held.found ++ submitted (e ∷ []);
          more = None;
          counts = (held.found, subst (λ (more : Option (List ℕ)). Counts before older held.found more) is.0 held.counts, refl, refl);
          holds = answered_holds held.found m.now new e follows.served is.1;
        }
    held_next (Happening.CutOff n source new) older follows held =
        let m : Moment D = moment start older in
        let is = open_holds held.found held.more m.now follows.safe.open_now (holds_now start before older held) in record {
          found = held.found;
          more = Some source;
          counts = (subst (λ (more : Option (List ℕ)). Counts before older held.found more) is.0 held.counts, refl);
          holds = cut_holds held.found m.now new source follows.left_off is.1;
        }
    held_next (Happening.Reopened new) older follows held =
        let opened = reopened_holds held.found held.more new (moment start older) follows (holds_now start before older held) in
        record { found = opened.0; more = None; counts = (held.found, held.more, held.counts, opened.1, refl); holds = opened.2 }
    held_next (Happening.Stopped n end) older follows held = record { found = held.found; more = held.more; counts = held.counts; holds = held.holds }
    held_next (Happening.PutOff n source) older follows held = record { found = held.found; more = held.more; counts = held.counts; holds = held.holds }
    held_next (Happening.Stepped n source submission) older follows held = record { found = held.found; more = held.more; counts = held.counts; holds = held.holds }
    held_next (Happening.Disconnected n how) older follows held = record { found = held.found; more = held.more; counts = held.counts; holds = held.holds }
    held_next (Happening.Replied n reply) older follows held = record { found = held.found; more = held.more; counts = held.counts; holds = held.holds }
    held_next (Happening.Displaced n) older follows held = record { found = held.found; more = held.more; counts = held.counts; holds = held.holds }

    pub latest : (history : List (Happening D)) → AreHeld facts s before start history → IsHeld facts s before start history
    latest [] held = held
    latest (what ∷ older) held = held.0

    pub are_held : (history : List (Happening D)) → IsHolding facts s before start.store → IsHistory facts shows start history → AreHeld facts s before start history
    are_held [] holding is = record { found = before; more = None; counts = (refl, refl); holds = holding }
    are_held (what ∷ older) holding is =
        let held = are_held older holding is.1 in
        (held_next what older is.0 (latest older held), held)
