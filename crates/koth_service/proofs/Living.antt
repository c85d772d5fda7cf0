-- What a service is in the life of its device: for `services_in_lives`.
use Rattle.std.proofs.Common.{◌≡◌, ◌⊎◌, ℕ, Bool, true, false, not, List, [], ◌∷◌, ◌++◌, Option, None, Some, refl, sym, ap, subst, ◌∙◌, append_assoc, append-nil}
use Rattle.{war_types.specs.declared.settings.RawSettings.RawSettings, koth_hill.specs.Kept.Kept, sector_disk.specs.{Facts.DeviceFacts, Disk.{Disk, current}, Image.Images}}
use Rattle.{hill_images.specs.Stands.{Reads, Stands}, hill_store.specs.{Earned.{earned, kept_next}, Holding.{IsHeldWith, IsHolding}, Lives.{Event, Lives, MovesOn}, Seen.{IsStanding, Seen}}}
use Rattle.{hill_store.proofs.Eventful.{calls, may_move_on, next_by}, koth_session.specs.{Lives.answers_to, Transcript.submitted}, koth_session.proofs.Living.moves_by}
use Rattle.koth_service.specs.{Moment.{Happening, Start, moment}, History.{IsHistory, Shows}, Held.{AreEvents, IsHeld, ServicesAreLives}}
use Rattle.koth_service.proofs.Holdings.{are_held, holds_now, latest, open_holds, reopened_holds, same_store, store_is}

-- whether a store takes submissions, by whether it has to be opened again
abbrev takes : Bool → Bool
takes = not

module _ {D : Type 0} (facts : DeviceFacts D) (s : RawSettings) where
  lawful_held : (found : List (List ℕ)) (more : Option (List ℕ)) (store : Seen D) → IsHeldWith facts s found more store → facts.lawful store.device
  lawful_held found None store is = is.lawful
  lawful_held found (Some source) store is = is.lawful

  standing : (found : List (List ℕ)) (store : Seen D) → IsHolding facts s found store → IsStanding facts store
  standing found store is = record {
    is_open = is.open_now;
    reads = subst (λ (k : Kept). Images (facts.disk store.device) (λ image. Reads (facts.size store.device) image k)) (sym is.hill) is.holds;
  }

  module _ (shows : Shows D) (start : Start D) (before : List (List ℕ)) where
    -- whatever comes after these events
    abbrev Goes : List Event → Disk → Bool → Type 0
    Goes events disk may =
        (more : List Event) (end : Disk) → Lives (facts.size start.store.device) may disk more end
        → Lives (facts.size start.store.device) true (facts.disk start.store.device) (events ++ more) end

    goes_by : (events : List Event) (event : Event) (old new : Disk) (may after : Bool) → Goes events old may
        → ((more : List Event) (end : Disk) → Lives (facts.size start.store.device) after new more end → Lives (facts.size start.store.device) may old (event ∷ more) end)
        → Goes (events ++ event ∷ []) new after
    goes_by events event old new may after goes step = λ more end lives.
        subst (λ (l : List Event). Lives (facts.size start.store.device) true (facts.disk start.store.device) l end) (sym (append_assoc events (event ∷ []) more))
        (goes (event ∷ more) end (step more end lives))

    -- the life up to a store
    record Lived (history : List (Happening D)) (store : Seen D) : Type 0 where
      pub events : List Event
      pub are : AreEvents history events
      pub goes : Goes events (facts.disk store.device) (takes store.reopen)
      pub sized : facts.size store.device ≡ facts.size start.store.device

    -- the life goes on with a store that takes submissions, or with one that does not
    lives_by : (may will : Bool) (disk : Disk) (more : List Event) (end : Disk) → may ≡ will → Lives (facts.size start.store.device) may disk more end
        → Lives (facts.size start.store.device) will disk more end
    lives_by may will disk more end is lives = subst (λ (o : Bool). Lives (facts.size start.store.device) o disk more end) is lives

    lived : (history : List (Happening D)) → IsHolding facts s before start.store → IsHistory facts shows start history → Lived history (moment start history).now
    lived [] holding is = record {
      events = [];
      are = refl;
      goes = λ more end lives. lives_by (takes start.store.reopen) true (facts.disk start.store.device) more end (ap takes holding.open_now) lives;
      sized = refl;
    }
    lived (Happening.On what ∷ older) holding is =
        let rest = lived older holding is.1 in
        subst (λ (store : Seen D). Lived (Happening.On what ∷ older) store) (sym (same_store what (moment start older)))
        (record { events = rest.events; are = rest.are; goes = rest.goes; sized = rest.sized })
    lived (Happening.Replied n reply ∷ older) holding is =
        let rest = lived older holding is.1 in
        record { events = rest.events; are = rest.are; goes = rest.goes; sized = rest.sized }
    lived (Happening.Displaced n ∷ older) holding is =
        let rest = lived older holding is.1 in
        record { events = rest.events; are = rest.are; goes = rest.goes; sized = rest.sized }
    lived (Happening.Stopped n end ∷ older) holding is =
        let rest = lived older holding is.1 in
        record { events = rest.events; are = rest.are; goes = rest.goes; sized = rest.sized }
    lived (Happening.Stepped n source submission ∷ older) holding is =
        let rest = lived older holding is.1 in
        record { events = rest.events; are = rest.are; goes = rest.goes; sized = rest.sized }
    lived (Happening.PutOff n source ∷ older) holding is =
        let rest = lived older holding is.1 in
        record { events = rest.events; are = rest.are; goes = rest.goes; sized = rest.sized }
    lived (Happening.Disconnected n how ∷ older) holding is =
        let rest = lived older holding is.1 in
        record { events = rest.events; are = rest.are; goes = rest.goes; sized = rest.sized }
    lived (Happening.Answered n e new ∷ older) holding is =
        let rest = lived older holding is.1 in
        let old : Seen D = (moment start older).now in
        let served = is.0.served in
        let sound : old.reopen ≡ false = sym served.still ∙ is.0.safe.open_now in
        let held : IsHeld facts s before start older = latest facts s shows start before older (are_held facts s shows start before older holding is.1) in
        let now = open_holds facts s held.found held.more old sound (holds_now facts s start before older held) in
        let moves : MovesOn (facts.size start.store.device) (submitted (e ∷ [])) (facts.disk old.device) (facts.disk new.device) =
        subst (λ (size : ℕ). MovesOn size (submitted (e ∷ [])) (facts.disk old.device) (facts.disk new.device)) rest.sized
        (moves_by facts old new (e ∷ []) now.1.lawful (standing held.found old now.1) served) in record {
          events = rest.events ++ answers_to (e ∷ []) ∷ [];
          are = (rest.events, rest.are, refl);
          goes = goes_by rest.events (answers_to (e ∷ [])) (facts.disk old.device) (facts.disk new.device) (takes old.reopen) (takes new.reopen) rest.goes (λ more end lives.
              (facts.disk new.device, ap takes sound, moves, lives_by (takes new.reopen) true (facts.disk new.device) more end (ap takes is.0.safe.open_now) lives));
          sized = served.kept.same_size ∙ rest.sized;
        }
    lived (Happening.CutOff n source new ∷ older) holding is =
        let rest = lived older holding is.1 in
        let old : Seen D = (moment start older).now in
        let left = is.0.left_off in
        let sound : old.reopen ≡ false = is.0.safe.open_now in
        let held : IsHeld facts s before start older = latest facts s shows start before older (are_held facts s shows start before older holding is.1) in
        let now = open_holds facts s held.found held.more old sound (holds_now facts s start before older held) in
        let size = facts.size start.store.device in
        let next = kept_next old.hill source in
        let reads : Images (facts.disk old.device) (λ image. Reads size image old.hill) =
        subst (λ (k : ℕ). Images (facts.disk old.device) (λ image. Reads k image old.hill)) rest.sized (let stands = standing held.found old now.1 in stands.reads) in
        let either : Images (facts.disk new.device) (λ image. Reads size image old.hill ⊎ Reads size image next) =
        subst (λ (k : ℕ). Images (facts.disk new.device) (λ image. Reads k image old.hill ⊎ Reads k image next)) (left.kept.same_size ∙ rest.sized) (left.reads now.1.lawful sound) in record {
          events = rest.events ++ Event.Unanswered source ∷ [];
          are = (rest.events, rest.are, refl);
          goes = goes_by rest.events (Event.Unanswered source) (facts.disk old.device) (facts.disk new.device) (takes old.reopen) (takes new.reopen) rest.goes (λ more end lives. (
            facts.disk new.device,
            ap takes sound,
            may_move_on size (facts.disk old.device) (facts.disk new.device) old.hill next source reads either (next_by old.hill source),
            lives_by (takes new.reopen) false (facts.disk new.device) more end (ap takes left.broken) lives,
          ));
          sized = left.kept.same_size ∙ rest.sized;
        }
    lived (Happening.Reopened new ∷ older) holding is =
        let rest = lived older holding is.1 in
        let old : Seen D = (moment start older).now in
        let held : IsHeld facts s before start older = latest facts s shows start before older (are_held facts s shows start before older holding is.1) in
        let lawful = lawful_held held.found held.more old (holds_now facts s start before older held) in
        let again = is.0.again lawful in
        let found = reopened_holds facts s held.found held.more new (moment start older) is.0 (holds_now facts s start before older held) in
        let hill = earned s found.0 in
        let laws = calls facts in
        let one = laws.opened old.device new hill lawful again.1 found.2.hill in record {
          events = rest.events ++ Event.Opened hill ∷ [];
          are = (rest.events, hill, rest.are, found.2.hill, refl);
          goes = goes_by rest.events (Event.Opened hill) (facts.disk old.device) (facts.disk new.device) (takes old.reopen) (takes new.reopen) rest.goes (λ more end lives. (
            subst (λ (size : ℕ). Stands size (current (facts.disk old.device)) hill) rest.sized one.0,
            subst (λ (disk : Disk). Lives (facts.size start.store.device) true disk more end) one.1
                (lives_by (takes new.reopen) true (facts.disk new.device) more end (ap takes is.0.open_now) lives),
          ));
          sized = again.0.same_size ∙ rest.sized;
        }

pub services : {D : Type 0} (facts : DeviceFacts D) (shows : Shows D) → ServicesAreLives facts shows
services {D} facts shows = record {
  lived = λ start history s before holding is.
      let life = lived facts s shows start before history holding is in (
        life.events,
        life.are,
        subst (λ (end : Seen D). Lives (facts.size start.store.device) true (facts.disk start.store.device) life.events (facts.disk end.device)) (sym (store_is start history))
            (subst (λ events. Lives (facts.size start.store.device) true (facts.disk start.store.device) events (facts.disk (moment start history).now.device)) (append-nil life.events)
            (life.goes [] (facts.disk (moment start history).now.device) refl)),
      );
}
