-- The beginning of a history, and a hill that was opened again.
use Rattle.std.proofs.Common.{◌≡◌, ◌∙◌, ℕ, ◌≤◌, false, ap, arith, length, List, [], ◌∷◌, Option, None, refl, sym, subst}
use Rattle.sector_disk.specs.Facts.{DeviceFacts}
use Rattle.hill_store.specs.Seen.{Seen}
use Rattle.koth_session.specs.{Judge.Fight, Peers.{IsOfOne, first_turn, peer_at}, declared.{peer.Peer.Peer, peers.Step.Step}}
use Rattle.koth_seats.specs.{Seats.seat_at, declared.seats.Seat.Seat}
use Rattle.koth_service.specs.{Noted.Noted, Moment.{Happening, Moment, Start, beginning, moment}, Rounds.shares_anew, History.{OpensAgain, Reopens, Shows}}
use Rattle.koth_service.specs.{Services.{IsReopened, IsSoundAfter, IsWithoutFault}, Standing.{GoesOn, IsAtStage, IsCutOff, PeersNow, StandsAfter, StandsAt, peers_of}}
use Rattle.koth_service.{specs.declared.{connections.Stage.Stage, desk.Desk.Desk}, proofs.Stages.{came_to_be, safe_anew}}

module _ {S D A : Type 0} (happened : S → List Noted → Type 0) (facts : DeviceFacts D) (shows : Shows D) (start : Start D) (browsers : ℕ → Option (Stage A)) where
  pub begun : (sockets : S) (peers : PeersNow A) → ((p : ℕ) → peer_at peers.slots p ≡ None) → ((p : ℕ) → seat_at peers.seats p ≡ None) → ((p : ℕ) → browsers p ≡ None)
      → peers.ended ≡ 0 → peers.turn ≡ first_turn → peers.under_way ≡ None → peers.clock ≡ 0 → peers.read_at ≡ 0 → peers.shares ≡ shares_anew → length peers.slots ≡ start.most → length peers.seats ≡ length peers.slots
      → start.store.reopen ≡ false → happened sockets [] → GoesOn happened facts shows start sockets peers browsers start.store
  begun sockets peers nobody empty nobody_visits no_ended turn under_way clock read_at shares places seats sound none =
      let counts : peers.ended ≤ 0 = omega (arith, no_ended) in
      let m : Moment D = beginning start.store in (
        [],
        came_to_be none tt
            (λ p. subst (λ (slot : Option (Peer A)). StandsAt (m.sessions p) slot (seat_at peers.seats p)) (sym (nobody p))
            (subst (λ (seat : Option Seat). StandsAt {A = A} (m.sessions p) None seat) (sym (empty p)) refl))
            (λ p. subst (λ (stage : Option (Stage A)). IsAtStage (m.browsers p) stage) (sym (nobody_visits p)) refl) refl places (seats ∙ places) counts
            (record { clock = sym clock; read_at = sym read_at; turn = sym turn; under_way = sym under_way; shares = sym shares })
            (subst (λ (u : Option Fight). IsOfOne start.store.hill.settings peers.slots u) (sym under_way) tt),
        safe_anew facts m.sessions m.browsers m.round start.store sound,
      )

  -- the desk that is sound again goes on
  opened_again : (old new : Desk D A) (sockets : S) → IsReopened facts old new → IsCutOff happened facts shows start sockets (peers_of old) browsers old.judge.store
      → GoesOn happened facts shows start sockets (peers_of old) browsers new.judge.store
  opened_again old new sockets is cut =
      let before = cut.1 in
      let m : Moment D = moment start cut.0 in
      let reopens : Reopens facts new.judge.store m = record {
        failed = ap (λ (s : Seen D). s.reopen) before.now_is ∙ cut.2;
        open_now = is.open_now;
        again = subst (λ (s : Seen D). OpensAgain facts s.device new.judge.store) (sym before.now_is) is.again;
      } in (
        Happening.Reopened new.judge.store ∷ cut.0,
        came_to_be before.logged (reopens, before.follows) before.standing before.visiting refl before.places before.seats before.ended before.round
            (subst (λ (u : Option Fight). IsOfOne new.judge.store.hill.settings old.peers.slots.items u) (sym cut.3) tt),
        safe_anew facts m.sessions m.browsers m.round new.judge.store is.open_now,
      )

  -- the desk is the same
  same_desk : (old new : Desk D A) (sockets : S) → new ≡ old → GoesOn happened facts shows start sockets (peers_of old) browsers old.judge.store
      → GoesOn happened facts shows start sockets (peers_of new) browsers new.judge.store
  same_desk old new sockets same on = subst (λ (desk : Desk D A). GoesOn happened facts shows start sockets (peers_of desk) browsers desk.judge.store) (sym same) on

  -- a step in which the device did not fail
  pub without_fault : (step : Step) (peers : PeersNow A) (store : Seen D) (sockets : S) → IsWithoutFault step → StandsAfter happened facts shows step start sockets peers browsers store
      → GoesOn happened facts shows start sockets peers browsers store
  without_fault Step.Nobody peers store sockets sound on = on
  without_fault (Step.Served n) peers store sockets sound on = on
  without_fault (Step.Stepped n) peers store sockets sound on = on
  without_fault (Step.PutOff n) peers store sockets sound on = on
  without_fault (Step.Asked n) peers store sockets sound on = on
  without_fault (Step.StoreFailed n) peers store sockets sound cut = absurd sound

  pub sound_after : (step : Step) (old new : Desk D A) (sockets : S) → IsSoundAfter facts step old new
      → StandsAfter happened facts shows step start sockets (peers_of old) browsers old.judge.store → GoesOn happened facts shows start sockets (peers_of new) browsers new.judge.store
  sound_after Step.Nobody old new sockets same on = same_desk old new sockets same on
  sound_after (Step.Served n) old new sockets same on = same_desk old new sockets same on
  sound_after (Step.Stepped n) old new sockets same on = same_desk old new sockets same on
  sound_after (Step.PutOff n) old new sockets same on = same_desk old new sockets same on
  sound_after (Step.Asked n) old new sockets same on = same_desk old new sockets same on
  sound_after (Step.StoreFailed n) old new sockets is cut =
      subst (λ (peers : PeersNow A). GoesOn happened facts shows start sockets peers browsers new.judge.store) (sym (is.peers cut.3)) (opened_again old new sockets is cut)
