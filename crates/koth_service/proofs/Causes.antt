-- Why a peer is disconnected, by how the peers and their seats stand.
use Rattle.std.proofs.Common.{◌≡◌, inl, inr, ℕ, ◌==◌, true, true≢false, false, not, length, List, [], ◌∷◌, ◌++◌, Option, None, Some, is_some, refl, sym, ap, subst, ◌∙◌, append_assoc}
use Rattle.std.proofs.Common.{append-nil}
use Rattle.koth_protocol.specs.{Commands.{Command, Reader, commands_read}, Reading.commands_met, declared.script.Met.Met}
use Rattle.koth_session.specs.{Inbox.{IsReadTo, is_request}, Peer.{HasRead, is_due_now}, Peers.{asks_in, end_in, is_due_in, is_finished_in}}
use Rattle.koth_session.{specs.declared.{end.PeerEnd.PeerEnd, inbox.Inbox.Inbox, peer.Peer.Peer}, proofs.Standing.those_came}
use Rattle.koth_seats.specs.{Seats.{IsPatienceOver, IsUnused, has_some}, declared.{seats.Seat.Seat, times.TheConstants.{UNSPOKEN, UNUSED}}}
use Rattle.koth_service.specs.{Session.Session, Moment.Moment, History.{AsksForPage, Begins, IsCause, IsSilent, MayBeDisplaced, MayDisconnect}}
use Rattle.koth_service.{specs.{Standing.{AwaitedIn, Stands, StandsAt, over_by}, declared.host.HowEnded.HowEnded}, proofs.Moments.is_some_byte}
use Rattle.koth_service.proofs.Due.{both, due_is_something, empty_of, false_of, finished, goes_on_by, has_all, idle, not_finished}

-- ---- truth values and lists

pub none_came : (l : List ℕ) → has_some l ≡ false → l ≡ []
none_came [] is = refl
none_came (x ∷ l) is = absurd (true≢false (sym (ap not (is_some_byte x l)) ∙ is))

request_is : (m : Met) → is_request m ≡ true → m ≡ Met.Request
request_is Met.Nothing is = absurd (true≢false (sym is))
request_is Met.Submit is = absurd (true≢false (sym is))
request_is Met.Show is = absurd (true≢false (sym is))
request_is Met.Quit is = absurd (true≢false (sym is))
request_is Met.Request is = refl
request_is Met.Bad is = absurd (true≢false (sym is))

module _ {A : Type 0} where
  -- ---- the causes

  cause_by : {D : Type 0} (most n : ℕ) (end : PeerEnd) (m : Moment D) (peer : Peer A) → Stands (m.sessions n) peer → peer.end ≡ Some end → peer.outbox.unsent ≡ []
      → IsCause most n (HowEnded.By end) m
  cause_by most n PeerEnd.Quit m peer stands is none = (stands.over ∙ ap over_by is, has_all (m.sessions n) peer stands none)
  cause_by most n PeerEnd.EndOfInput m peer stands is none =
      let s = m.sessions n in
      let read : (reader : Reader) → HasRead reader (Some PeerEnd.EndOfInput) peer.inbox peer.closed s.came s.done =
      λ reader. subst (λ e. HasRead reader e peer.inbox peer.closed s.came s.done) is (stands.reads reader).has_read in (
        let one = read Reader.Session in stands.at_end ∙ one.1,
        λ reader. let one = read reader in one.0,
        has_all s peer stands none,
      )
  cause_by most n PeerEnd.Limit m peer stands is none =
      let s = m.sessions n in
      let read : (reader : Reader) → HasRead reader (Some PeerEnd.Limit) peer.inbox peer.closed s.came s.done =
      λ reader. subst (λ e. HasRead reader e peer.inbox peer.closed s.came s.done) is (stands.reads reader).has_read in (
        let one = read Reader.Session in one.1,
        λ reader. let one = read reader in one.0,
        has_all s peer stands none,
      )
  cause_by most n PeerEnd.Unread m peer stands is none = stands.over ∙ ap over_by is
  cause_by most n PeerEnd.StepsSpent m peer stands is none = (stands.over ∙ ap over_by is, has_all (m.sessions n) peer stands none)
  cause_by most n PeerEnd.StoreFailed m peer stands is none = (stands.over ∙ ap over_by is, has_all (m.sessions n) peer stands none)
  cause_by most n PeerEnd.Memory m peer stands is none = (stands.over ∙ ap over_by is, has_all (m.sessions n) peer stands none)

  pub by_end : {D : Type 0} (most n : ℕ) (end : PeerEnd) (m : Moment D) (slot : Option (Peer A)) (seat : Option Seat) → StandsAt (m.sessions n) slot seat → end_in slot ≡ Some end
      → is_finished_in slot ≡ true → MayDisconnect most n (HowEnded.By end) m
  by_end most n end m None seat stands is done = absurd (cc)
  by_end most n end m (Some peer) None stands is done = absurd stands
  by_end most n end m (Some peer) (Some seat) stands is done =
      let parts = both (is_some peer.end) (length peer.outbox.unsent == 0) done in
      (stands.0.there, cause_by most n end m peer stands.0 is (empty_of peer.outbox.unsent parts.1))

  pub by_unread : {D : Type 0} (most n : ℕ) (m : Moment D) (slot : Option (Peer A)) (seat : Option Seat) → StandsAt (m.sessions n) slot seat → end_in slot ≡ Some PeerEnd.Unread
      → MayDisconnect most n (HowEnded.By PeerEnd.Unread) m
  by_unread most n m None seat stands is = absurd (cc)
  by_unread most n m (Some peer) None stands is = absurd stands
  by_unread most n m (Some peer) (Some seat) stands is = let was = stands.0 in (was.there, was.over ∙ ap over_by is)

  pub silent : {D : Type 0} (n read_at : ℕ) (m : Moment D) (slot : Option (Peer A)) (seat : Seat) → StandsAt (m.sessions n) slot (Some seat) → is_due_in slot ≡ false
      → m.round.read_at ≡ read_at → IsPatienceOver read_at seat.active → IsSilent n m
  silent n read_at m None seat stands due at long = absurd stands
  silent n read_at m (Some peer) seat stands due at long = record {
    there = stands.0.there;
    idle = idle (m.sessions n) peer stands.0 due;
    long = subst (λ r. IsPatienceOver r (m.sessions n).active) (sym at) (subst (λ a. IsPatienceOver read_at a) (sym stands.1.active) long);
  }

  -- ---- nobody is silent at a wait

  pub not_silent : {D : Type 0} (n read_at : ℕ) (m : Moment D) (slot : Option (Peer A)) (seat : Option Seat) → StandsAt (m.sessions n) slot seat → m.round.read_at ≡ read_at
      → AwaitedIn read_at slot seat → (m.sessions n).shut ≡ false → IsSilent n m → ⊥
  not_silent n read_at m None None stands at awaited shut is = true≢false (sym is.there ∙ stands)
  not_silent n read_at m None (Some seat) stands at awaited shut is = absurd stands
  not_silent n read_at m (Some peer) None stands at awaited shut is = absurd stands
  not_silent n read_at m (Some peer) (Some seat) stands at (inl due) shut is = due_is_something (m.sessions n) peer stands.0 due is.idle
  not_silent n read_at m (Some peer) (Some seat) stands at (inr (inl draining)) shut is = true≢false (sym (stands.1.shut draining) ∙ shut)
  not_silent n read_at m (Some peer) (Some seat) stands at (inr (inr never)) shut is =
      never (subst (λ a. IsPatienceOver read_at a) stands.1.active (subst (λ r. IsPatienceOver r (m.sessions n).active) at is.long))

  -- ---- a browser's request

  asked_service : (s : Session) (inbox : Inbox A) (m : Met) → m ≡ Met.Request → inbox.due ≡ m → IsReadTo Reader.Service inbox s.came s.done → commands_read Reader.Service s.came ≡ s.done
  asked_service s inbox m is same r =
      let those = those_came Reader.Service inbox s.came s.done r in
      those.1 ∙ ap (λ k. s.done ++ commands_met Reader.Service k inbox.script.source those.0) (same ∙ is) ∙ append-nil s.done

  asked_session : (s : Session) (inbox : Inbox A) (m : Met) → m ≡ Met.Request → inbox.due ≡ m → IsReadTo Reader.Session inbox s.came s.done
      → Begins (s.done ++ Command.Bad ∷ []) (commands_read Reader.Session s.came)
  asked_session s inbox m is same r =
      let those = those_came Reader.Session inbox s.came s.done r in (
        those.0,
        those.1 ∙ ap (λ k. s.done ++ commands_met Reader.Session k inbox.script.source those.0) (same ∙ is) ∙ sym (append_assoc s.done (Command.Bad ∷ []) those.0),
      )

  pub asks : {D : Type 0} (n : ℕ) (m : Moment D) (slot : Option (Peer A)) (seat : Option Seat) → StandsAt (m.sessions n) slot seat → is_due_in slot ≡ true → asks_in slot ≡ true
      → ((m.sessions n).there ≡ true) × AsksForPage (m.sessions n)
  asks n m None seat stands due is = absurd (true≢false (sym due))
  asks n m (Some peer) None stands due is = absurd stands
  asks n m (Some peer) (Some seat) stands due is =
      let s = m.sessions n in (
        stands.0.there,
        (
          asked_service s peer.inbox peer.inbox.due (request_is peer.inbox.due is) refl (goes_on_by Reader.Service s peer stands.0 due),
          asked_session s peer.inbox peer.inbox.due (request_is peer.inbox.due is) refl (goes_on_by Reader.Session s peer stands.0 due),
        ),
      )

  -- ---- a peer that may be disconnected for another

  pub may_leave : {D : Type 0} (n clock : ℕ) (m : Moment D) (slot : Option (Peer A)) (seat : Seat) → StandsAt (m.sessions n) slot (Some seat) → m.round.clock ≡ clock
      → is_due_in slot ≡ false → is_finished_in slot ≡ false → IsUnused UNSPOKEN UNUSED clock seat.has_spoken seat.useful → MayBeDisplaced m n
  may_leave n clock m None seat stands at due more unused = absurd stands
  may_leave n clock m (Some peer) seat stands at due more unused =
      let s = m.sessions n in
      let of = stands.1 in
      let now : IsUnused UNSPOKEN UNUSED m.round.clock (has_some s.came) s.useful =
      subst (λ c. IsUnused UNSPOKEN UNUSED c (has_some s.came) s.useful) (sym at)
      (subst (λ b. IsUnused UNSPOKEN UNUSED clock b s.useful) of.spoken (subst (λ u. IsUnused UNSPOKEN UNUSED clock seat.has_spoken u) (sym of.useful) unused)) in record {
        there = stands.0.there;
        idle = idle s peer stands.0 due;
        goes_on = λ is. true≢false (sym (not_finished s peer stands.0 is.0 is.1) ∙ more);
        long = elim now [ inl mute ↦ inl (none_came s.came mute.0, mute.1) | inr long ↦ inr long ];
      }

  pub may_be : {D : Type 0} (n clock : ℕ) (m : Moment D) (slot : Option (Peer A)) (seat : Seat) → StandsAt (m.sessions n) slot (Some seat) → m.round.clock ≡ clock
      → MayBeDisplaced m n → IsUnused UNSPOKEN UNUSED clock seat.has_spoken seat.useful × (is_due_in slot ≡ false) × (is_finished_in slot ≡ false)
  may_be n clock m None seat stands at may = absurd stands
  may_be n clock m (Some peer) seat stands at may =
      let s = m.sessions n in
      let of = stands.1 in
      let now : IsUnused UNSPOKEN UNUSED m.round.clock (has_some s.came) s.useful = elim may.long [ inl mute ↦ inl (ap has_some mute.0, mute.1) | inr long ↦ inr long ] in (
        subst (λ u. IsUnused UNSPOKEN UNUSED clock seat.has_spoken u) of.useful
            (subst (λ b. IsUnused UNSPOKEN UNUSED clock b s.useful) (sym of.spoken) (subst (λ c. IsUnused UNSPOKEN UNUSED c (has_some s.came) s.useful) at now)),
        false_of (is_due_now peer) (λ due. due_is_something s peer stands.0 due may.idle),
        false_of (is_finished_in (Some peer)) (λ is. may.goes_on (finished s peer stands.0 is)),
      )
