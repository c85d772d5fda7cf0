-- Whether a command of a peer is due, and whether its session has ended, by how the peer stands.
use Rattle.std.proofs.Common.{◌≡◌, ◌⊎◌, inl, inr, ℕ, ◌<◌, ◌==◌, ◌&&◌, arith, nat_le, Bool, true, true≢false, false, if◌then◌else◌, length, List, [], ◌∷◌, ◌++◌, Option, None, Some}
use Rattle.std.proofs.{Common.{is_some, refl, sym, ap, subst, ◌∙◌, append-nil}, lemmas.List.append_cancel_left}
use Rattle.koth_protocol.specs.Commands.{Command, Reader, commands_read, kept_source}
use Rattle.koth_session.specs.{Inbox.{IsReadTo, is_met}, Peer.{HasRead, command_due, is_due, is_due_now, settled}, Peers.{end_in, is_finished_in}}
use Rattle.koth_session.{specs.declared.{end.PeerEnd.PeerEnd, inbox.Inbox.Inbox, peer.Peer.Peer}, proofs.Standing.{behind_met, settles, those_came}}
use Rattle.koth_seats.specs.declared.seats.Seat.{Seat}
use Rattle.koth_service.{specs.{Session.Session, History.{HasAll, HasEnded, HasNothingDue}, Standing.{Stands, StandsAt, over_by}}, proofs.Moments.is_some_byte}

-- ---- truth values and lists

pub both : (a b : Bool) → (a && b) ≡ true → (a ≡ true) × (b ≡ true)
both true true is = (refl, refl)
both true false is = absurd (true≢false (sym is))
both false b is = absurd (true≢false (sym is))

pub false_of : (b : Bool) → (b ≡ true → ⊥) → b ≡ false
false_of true never = absurd (never refl)
false_of false never = refl

pub empty_of : (l : List ℕ) → (length l == 0) ≡ true → l ≡ []
empty_of [] is = refl
empty_of (x ∷ l) is = absurd (true≢false (sym is ∙ is_some_byte x l))

is_nothing : (c : Command) (behind : List Command) → [] ≡ c ∷ behind → ⊥
is_nothing c behind is = absurd (cc)

not_same : (done : List Command) (c : Command) (behind : List Command) → done ≡ done ++ c ∷ behind → ⊥
not_same done c behind is = is_nothing c behind (append_cancel_left done [] (c ∷ behind) (append-nil done ∙ is))

pub some_of : (end : Option PeerEnd) → is_some end ≡ true → (e : PeerEnd) × (end ≡ Some e)
some_of None is = absurd (true≢false (sym is))
some_of (Some e) is = (e, refl)

pub goes_on_still : (end : Option PeerEnd) (met : Bool) → is_due end met ≡ true → end ≡ None
goes_on_still None met is = refl
goes_on_still (Some end) met is = absurd (true≢false (sym is))

pub is_met_then : (end : Option PeerEnd) (met : Bool) → is_due end met ≡ true → met ≡ true
is_met_then None met is = is
is_met_then (Some end) met is = absurd (true≢false (sym is))

module _ {A : Type 0} where
  -- ---- what came

  -- if none was met, all were carried out
  all_done : (reader : Reader) (inbox : Inbox A) (came : List ℕ) (done : List Command) → is_met inbox.due ≡ false → IsReadTo reader inbox came done
      → commands_read reader came ≡ done
  all_done reader inbox came done none r =
      at (nat_le 16777216 inbox.taken) (subst (λ m. HasRead reader (settled None m inbox.taken true) inbox true came done) none (settles reader inbox true came done r))
    where
      at : (many : Bool) → HasRead reader (if many then Some PeerEnd.Limit else (if true then Some PeerEnd.EndOfInput else None)) inbox true came done
          → commands_read reader came ≡ done
      at true read = read.0
      at false read = read.0

  pub goes_on_by : (reader : Reader) (s : Session) (peer : Peer A) → Stands s peer → is_due_now peer ≡ true → IsReadTo reader peer.inbox s.came s.done
  goes_on_by reader s peer stands due =
      let read : HasRead reader None peer.inbox peer.closed s.came s.done =
      subst (λ e. HasRead reader e peer.inbox peer.closed s.came s.done) (goes_on_still peer.end (is_met peer.inbox.due) due) (stands.reads reader).has_read in
      read.0

  pub not_over : (s : Session) (peer : Peer A) → Stands s peer → is_due_now peer ≡ true → s.over ≡ None
  not_over s peer stands due = stands.over ∙ ap over_by (goes_on_still peer.end (is_met peer.inbox.due) due)

  -- ---- a peer that has a command due, and one that has none

  pub due_is_something : (s : Session) (peer : Peer A) → Stands s peer → is_due_now peer ≡ true → HasNothingDue s → ⊥
  due_is_something s peer stands due (inl over) = true≢false (sym over ∙ ap is_some (not_over s peer stands due))
  due_is_something s peer stands due (inr same) =
      let r = goes_on_by Reader.Session s peer stands due in
      let those = those_came Reader.Session peer.inbox s.came s.done r in
      let here = behind_met Reader.Session peer.inbox.due peer.inbox.script.source those.0 (is_met_then peer.end (is_met peer.inbox.due) due) tt in
      not_same s.done (command_due peer.inbox.due (kept_source peer.inbox.script.source)) here.0 (sym same ∙ those.1 ∙ ap (λ l. s.done ++ l) here.1)

  idle_by : (end : Option PeerEnd) (inbox : Inbox A) (closed : Bool) (s : Session) → s.over ≡ over_by end → HasRead Reader.Session end inbox closed s.came s.done
      → is_due end (is_met inbox.due) ≡ false → HasNothingDue s
  idle_by None inbox closed s over read due = inr (all_done Reader.Session inbox s.came s.done due read.0)
  idle_by (Some PeerEnd.Quit) inbox closed s over read due = inl (ap is_some over)
  idle_by (Some PeerEnd.EndOfInput) inbox closed s over read due = inr read.0
  idle_by (Some PeerEnd.Limit) inbox closed s over read due = inr read.0
  idle_by (Some PeerEnd.Unread) inbox closed s over read due = inl (ap is_some over)
  idle_by (Some PeerEnd.StepsSpent) inbox closed s over read due = inl (ap is_some over)
  idle_by (Some PeerEnd.StoreFailed) inbox closed s over read due = inl (ap is_some over)
  idle_by (Some PeerEnd.Memory) inbox closed s over read due = inl (ap is_some over)

  pub idle : (s : Session) (peer : Peer A) → Stands s peer → is_due_now peer ≡ false → HasNothingDue s
  idle s peer stands due = idle_by peer.end peer.inbox peer.closed s stands.over (stands.reads Reader.Session).has_read due

  -- ---- a session that has ended

  ended_by : (end : PeerEnd) (inbox : Inbox A) (closed : Bool) (s : Session) → s.over ≡ over_by (Some end) → s.at_end ≡ closed
      → ((reader : Reader) → HasRead reader (Some end) inbox closed s.came s.done) → HasEnded s
  ended_by PeerEnd.Quit inbox closed s over at_end reads = inl (ap is_some over)
  ended_by PeerEnd.EndOfInput inbox closed s over at_end reads = inr (λ reader. let read = reads reader in read.0, inl (let read = reads Reader.Session in at_end ∙ read.1))
  ended_by PeerEnd.Limit inbox closed s over at_end reads = inr (λ reader. let read = reads reader in read.0, inr (let read = reads Reader.Session in read.1))
  ended_by PeerEnd.Unread inbox closed s over at_end reads = inl (ap is_some over)
  ended_by PeerEnd.StepsSpent inbox closed s over at_end reads = inl (ap is_some over)
  ended_by PeerEnd.StoreFailed inbox closed s over at_end reads = inl (ap is_some over)
  ended_by PeerEnd.Memory inbox closed s over at_end reads = inl (ap is_some over)

  ended_so : (s : Session) (peer : Peer A) (end : PeerEnd) → Stands s peer → peer.end ≡ Some end → HasEnded s
  ended_so s peer end stands is =
      ended_by end peer.inbox peer.closed s (stands.over ∙ ap over_by is) stands.at_end
      (λ reader. subst (λ e. HasRead reader e peer.inbox peer.closed s.came s.done) is (stands.reads reader).has_read)

  pub has_all : (s : Session) (peer : Peer A) → Stands s peer → peer.outbox.unsent ≡ [] → HasAll s
  has_all s peer stands none = sym (append-nil s.went) ∙ ap (λ l. s.went ++ l) (sym none) ∙ stands.owed

  none_unsent : (s : Session) (peer : Peer A) → Stands s peer → HasAll s → peer.outbox.unsent ≡ []
  none_unsent s peer stands all = append_cancel_left s.went peer.outbox.unsent [] (stands.owed ∙ sym all ∙ sym (append-nil s.went))

  -- a session that goes on has not ended
  goes_on_open : (inbox : Inbox A) (closed : Bool) (s : Session) → s.at_end ≡ closed → ((reader : Reader) → HasRead reader None inbox closed s.came s.done)
      → (is_met inbox.due ≡ true → ⊥) → (s.at_end ≡ true) ⊎ (length s.came ≡ 16777216) → ⊥
  goes_on_open inbox closed s at_end reads none (inl is) =
      let read = reads Reader.Session in
      let more = read.1 (false_of (is_met inbox.due) none) in
      true≢false (sym is ∙ at_end ∙ more.0)
  goes_on_open inbox closed s at_end reads none (inr is) =
      let read = reads Reader.Session in
      let more = read.1 (false_of (is_met inbox.due) none) in
      let few : length s.came < 16777216 = more.1 in
      omega (arith, few, is)

  ends_in : (end : Option PeerEnd) (s : Session) (peer : Peer A) → peer.end ≡ end → Stands s peer → HasEnded s → is_some end ≡ true
  ends_in (Some end) s peer is stands ended = refl
  ends_in None s peer is stands (inl over) = absurd (true≢false (sym over ∙ ap is_some (stands.over ∙ ap over_by is)))
  ends_in None s peer is stands (inr through) =
      absurd (goes_on_open peer.inbox peer.closed s stands.at_end (λ reader. subst (λ e. HasRead reader e peer.inbox peer.closed s.came s.done) is (stands.reads reader).has_read)
      (λ met. due_is_something s peer stands (ap (λ e. is_due e (is_met peer.inbox.due)) is ∙ met) (inr (through.0 Reader.Session))) through.1)

  -- ---- a peer to which nothing more is to be sent

  pub finished : (s : Session) (peer : Peer A) → Stands s peer → is_finished_in (Some peer) ≡ true → HasEnded s × HasAll s
  finished s peer stands is =
      let parts = both (is_some peer.end) (length peer.outbox.unsent == 0) is in
      let end = some_of peer.end parts.0 in
      (ended_so s peer end.0 stands end.1, has_all s peer stands (empty_of peer.outbox.unsent parts.1))

  pub not_finished : (s : Session) (peer : Peer A) → Stands s peer → HasEnded s → HasAll s → is_finished_in (Some peer) ≡ true
  not_finished s peer stands ended all =
      rw (ends_in peer.end s peer refl stands ended, none_unsent s peer stands all) refl

  pub finished_at : (s : Session) (slot : Option (Peer A)) (seat : Option Seat) → StandsAt s slot seat → is_some (end_in slot) ≡ true → is_finished_in slot ≡ true
      → HasEnded s × HasAll s
  finished_at s None seat stands is done = absurd (true≢false (sym is))
  finished_at s (Some peer) None stands is done = absurd stands
  finished_at s (Some peer) (Some seat) stands is done = finished s peer stands.0 done
