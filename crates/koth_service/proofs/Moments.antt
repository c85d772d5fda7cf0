-- How the peers stand at a moment, for each happening.
use Rattle.std.proofs.Common.{◌≡◌, ◌≢◌, inl, inr, ℕ, ◌≤◌, ◌==◌, ◌||◌, Bool, true, true≢false, false, not, arith, nat_le, if◌then◌else◌, length, List, [], ◌∷◌, ◌++◌, take}
use Rattle.std.proofs.Common.{drop, Option, None, Some, refl, sym, ap, subst, ◌∙◌, append_assoc, take-append-drop}
use Rattle.{std.proofs.{lemmas.Bool.cases_eq, lemmas.Bool.Decides.eqb_tells}, std.specs.Prelude.IsSome, koth_protocol.specs.Commands.{Command, Reader}}
use Rattle.koth_session.specs.Peer.{Closes, IsNew, IsPeer, Sends, Takes, settled}
use Rattle.koth_session.specs.{Inbox.is_met, Peers.{Moves, MovesAt, OnlyAt, Slots, peer_at, unsent_at, unsent_in}, declared.end.PeerEnd.PeerEnd, declared.peer.Peer.Peer}
use Rattle.koth_seats.specs.{Seats.{OnlySeat, SeatMoves, Seats, has_line, has_some, seat_at, seat_drained, seat_heard, seat_map, seat_new, seat_told}, declared.seats.{Draining.Draining, Seat.Seat}}
use Rattle.koth_service.specs.{Moment.instead, History.Begins}
use Rattle.std.specs.declared.net.socket_addr.SocketAddr.{SocketAddr}
use Rattle.koth_service.specs.Session.{Session, session_anew, session_at_end, session_came, session_lost, session_shut, session_went}
use Rattle.koth_service.specs.Standing.{AreStanding, StandsAt, over_by}

not_equal : (a b : ℕ) → a ≢ b → (a == b) ≡ false
not_equal a b other = elim (eqb_tells a b) [ inl same ↦ absurd (other same.1) | inr differ ↦ differ.0 ]

equal : (a : ℕ) → (a == a) ≡ true
equal a = elim (eqb_tells a a) [ inl same ↦ same.0 | inr differ ↦ absurd (differ.1 refl) ]

pub instead_same : {T : Type 0} (f : ℕ → T) (n : ℕ) (value : T) → instead f n value n ≡ value
instead_same f n value = rw (equal n) refl

pub instead_other : {T : Type 0} (f : ℕ → T) (n : ℕ) (value : T) (p : ℕ) → p ≢ n → instead f n value p ≡ f p
instead_other f n value p other = rw (not_equal p n other) refl

pub is_some_byte : (x : ℕ) (l : List ℕ) → (length (x ∷ l) == 0) ≡ false
is_some_byte x l = elim (eqb_tells (length (x ∷ l)) 0) [ inl same ↦ absurd (let none = same.1 in omega (arith, none)) | inr differ ↦ differ.0 ]

some_append : (a b : List ℕ) → has_some (a ++ b) ≡ (has_some a || has_some b)
some_append [] b = refl
some_append (x ∷ a) b = ap not (is_some_byte x (a ++ b)) ∙ sym (ap (λ t. not t || has_some b) (is_some_byte x a))

-- how a session stands says nothing new of how a command ended it
pub over_settled : (end : Option PeerEnd) (met : Bool) (taken : ℕ) (closed : Bool) → over_by (settled end met taken closed) ≡ over_by end
over_settled (Some end) met taken closed = refl
over_settled None true taken closed = refl
over_settled None false taken closed = at (nat_le 16777216 taken) closed
  where
    at : (many none_more : Bool) → over_by (if many then Some PeerEnd.Limit else (if none_more then Some PeerEnd.EndOfInput else None)) ≡ None
    at true none_more = refl
    at false true = refl
    at false false = refl

pub only_slots : {A : Type 0} (slots : Slots A) (n : ℕ) → OnlyAt n slots slots
only_slots slots n = record { size = refl; others = λ p other. refl }

pub only_seats : (seats : Seats) (n : ℕ) → OnlySeat n seats seats
only_seats seats n = record { size = refl; others = λ p other. refl }

module _ {A : Type 0} where
  -- ---- one peer moves

  pub at_both : (s : Session) (new slot : Option (Peer A)) (now seat : Option Seat) → new ≡ slot → now ≡ seat → StandsAt s slot seat → StandsAt s new now
  at_both s new slot now seat is same stands = subst (λ x. StandsAt s x now) (sym is) (subst (λ y. StandsAt s slot y) (sym same) stands)

  -- and its part of the moment is another
  pub standing_with : (sessions : ℕ → Session) (n : ℕ) (session : Session) (old new : Slots A) (seats now : Seats) → OnlyAt n old new → OnlySeat n seats now
      → StandsAt session (peer_at new n) (seat_at now n) → AreStanding sessions old seats → AreStanding (instead sessions n session) new now
  standing_with sessions n session old new seats now only places at standing = λ p.
      elim (cases_eq p n) [
        | inl here ↦ subst (λ q. StandsAt (instead sessions n session q) (peer_at new q) (seat_at now q)) (sym here)
            (subst (λ (s : Session). StandsAt s (peer_at new n) (seat_at now n)) (sym (instead_same sessions n session)) at)
        | inr other ↦ subst (λ (s : Session). StandsAt s (peer_at new p) (seat_at now p)) (sym (instead_other sessions n session p other))
            (at_both (sessions p) (peer_at new p) (peer_at old p) (seat_at now p) (seat_at seats p) (only.others p other) (places.others p other) (standing p))
      ]

  -- and its part is as it was
  pub standing_moved : (sessions : ℕ → Session) (n : ℕ) (slots : Slots A) (seats now : Seats) → OnlySeat n seats now → StandsAt (sessions n) (peer_at slots n) (seat_at now n)
      → AreStanding sessions slots seats → AreStanding sessions slots now
  standing_moved sessions n slots seats now places at standing = λ p.
      elim (cases_eq p n) [
        | inl here ↦ subst (λ q. StandsAt (sessions q) (peer_at slots q) (seat_at now q)) (sym here) at
        | inr other ↦ subst (λ seat. StandsAt (sessions p) (peer_at slots p) seat) (sym (places.others p other)) (standing p)
      ]

  -- ---- bytes came

  came_at : (bytes : List ℕ) (time : ℕ) (s : Session) (old new : Option (Peer A)) (seat now : Option Seat) → Moves (λ p q. Takes p bytes q) old new
      → now ≡ seat_map (seat_heard bytes time) seat → StandsAt s old seat → StandsAt (session_came bytes time s) new now
  came_at bytes time s None new None now moves is stands = at_both (session_came bytes time s) new None now None moves is stands
  came_at bytes time s None new (Some seat) now moves is stands = absurd stands
  came_at bytes time s (Some peer) new None now moves is stands = absurd stands
  came_at bytes time s (Some peer) new (Some seat) now moves is stands =
      let takes = moves.2 in
      let of = stands.1 in
      let was = stands.0 in
      at_both (session_came bytes time s) new (Some moves.0) now (Some (seat_heard bytes time seat)) moves.1 is (
        record {
          reads = λ reader. takes.reads reader s.came s.done (was.reads reader);
          owed = ap (λ l. s.went ++ l) takes.unsent ∙ was.owed;
          there = was.there;
          over = was.over ∙ sym (over_settled peer.end (is_met moves.0.inbox.due) moves.0.inbox.taken moves.0.closed) ∙ ap over_by (sym takes.end);
          waits = was.waits ∙ sym takes.waits;
          at_end = was.at_end ∙ sym takes.closed;
        },
        record {
          active = refl;
          useful = ap (λ u. if has_line bytes then time else u) of.useful;
          spoken = ap (λ b. b || has_some bytes) of.spoken ∙ sym (some_append s.came bytes);
          shut = of.shut;
        },
      )

  pub standing_came : (sessions : ℕ → Session) (n : ℕ) (bytes : List ℕ) (time : ℕ) (old new : Slots A) (seats now : Seats) → MovesAt (λ p q. Takes p bytes q) n old new
      → SeatMoves (seat_heard bytes time) n seats now → AreStanding sessions old seats
      → AreStanding (instead sessions n (session_came bytes time (sessions n))) new now
  standing_came sessions n bytes time old new seats now moves hears standing =
      standing_with sessions n (session_came bytes time (sessions n)) old new seats now moves.only hears.only
      (came_at bytes time (sessions n) (peer_at old n) (peer_at new n) (seat_at seats n) (seat_at now n) moves.at hears.at (standing n)) standing

  -- ---- no more come

  closes_at : (s : Session) (old new : Option (Peer A)) (seat : Option Seat) → Moves Closes old new → StandsAt s old seat → StandsAt (session_at_end s) new seat
  closes_at s None new None moves stands = at_both (session_at_end s) new None None None moves refl stands
  closes_at s None new (Some seat) moves stands = absurd stands
  closes_at s (Some peer) new None moves stands = absurd stands
  closes_at s (Some peer) new (Some seat) moves stands =
      let closes = moves.2 in
      let of = stands.1 in
      let was = stands.0 in
      at_both (session_at_end s) new (Some moves.0) (Some seat) (Some seat) moves.1 refl (
        record {
          reads = λ reader. closes.reads reader s.came s.done (was.reads reader);
          owed = ap (λ l. s.went ++ l) closes.unsent ∙ was.owed;
          there = was.there;
          over = was.over ∙ sym (over_settled peer.end (is_met moves.0.inbox.due) moves.0.inbox.taken moves.0.closed) ∙ ap over_by (sym closes.end);
          waits = was.waits ∙ sym closes.waits;
          at_end = sym closes.closed;
        },
        record { active = of.active; useful = of.useful; spoken = of.spoken; shut = of.shut },
      )

  pub standing_closed : (sessions : ℕ → Session) (n : ℕ) (old new : Slots A) (seats : Seats) → MovesAt Closes n old new → AreStanding sessions old seats
      → AreStanding (instead sessions n (session_at_end (sessions n))) new seats
  standing_closed sessions n old new seats moves standing =
      standing_with sessions n (session_at_end (sessions n)) old new seats seats moves.only (only_seats seats n)
      (closes_at (sessions n) (peer_at old n) (peer_at new n) (seat_at seats n) moves.at (standing n)) standing

  -- ---- answers went out

  -- what went out of its answers changes nothing of what a session read
  pub same_peer : (old new : Peer A) (count : ℕ) (came : List ℕ) (done : List Command) → Sends old count new → (reader : Reader) → IsPeer reader old came done → IsPeer reader new came done
  same_peer old new count came done sends reader is = record { has_read = rw (sends.end, sends.inbox, sends.closed) is.has_read; few = is.few }

  went_at : (count time : ℕ) (s : Session) (old new : Option (Peer A)) (seat now : Option Seat) → Moves (λ p q. Sends p count q) old new
      → now ≡ seat_map (seat_told time) seat → StandsAt s old seat → StandsAt (session_went (take count (unsent_in old)) time s) new now
  went_at count time s None new None now moves is stands = at_both (session_went (take count []) time s) new None now None moves is stands
  went_at count time s None new (Some seat) now moves is stands = absurd stands
  went_at count time s (Some peer) new None now moves is stands = absurd stands
  went_at count time s (Some peer) new (Some seat) now moves is stands =
      let sends = moves.2 in
      let of = stands.1 in
      let was = stands.0 in
      let unsent = peer.outbox.unsent in
      let more = s.went ++ take count unsent in
      let all : more ++ moves.0.outbox.unsent ≡ s.owed =
      ap (λ l. more ++ l) sends.unsent ∙ append_assoc s.went (take count unsent) (drop count unsent)
      ∙ ap (λ l. s.went ++ l) (take-append-drop count unsent) ∙ was.owed in
      at_both (session_went (take count unsent) time s) new (Some moves.0) now (Some (seat_told time seat)) moves.1 is (
        record {
          reads = λ reader. same_peer peer moves.0 count s.came s.done sends reader (was.reads reader);
          owed = all;
          there = was.there;
          over = was.over ∙ ap over_by (sym sends.end);
          waits = was.waits ∙ sym sends.waits;
          at_end = was.at_end ∙ sym sends.closed;
        },
        record { active = refl; useful = of.useful; spoken = of.spoken; shut = of.shut },
      )

  pub standing_went : (sessions : ℕ → Session) (n count time : ℕ) (old new : Slots A) (seats now : Seats) → MovesAt (λ p q. Sends p count q) n old new
      → SeatMoves (seat_told time) n seats now → AreStanding sessions old seats
      → AreStanding (instead sessions n (session_went (take count (unsent_at old n)) time (sessions n))) new now
  standing_went sessions n count time old new seats now moves tells standing =
      standing_with sessions n (session_went (take count (unsent_at old n)) time (sessions n)) old new seats now moves.only tells.only
      (went_at count time (sessions n) (peer_at old n) (peer_at new n) (seat_at seats n) (seat_at now n) moves.at tells.at (standing n)) standing

  -- what goes out to a peer that is there is the next of what it is owed
  owed_next : (count : ℕ) (s : Session) (slot : Option (Peer A)) (seat : Option Seat) → slot ≢ None → StandsAt s slot seat → Begins (s.went ++ take count (unsent_in slot)) s.owed
  owed_next count s None seat there stands = absurd (there refl)
  owed_next count s (Some peer) None there stands = absurd stands
  owed_next count s (Some peer) (Some seat) there stands =
      let unsent = peer.outbox.unsent in (
        drop count unsent,
        sym stands.0.owed ∙ ap (λ l. s.went ++ l) (sym (take-append-drop count unsent)) ∙ sym (append_assoc s.went (take count unsent) (drop count unsent)),
      )

  pub owed_to : (sessions : ℕ → Session) (n count : ℕ) (slots : Slots A) (seats : Seats) → unsent_at slots n ≢ [] → AreStanding sessions slots seats
      → Begins ((sessions n).went ++ take count (unsent_at slots n)) (sessions n).owed
  owed_to sessions n count slots seats some standing = owed_next count (sessions n) (peer_at slots n) (seat_at seats n) (λ none. some (ap unsent_in none)) (standing n)

  -- ---- a peer comes, is gone, is shut, and leaves

  pub standing_new : (sessions : ℕ → Session) (n time : ℕ) (peer : Peer A) (address : SocketAddr) (old new : Slots A) (seats now : Seats) → OnlyAt n old new
      → OnlySeat n seats now → peer_at new n ≡ Some peer → seat_at now n ≡ Some (seat_new address time) → IsNew peer
      → AreStanding sessions old seats → AreStanding (instead sessions n (session_anew true time)) new now
  standing_new sessions n time peer address old new seats now only places there sits fresh standing =
      standing_with sessions n (session_anew true time) old new seats now only places
      (at_both (session_anew true time) (peer_at new n) (Some peer) (seat_at now n) (Some (seat_new address time)) there sits (
        record { reads = fresh.begins; owed = fresh.unsent; there = refl; over = ap over_by (sym fresh.goes_on); waits = sym fresh.waits; at_end = sym fresh.open_still },
        record { active = refl; useful = refl; spoken = refl; shut = λ is. absurd (true≢false (sym is)) },
      )) standing

  lost_in : (s : Session) (slot : Option (Peer A)) (seat : Option Seat) → StandsAt s slot seat → StandsAt (session_lost s) slot seat
  lost_in s None None stands = stands
  lost_in s None (Some seat) stands = absurd stands
  lost_in s (Some peer) None stands = absurd stands
  lost_in s (Some peer) (Some seat) stands =
      let was = stands.0 in
      let of = stands.1 in (
        record { reads = was.reads; owed = was.owed; there = was.there; over = was.over; waits = was.waits; at_end = was.at_end },
        record { active = of.active; useful = of.useful; spoken = of.spoken; shut = of.shut },
      )

  pub standing_lost : (sessions : ℕ → Session) (n : ℕ) (slots : Slots A) (seats : Seats) → AreStanding sessions slots seats
      → AreStanding (instead sessions n (session_lost (sessions n))) slots seats
  standing_lost sessions n slots seats standing =
      standing_with sessions n (session_lost (sessions n)) slots slots seats seats (only_slots slots n) (only_seats seats n)
      (lost_in (sessions n) (peer_at slots n) (seat_at seats n) (standing n)) standing

  shut_in : (s : Session) (draining : Draining) (slot : Option (Peer A)) (seat now : Option Seat) → now ≡ seat_map (seat_drained draining) seat → StandsAt s slot seat
      → StandsAt (session_shut s) slot now
  shut_in s draining None None now is stands = at_both (session_shut s) None None now None refl is stands
  shut_in s draining None (Some seat) now is stands = absurd stands
  shut_in s draining (Some peer) None now is stands = absurd stands
  shut_in s draining (Some peer) (Some seat) now is stands =
      let was = stands.0 in
      let of = stands.1 in
      at_both (session_shut s) (Some peer) (Some peer) now (Some (seat_drained draining seat)) refl is (
        record { reads = was.reads; owed = was.owed; there = was.there; over = was.over; waits = was.waits; at_end = was.at_end },
        record { active = of.active; useful = of.useful; spoken = of.spoken; shut = λ is. refl },
      )

  pub standing_shut : (sessions : ℕ → Session) (n : ℕ) (draining : Draining) (slots : Slots A) (seats now : Seats) → SeatMoves (seat_drained draining) n seats now
      → AreStanding sessions slots seats → AreStanding (instead sessions n (session_shut (sessions n))) slots now
  standing_shut sessions n draining slots seats now drains standing =
      standing_with sessions n (session_shut (sessions n)) slots slots seats now (only_slots slots n) drains.only
      (shut_in (sessions n) draining (peer_at slots n) (seat_at seats n) (seat_at now n) drains.at (standing n)) standing

  -- more of a peer that was shut was thrown away
  drained_in : (s : Session) (draining : Draining) (slot : Option (Peer A)) (seat now : Option Seat) → ((was : Seat) → seat ≡ Some was → IsSome was.draining)
      → now ≡ seat_map (seat_drained draining) seat → StandsAt s slot seat → StandsAt s slot now
  drained_in s draining None None now before is stands = at_both s None None now None refl is stands
  drained_in s draining None (Some seat) now before is stands = absurd stands
  drained_in s draining (Some peer) None now before is stands = absurd stands
  drained_in s draining (Some peer) (Some seat) now before is stands =
      let of = stands.1 in
      at_both s (Some peer) (Some peer) now (Some (seat_drained draining seat)) refl is
      (stands.0, record { active = of.active; useful = of.useful; spoken = of.spoken; shut = λ again. of.shut (before seat refl) })

  pub standing_drained : (sessions : ℕ → Session) (n : ℕ) (draining : Draining) (slots : Slots A) (seats now : Seats)
      → ((was : Seat) → seat_at seats n ≡ Some was → IsSome was.draining) → SeatMoves (seat_drained draining) n seats now
      → AreStanding sessions slots seats → AreStanding sessions slots now
  standing_drained sessions n draining slots seats now before drains standing =
      standing_moved sessions n slots seats now drains.only
      (drained_in (sessions n) draining (peer_at slots n) (seat_at seats n) (seat_at now n) before drains.at (standing n)) standing

  pub standing_left : (sessions : ℕ → Session) (n time : ℕ) (old new : Slots A) (seats now : Seats) → OnlyAt n old new → OnlySeat n seats now → peer_at new n ≡ None
      → seat_at now n ≡ None → AreStanding sessions old seats → AreStanding (instead sessions n (session_anew false time)) new now
  standing_left sessions n time old new seats now only places free empty standing =
      standing_with sessions n (session_anew false time) old new seats now only places
      (at_both (session_anew false time) (peer_at new n) None (seat_at now n) None free empty refl) standing

  -- ---- a number that is free, and a peer that is there

  free_in : (s : Session) (slot : Option (Peer A)) (seat : Option Seat) → slot ≡ None → StandsAt s slot seat → s.there ≡ false
  free_in s None None free stands = stands
  free_in s None (Some seat) free stands = absurd stands
  free_in s (Some peer) seat free stands = absurd (cc)

  pub free_at : (sessions : ℕ → Session) (n : ℕ) (slots : Slots A) (seats : Seats) → peer_at slots n ≡ None → AreStanding sessions slots seats → (sessions n).there ≡ false
  free_at sessions n slots seats free standing = free_in (sessions n) (peer_at slots n) (seat_at seats n) free (standing n)

  there_in : (s : Session) (slot : Option (Peer A)) (seat : Option Seat) → slot ≢ None → StandsAt s slot seat → s.there ≡ true
  there_in s None seat there stands = absurd (there refl)
  there_in s (Some peer) None there stands = absurd stands
  there_in s (Some peer) (Some seat) there stands = stands.0.there

  pub there_at : (sessions : ℕ → Session) (n : ℕ) (slots : Slots A) (seats : Seats) → peer_at slots n ≢ None → AreStanding sessions slots seats → (sessions n).there ≡ true
  there_at sessions n slots seats there standing = there_in (sessions n) (peer_at slots n) (seat_at seats n) there (standing n)

  few_in : (s : Session) (bytes : List ℕ) (old new : Option (Peer A)) (seat : Option Seat) → old ≢ None → Moves (λ p q. Takes p bytes q) old new → StandsAt s old seat
      → length (s.came ++ bytes) ≤ 16777216
  few_in s bytes None new seat there moves stands = absurd (there refl)
  few_in s bytes (Some peer) new None there moves stands = absurd stands
  few_in s bytes (Some peer) new (Some seat) there moves stands = let after = moves.2.reads Reader.Service s.came s.done (stands.0.reads Reader.Service) in after.few

  -- no more bytes came from it than may
  pub few_from : (sessions : ℕ → Session) (n : ℕ) (bytes : List ℕ) (old new : Slots A) (seats : Seats) → peer_at old n ≢ None → MovesAt (λ p q. Takes p bytes q) n old new
      → AreStanding sessions old seats → length ((sessions n).came ++ bytes) ≤ 16777216
  few_from sessions n bytes old new seats there moves standing =
      few_in (sessions n) bytes (peer_at old n) (peer_at new n) (seat_at seats n) there moves.at (standing n)
