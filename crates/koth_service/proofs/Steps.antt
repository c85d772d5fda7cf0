-- How a history goes on by what happens on the sockets.
use Rattle.std.proofs.Common.{◌≡◌, ◌≢◌, ◌∙◌, ◌==◌, ℕ, ◌+◌, ◌<◌, ◌≤◌, Bool, true, true≢false, false, ap, arith, length, max, List, [], ◌∷◌, take, Option, None, Some, IsSome, is_some, Ok, Err}
use Rattle.std.{proofs.Common.{refl, sym, subst}, specs.declared.net.socket_addr.SocketAddr.SocketAddr}
use Rattle.sector_disk.specs.Facts.{DeviceFacts}
use Rattle.hill_store.specs.Seen.{Seen}
use Rattle.koth_session.{specs.{Judge.{Fight, without}, Peer.{Closes, Sends, Takes}}, proofs.Fights.{closes_still, of_moved, of_new, of_others, sends_still}}
use Rattle.koth_session.specs.Peers.{Connects, IsOfOne, MovesAt, OnlyAt, Slots, end_in, is_finished_in, may_come_at, may_come_in, peer_at, unsent_at, unsent_in}
use Rattle.koth_session.specs.declared.{peers.NotConnected.NotConnected, turns.Turn.Turn}
use Rattle.koth_seats.specs.{Seats.{OnlySeat, SeatMoves, Seats, seat_at, seat_drained, seat_heard, seat_new, seat_told}, declared.seats.{Draining.Draining, Seat.Seat}}
use Rattle.koth_service.specs.{Noted.{Adds, Noted, Stays}, Session.{Session, session_lost}}
use Rattle.koth_service.specs.{Moment.{Happening, Start, ended_in, moment, noted}, Rounds.{Shares, shares_at}, History.{MayDisconnect, Shows}}
use Rattle.koth_service.specs.Standing.{AwaitedIn, GoesOn, PeersNow, moved_to, served_to, shares_by, shown_to, timed_to, told_to}
use Rattle.koth_service.{specs.declared.{connections.Stage.Stage, host.HowEnded.HowEnded}, proofs.{Due.finished_at, Causes.not_silent}}
use Rattle.koth_service.proofs.Stages.{came_to_be, safe_on, told_shares}
use Rattle.koth_service.proofs.Moments.{few_from, free_at, instead_same, owed_to, standing_came, standing_closed, standing_drained, standing_left, standing_lost, standing_new, standing_shut}
use Rattle.koth_service.proofs.Moments.{standing_went, there_at}

-- answers that there are
pub some_unsent : (read unsent : List ℕ) (empty : Bool) → read ≡ unsent → empty ≡ (length read == 0) → empty ≡ false → unsent ≢ []
some_unsent read unsent empty is tells there none = true≢false (sym (ap (λ (l : List ℕ). length l == 0) (is ∙ none)) ∙ sym tells ∙ there)

-- a peer to which answers are unsent is there
pub there_by_unsent : {A : Type 0} (slots : Slots A) (n : ℕ) → unsent_at slots n ≢ [] → peer_at slots n ≢ None
there_by_unsent slots n some = λ none. some (ap unsent_in none)

-- a peer of which bytes may come is there
pub there_by_room : {A : Type 0} (slots : Slots A) (n room : ℕ) → room ≡ may_come_at slots n → room ≢ 0 → peer_at slots n ≢ None
there_by_room slots n room is some = λ none. some (is ∙ ap may_come_in none)

module _ {S D A : Type 0} (happened : S → List Noted → Type 0) (facts : DeviceFacts D) (shows : Shows D) (start : Start D) (browsers : ℕ → Option (Stage A)) where
  -- nothing happened
  pub stays : (old new : S) (peers : PeersNow A) (store : Seen D) → Stays happened old new
      → GoesOn happened facts shows start old peers browsers store → GoesOn happened facts shows start new peers browsers store
  stays old new peers store same on =
      let before = on.1 in (
        on.0,
        came_to_be (same (noted on.0) before.logged) before.follows before.standing before.visiting before.now_is before.places before.seats before.ended before.round before.of_one,
        on.2,
      )

  -- and there is still the same cause to disconnect a peer
  pub still_may : (old new : S) (peers : PeersNow A) (store : Seen D) (n : ℕ) (how : HowEnded) → Stays happened old new
      → (on : GoesOn happened facts shows start old peers browsers store) → MayDisconnect start.most n how (moment start on.0)
      → (then : GoesOn happened facts shows start new peers browsers store) × MayDisconnect start.most n how (moment start then.0)
  still_may old new peers store n how same on may =
      let before = on.1 in (
        (
          on.0,
          came_to_be (same (noted on.0) before.logged) before.follows before.standing before.visiting before.now_is before.places before.seats before.ended before.round before.of_one,
          on.2,
        ),
        may,
      )

  -- the time was told
  pub ticked : (old new : S) (was : PeersNow A) (store : Seen D) (time clock : ℕ) → Adds happened (Noted.Clock time) old new → clock ≡ max was.clock time
      → GoesOn happened facts shows start old was browsers store → GoesOn happened facts shows start new (timed_to clock was.read_at was) browsers store
  ticked old new was store time clock adds is on =
      let before = on.1 in
      let round = before.round in
      let m = moment start on.0 in (
        Happening.On (Noted.Clock time) ∷ on.0,
        came_to_be (adds (noted on.0) before.logged) (tt, before.follows) before.standing before.visiting before.now_is before.places before.seats before.ended
            (record {
              clock = ap (λ c. max c time) round.clock ∙ sym is;
              read_at = round.read_at;
              turn = round.turn;
              under_way = round.under_way;
              shares = told_shares m.round.clock was.clock time clock m.round.shares was.shares round.clock is round.shares;
            }) before.of_one,
        safe_on on.2,
      )

  -- a command was begun when the time before it was told
  pub ticked_on : (old new : S) (was : PeersNow A) (store : Seen D) (time clock : ℕ) → Adds happened (Noted.Clock time) old new → clock ≡ max was.clock time → GoesOn happened facts shows start old was browsers store
      → (on : GoesOn happened facts shows start new (timed_to clock was.read_at was) browsers store) × ((moment start on.0).round.before ≡ was.clock)
  unfolding ticked
  ticked_on old new was store time clock adds is on = (ticked old new was store time clock adds is on, on.1.round.clock)

  -- the time was told, and a browser was answered before, or none was
  pub told_on : (answered : Bool) (old new : S) (was : PeersNow A) (store : Seen D) (time clock : ℕ) (shares : Shares) → Adds happened (Noted.Clock time) old new → clock ≡ max was.clock time
      → shares ≡ shares_at was.clock clock (shares_by answered was.shares) → GoesOn happened facts shows start old (shown_to answered was) browsers store
      → GoesOn happened facts shows start new (told_to clock shares was) browsers store
  told_on false old new was store time clock shares adds is same on =
      subst (λ (s : Shares). GoesOn happened facts shows start new (told_to clock s was) browsers store) (sym same) (ticked old new was store time clock adds is on)
  told_on true old new was store time clock shares adds is same on =
      subst (λ (s : Shares). GoesOn happened facts shows start new (told_to clock s was) browsers store) (sym same) (ticked old new (shown_to true was) store time clock adds is on)

  -- it was told at the end of a wait, at which nobody was silent for too long
  pub waited : (old new : S) (was : PeersNow A) (store : Seen D) (time clock : ℕ) → Adds happened (Noted.Waited time) old new → clock ≡ max was.clock time
      → ((p : ℕ) → AwaitedIn was.read_at (peer_at was.slots p) (seat_at was.seats p))
      → GoesOn happened facts shows start old was browsers store → GoesOn happened facts shows start new (timed_to clock clock was) browsers store
  waited old new was store time clock adds is awaited on =
      let before = on.1 in
      let round = before.round in
      let m = moment start on.0 in
      let told : max m.round.clock time ≡ clock = ap (λ c. max c time) round.clock ∙ sym is in (
        Happening.On (Noted.Waited time) ∷ on.0,
        came_to_be (adds (noted on.0) before.logged)
            (λ p shut silent. not_silent p was.read_at m (peer_at was.slots p) (seat_at was.seats p) (before.standing p) round.read_at (awaited p) shut silent, before.follows)
            before.standing before.visiting before.now_is before.places before.seats before.ended (record {
              clock = told;
              read_at = told;
              turn = round.turn;
              under_way = round.under_way;
              shares = told_shares m.round.clock was.clock time clock m.round.shares was.shares round.clock is round.shares;
            }) before.of_one,
        safe_on on.2,
      )

  -- a connection arrived, and waits now
  pub arrived : (old new : S) (was : PeersNow A) (store : Seen D) → Adds happened Noted.Arrived old new → GoesOn happened facts shows start old was browsers store
      → (on : GoesOn happened facts shows start new was browsers store) × ((moment start on.0).round.waits ≡ true)
  arrived old new was store adds on =
      let before = on.1 in
      let round = before.round in (
        (
          Happening.On Noted.Arrived ∷ on.0,
          came_to_be (adds (noted on.0) before.logged) (tt, before.follows) before.standing before.visiting before.now_is before.places before.seats before.ended
              (record { clock = round.clock; read_at = round.read_at; turn = round.turn; under_way = round.under_way; shares = round.shares }) before.of_one,
          safe_on on.2,
        ),
        refl,
      )

  -- it was closed
  pub refused : (old new : S) (was : PeersNow A) (store : Seen D) → Adds happened Noted.Refused old new → GoesOn happened facts shows start old was browsers store
      → GoesOn happened facts shows start new was browsers store
  refused old new was store adds on =
      let before = on.1 in
      let round = before.round in (
        Happening.On Noted.Refused ∷ on.0,
        came_to_be (adds (noted on.0) before.logged) (tt, before.follows) before.standing before.visiting before.now_is before.places before.seats before.ended
            (record { clock = round.clock; read_at = round.read_at; turn = round.turn; under_way = round.under_way; shares = round.shares }) before.of_one,
        safe_on on.2,
      )

  -- a peer was seated
  pub seated : (old_sockets sockets : S) (was now : PeersNow A) (store : Seen D) (n : ℕ) (address : SocketAddr) → Connects (Ok n) was.slots now.slots → OnlySeat n was.seats now.seats
      → (n < length was.seats → seat_at now.seats n ≡ Some (seat_new address was.clock)) → now.ended ≡ was.ended → now.turn ≡ was.turn → now.under_way ≡ was.under_way → now.clock ≡ was.clock → now.read_at ≡ was.read_at → now.shares ≡ was.shares
      → Adds happened (Noted.Seated n) old_sockets sockets
      → GoesOn happened facts shows start old_sockets was browsers store → GoesOn happened facts shows start sockets now browsers store
  seated old_sockets sockets was now store n address connects only sits ended turn under_way clock read_at shares adds on =
      let before = on.1 in
      let round = before.round in
      let m = moment start on.0 in
      let few : n < start.most = subst (λ (k : ℕ). n < k) before.places connects.1 in
      let within : n < length was.seats = subst (λ (k : ℕ). n < k) (sym before.seats) few in
      let at : seat_at now.seats n ≡ Some (seat_new address m.round.clock) = sits within ∙ ap (λ c. Some (seat_new address c)) (sym round.clock) in (
        Happening.On (Noted.Seated n) ∷ on.0,
        came_to_be (adds (noted on.0) before.logged) ((free_at m.sessions n was.slots was.seats connects.2 before.standing, few), before.follows)
            (standing_new m.sessions n m.round.clock connects.4 address was.slots now.slots was.seats now.seats connects.0 only connects.5 at connects.6 before.standing)
            before.visiting before.now_is (connects.0.size ∙ before.places) (only.size ∙ before.seats) (subst (λ (k : ℕ). k ≤ ended_in (noted on.0)) (sym ended) before.ended)
            (record { clock = round.clock ∙ sym clock; read_at = round.read_at ∙ sym read_at; turn = round.turn ∙ sym turn; under_way = round.under_way ∙ sym under_way; shares = round.shares ∙ sym shares })
            (subst (λ (u : Option Fight). IsOfOne store.hill.settings now.slots u) (sym under_way)
            (of_new store.hill.settings n was.slots now.slots was.under_way connects.0 connects.2 before.of_one)),
        safe_on on.2,
      )

  -- no peer was connected
  not_connected : (fault : NotConnected) (old new : Slots A) → Connects (Err fault) old new → new ≡ old
  not_connected NotConnected.Full old new connects = connects.0
  not_connected NotConnected.Memory old new connects = connects

  pub turned_away : (old_sockets sockets : S) (was : PeersNow A) (new : Slots A) (turn : Turn) (store : Seen D) (fault : NotConnected)
      → Connects (Err fault) was.slots new → turn ≡ was.turn → Adds happened Noted.Refused old_sockets sockets
      → GoesOn happened facts shows start old_sockets was browsers store → GoesOn happened facts shows start sockets (served_to new was.seats turn was) browsers store
  turned_away old_sockets sockets was new turn store fault connects same adds on =
      let slots = not_connected fault was.slots new connects in
      subst (λ (t : Turn). GoesOn happened facts shows start sockets (served_to new was.seats t was) browsers store) (sym same)
      (subst (λ (l : Slots A). GoesOn happened facts shows start sockets (served_to l was.seats was.turn was) browsers store) (sym slots)
      (refused old_sockets sockets was store adds on))

  -- bytes of a peer came
  pub came : (old_sockets sockets : S) (was : PeersNow A) (new : Slots A) (seats : Seats) (turn : Turn) (store : Seen D) (n : ℕ) (bytes : List ℕ) → peer_at was.slots n ≢ None
      → MovesAt (λ p q. Takes p bytes q) n was.slots new → SeatMoves (seat_heard bytes was.clock) n was.seats seats → turn ≡ was.turn → Adds happened (Noted.Heard n bytes) old_sockets sockets
      → GoesOn happened facts shows start old_sockets was browsers store → GoesOn happened facts shows start sockets (served_to new seats turn was) browsers store
  came old_sockets sockets was new seats turn store n bytes there moves hears same adds on =
      let before = on.1 in
      let round = before.round in
      let m = moment start on.0 in
      let heard = subst (λ c. SeatMoves (seat_heard bytes c) n was.seats seats) (sym round.clock) hears in (
        Happening.On (Noted.Heard n bytes) ∷ on.0,
        came_to_be (adds (noted on.0) before.logged)
            ((there_at m.sessions n was.slots was.seats there before.standing, few_from m.sessions n bytes was.slots new was.seats there moves before.standing), before.follows)
            (standing_came m.sessions n bytes m.round.clock was.slots new was.seats seats moves heard before.standing) before.visiting before.now_is
            (moves.only.size ∙ before.places) (hears.only.size ∙ before.seats) before.ended (record { clock = round.clock; read_at = round.read_at; turn = round.turn ∙ sym same; under_way = round.under_way; shares = round.shares })
            (of_moved (λ p q. Takes p bytes q) store.hill.settings n was.slots new was.under_way (λ p q takes due. takes.still due) moves before.of_one),
        safe_on on.2,
      )

  -- a peer's bytes are at their end
  pub closed : (old_sockets sockets : S) (was : PeersNow A) (new : Slots A) (turn : Turn) (store : Seen D) (n : ℕ) → MovesAt Closes n was.slots new → turn ≡ was.turn → Adds happened (Noted.AtEnd n) old_sockets sockets
      → GoesOn happened facts shows start old_sockets was browsers store → GoesOn happened facts shows start sockets (served_to new was.seats turn was) browsers store
  closed old_sockets sockets was new turn store n moves same adds on =
      let before = on.1 in
      let round = before.round in (
        Happening.On (Noted.AtEnd n) ∷ on.0,
        came_to_be (adds (noted on.0) before.logged) (tt, before.follows)
            (standing_closed (moment start on.0).sessions n was.slots new was.seats moves before.standing)
            before.visiting before.now_is (moves.only.size ∙ before.places) before.seats before.ended (record { clock = round.clock; read_at = round.read_at; turn = round.turn ∙ sym same; under_way = round.under_way; shares = round.shares })
            (of_moved Closes store.hill.settings n was.slots new was.under_way closes_still moves before.of_one),
        safe_on on.2,
      )

  -- answers went out to a peer
  pub went : (old_sockets sockets : S) (was : PeersNow A) (new : Slots A) (seats : Seats) (turn : Turn) (store : Seen D) (n count : ℕ) → MovesAt (λ p q. Sends p count q) n was.slots new
      → SeatMoves (seat_told was.clock) n was.seats seats → unsent_at was.slots n ≢ [] → turn ≡ was.turn → Adds happened (Noted.Told n (take count (unsent_at was.slots n))) old_sockets sockets
      → GoesOn happened facts shows start old_sockets was browsers store → GoesOn happened facts shows start sockets (served_to new seats turn was) browsers store
  went old_sockets sockets was new seats turn store n count moves tells some same adds on =
      let before = on.1 in
      let round = before.round in
      let m = moment start on.0 in
      let told = subst (λ c. SeatMoves (seat_told c) n was.seats seats) (sym round.clock) tells in (
        Happening.On (Noted.Told n (take count (unsent_at was.slots n))) ∷ on.0,
        came_to_be (adds (noted on.0) before.logged) (owed_to m.sessions n count was.slots was.seats some before.standing, before.follows)
            (standing_went m.sessions n count m.round.clock was.slots new was.seats seats moves told before.standing) before.visiting before.now_is
            (moves.only.size ∙ before.places) (tells.only.size ∙ before.seats) before.ended (record { clock = round.clock; read_at = round.read_at; turn = round.turn ∙ sym same; under_way = round.under_way; shares = round.shares })
            (of_moved (λ p q. Sends p count q) store.hill.settings n was.slots new was.under_way (sends_still count) moves before.of_one),
        safe_on on.2,
      )

  -- a peer that is finished was shut
  pub shut : (old_sockets sockets : S) (was : PeersNow A) (seats : Seats) (store : Seen D) (n : ℕ) (draining : Draining) → is_some (end_in (peer_at was.slots n)) ≡ true
      → is_finished_in (peer_at was.slots n) ≡ true → SeatMoves (seat_drained draining) n was.seats seats → Adds happened (Noted.Shut n) old_sockets sockets
      → GoesOn happened facts shows start old_sockets was browsers store → GoesOn happened facts shows start sockets (moved_to was.slots seats was) browsers store
  shut old_sockets sockets was seats store n draining ended is drains adds on =
      let before = on.1 in
      let round = before.round in
      let m = moment start on.0 in (
        Happening.On (Noted.Shut n) ∷ on.0,
        came_to_be (adds (noted on.0) before.logged) (finished_at (m.sessions n) (peer_at was.slots n) (seat_at was.seats n) (before.standing n) ended is, before.follows)
            (standing_shut m.sessions n draining was.slots was.seats seats drains before.standing) before.visiting before.now_is
            before.places (drains.only.size ∙ before.seats) before.ended (record { clock = round.clock; read_at = round.read_at; turn = round.turn; under_way = round.under_way; shares = round.shares }) before.of_one,
        safe_on on.2,
      )

  -- more of it was thrown away
  pub drained : (old_sockets sockets : S) (was : PeersNow A) (seats : Seats) (store : Seen D) (n : ℕ) (draining : Draining)
      → ((seat : Seat) → seat_at was.seats n ≡ Some seat → IsSome seat.draining) → SeatMoves (seat_drained draining) n was.seats seats → Stays happened old_sockets sockets
      → GoesOn happened facts shows start old_sockets was browsers store → GoesOn happened facts shows start sockets (moved_to was.slots seats was) browsers store
  drained old_sockets sockets was seats store n draining shut_before drains same on =
      let before = on.1 in
      let round = before.round in (
        on.0,
        came_to_be (same (noted on.0) before.logged) before.follows
            (standing_drained (moment start on.0).sessions n draining was.slots was.seats seats shut_before drains before.standing) before.visiting before.now_is
            before.places (drains.only.size ∙ before.seats) before.ended (record { clock = round.clock; read_at = round.read_at; turn = round.turn; under_way = round.under_way; shares = round.shares }) before.of_one,
        on.2,
      )

  -- the sockets said that a peer is gone
  pub lost : (old_sockets sockets : S) (was : PeersNow A) (store : Seen D) (n : ℕ) → peer_at was.slots n ≢ None → Adds happened (Noted.Lost n) old_sockets sockets
      → GoesOn happened facts shows start old_sockets was browsers store
      → (on : GoesOn happened facts shows start sockets was browsers store) × MayDisconnect start.most n HowEnded.Gone (moment start on.0)
  lost old_sockets sockets was store n there adds on =
      let before = on.1 in
      let round = before.round in
      let m = moment start on.0 in
      let gone = session_lost (m.sessions n) in (
        (
          Happening.On (Noted.Lost n) ∷ on.0,
          came_to_be (adds (noted on.0) before.logged) (tt, before.follows) (standing_lost m.sessions n was.slots was.seats before.standing) before.visiting before.now_is
              before.places before.seats before.ended (record { clock = round.clock; read_at = round.read_at; turn = round.turn; under_way = round.under_way; shares = round.shares }) before.of_one,
          safe_on on.2,
        ),
        (
          ap (λ (s : Session). s.there) (instead_same m.sessions n gone) ∙ there_at m.sessions n was.slots was.seats there before.standing,
          ap (λ (s : Session). s.lost) (instead_same m.sessions n gone),
        ),
      )

  -- a peer was disconnected for a cause, and its submission is not under way any more
  pub left : (old_sockets sockets : S) (was now : PeersNow A) (store same_store : Seen D) (n : ℕ) (how : HowEnded) → OnlyAt n was.slots now.slots
      → peer_at now.slots n ≡ None → OnlySeat n was.seats now.seats → seat_at now.seats n ≡ None → now.ended ≤ was.ended + 1 → now.turn ≡ was.turn
      → now.under_way ≡ without n was.under_way → same_store ≡ store → now.clock ≡ was.clock
      → now.read_at ≡ was.read_at → now.shares ≡ was.shares → Adds happened (Noted.Closed n) old_sockets sockets
      → (on : GoesOn happened facts shows start old_sockets was browsers store) → MayDisconnect start.most n how (moment start on.0)
      → GoesOn happened facts shows start sockets now browsers same_store
  left old_sockets sockets was now store same_store n how only free places empty more turn under_way same clock read_at shares adds on cause =
      let before = on.1 in
      let round = before.round in
      let m = moment start on.0 in
      let counted : was.ended ≤ ended_in (noted on.0) = before.ended in
      let counts : now.ended ≤ ended_in (noted on.0) + 1 = omega (arith, counted, more) in
      let others : IsOfOne store.hill.settings now.slots now.under_way = subst (λ (u : Option Fight). IsOfOne store.hill.settings now.slots u) (sym under_way)
      (of_others store.hill.settings n was.slots now.slots was.under_way only before.of_one) in (
        Happening.Disconnected n how ∷ on.0,
        came_to_be (adds (noted on.0) before.logged) (cause, before.follows)
            (standing_left m.sessions n m.round.clock was.slots now.slots was.seats now.seats only places free empty before.standing) before.visiting (before.now_is ∙ sym same)
            (only.size ∙ before.places) (places.size ∙ before.seats) counts
            (record {
              clock = round.clock ∙ sym clock;
              read_at = round.read_at ∙ sym read_at;
              turn = round.turn ∙ sym turn;
              under_way = ap (λ f. without n f) round.under_way ∙ sym under_way;
              shares = round.shares ∙ sym shares;
            })
            (subst (λ (s : Seen D). IsOfOne s.hill.settings now.slots now.under_way) (sym same) others),
        safe_on on.2,
      )
