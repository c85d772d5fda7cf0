-- Whose turn it is, by how the peers and their seats stand.
use Rattle.std.proofs.Common.{◌≡◌, inl, inr, ℕ, ◌+◌, ◌-◌, nat_le, Bool, true, false, true≢false, List, [], ◌∷◌, ◌++◌, Option, None, Some, refl, sym, ap, subst, ◌∙◌, append_assoc, ◌⊎◌, ◌==◌, ◌&&◌, ◌||◌}
use Rattle.std.proofs.{Common.not, lemmas.Bool.{cases_eq, Decides.eqb_tells}}
use Rattle.sector_disk.specs.Facts.{DeviceFacts}
use Rattle.koth_protocol.specs.{Commands.{Command, Reader, commands_read, kept_source}, declared.script.Met.Met}
use Rattle.koth_session.{proofs.Fights.may_serve_now, specs.{Inbox.{IsTaken, is_met, is_request}, Judge.{Judged, fighting}}}
use Rattle.koth_session.specs.Peer.{HasRead, IsPeer, command_due, command_of, is_due, is_due_now}
use Rattle.koth_session.specs.Peers.{IsAhead, IsNext, Moves, ServesOne, Slots, asks_in, goes_first, goes_first_at, goes_first_in, is_due_in, may_serve_in, peer_at, is_beside, turn_after}
use Rattle.koth_session.{specs.declared.{end.PeerEnd.PeerEnd, inbox.Inbox.Inbox, peer.Peer.Peer, turns.Turn.Turn}, proofs.Standing.{behind_met, those_came}}
use Rattle.koth_seats.specs.{Seats.{SeatMoves, Seats, seat_at, seat_map}, declared.{seats.Seat.Seat, times.TheConstants.SHARE}}
use Rattle.koth_service.specs.{Session.Session, Moment.{Moment, instead, is_first}, Rounds.{Round, Shares, has_share}, History.{Begins, IsBeside, IsTurn, MayBeServed}}
use Rattle.koth_service.{specs.Standing.{AreStanding, IsRound, PeersNow, Stands, StandsAt}, proofs.{Moments.{at_both, standing_with}, Due.{idle, not_over}}}

-- ---- truth values and lists

one_false : (a b : Bool) → (a && b) ≡ false → (a ≡ false) ⊎ ((a ≡ true) × (b ≡ false))
one_false true b is = inr (refl, is)
one_false false b is = inl refl

not_true : (b : Bool) → not b ≡ true → b ≡ false
not_true true is = sym is
not_true false is = refl

not_false : (b : Bool) → not b ≡ false → b ≡ true
not_false true is = refl
not_false false is = sym is

either_false : (a b : Bool) → (a || b) ≡ false → (a ≡ false) × (b ≡ false)
either_false true b is = absurd (true≢false is)
either_false false b is = (refl, is)

module _ {A : Type 0} where
  -- the turn may come to it
  beside_at : (busy : Option ℕ) (n : ℕ) (s : Session) (peer : Peer A) → Stands s peer → is_beside busy n peer.waits ≡ true → IsBeside busy n s
  beside_at None n s peer stands is = tt
  beside_at (Some k) n s peer stands is =
      elim (eqb_tells n k) [
        | inl same ↦ inl same.1
        | inr differ ↦ inr (stands.waits ∙ not_true peer.waits (sym (ap (λ b. b || not peer.waits) differ.0) ∙ is))
      ]

  -- or it may not
  not_beside : (busy : Option ℕ) (n : ℕ) (s : Session) (peer : Peer A) → Stands s peer → is_beside busy n peer.waits ≡ false → IsBeside busy n s → ⊥
  not_beside None n s peer stands is beside = true≢false is
  not_beside (Some k) n s peer stands is (inl same) =
      let other = (either_false (n == k) (not peer.waits) is).0 in
      elim (eqb_tells n k) [ inl equal ↦ true≢false (sym equal.0 ∙ other) | inr differ ↦ differ.1 same ]
  not_beside (Some k) n s peer stands is (inr goes) =
      let waits = not_false peer.waits (either_false (n == k) (not peer.waits) is).1 in
      true≢false (sym waits ∙ sym stands.waits ∙ goes)

  -- of a peer whose slot says so nothing may be carried out
  pub nobody_may : {D : Type 0} (busy : Option ℕ) (m : Moment D) (p : ℕ) (slot : Option (Peer A)) (seat : Option Seat) → StandsAt (m.sessions p) slot seat → fighting m.round.under_way ≡ busy
      → may_serve_in busy p slot ≡ false → MayBeServed m p → ⊥
  nobody_may busy m p None None stands same never may = true≢false (sym may.0 ∙ stands)
  nobody_may busy m p None (Some seat) stands same never may = absurd stands
  nobody_may busy m p (Some peer) None stands same never may = absurd stands
  nobody_may busy m p (Some peer) (Some seat) stands same never may =
      let s = m.sessions p in
      elim (one_false (is_due_now peer) (is_beside busy p peer.waits) never) [
        | inl none ↦ may.1 (idle s peer stands.0 none)
        | inr late ↦ not_beside busy p s peer stands.0 late.1 (subst (λ b. IsBeside b p s) same may.2)
      ]

  -- a peer that is there comes first or not, as its slot says
  first_in : (share : Bool) (busy : Option ℕ) (p : ℕ) (s : Session) (slot : Option (Peer A)) (seat : Option Seat) → StandsAt s slot seat → s.there ≡ true
      → goes_first share busy p s.waits ≡ goes_first_in share busy p slot
  first_in share busy p s None None stands there = absurd (true≢false (sym there ∙ stands))
  first_in share busy p s None (Some seat) stands there = absurd stands
  first_in share busy p s (Some peer) None stands there = absurd stands
  first_in share busy p s (Some peer) (Some seat) stands there = ap (λ w. goes_first share busy p w) stands.0.waits

  first_at : {D : Type 0} (share : Bool) (busy : Option ℕ) (m : Moment D) (p : ℕ) (slot : Option (Peer A)) (seat : Option Seat) → StandsAt (m.sessions p) slot seat
      → (m.sessions p).there ≡ true → share ≡ has_share m.round → fighting m.round.under_way ≡ busy → is_first p m ≡ goes_first_in share busy p slot
  first_at share busy m p slot seat stands there shared fights =
      ap (λ (h : Bool). goes_first h (fighting m.round.under_way) p (m.sessions p).waits) (sym shared) ∙ ap (λ (f : Option ℕ). goes_first share f p (m.sessions p).waits) fights
      ∙ first_in share busy p (m.sessions p) slot seat stands there

-- ---- the command that is due is the next one in what came, if it is no browser's request

pub taken_by : (reader : Reader) (m : Met) → is_request m ≡ false → IsTaken reader m
taken_by Reader.Session m other = tt
taken_by Reader.Service m other = other

module _ {A : Type 0} where
  in_turn_at : (end : Option PeerEnd) (inbox : Inbox A) (closed : Bool) (came : List ℕ) (done : List Command) → is_due end (is_met inbox.due) ≡ true
      → is_request inbox.due ≡ false → (reader : Reader) → HasRead reader end inbox closed came done
      → Begins (done ++ command_due inbox.due (kept_source inbox.script.source) ∷ []) (commands_read reader came)
  in_turn_at (Some end) inbox closed came done due other reader read = absurd (true≢false (sym due))
  in_turn_at None inbox closed came done due other reader read =
      let those = those_came reader inbox came done read.0 in
      let here = behind_met reader inbox.due inbox.script.source those.0 due (taken_by reader inbox.due other) in
      let command = command_due inbox.due (kept_source inbox.script.source) in
      (here.0, those.1 ∙ ap (λ l. done ++ l) here.1 ∙ sym (append_assoc done (command ∷ []) here.0))

  in_turn : (peer : Peer A) (came : List ℕ) (done : List Command) → is_due_in (Some peer) ≡ true → asks_in (Some peer) ≡ false
      → (reader : Reader) → IsPeer reader peer came done → Begins (done ++ command_of peer ∷ []) (commands_read reader came)
  in_turn peer came done due other reader is = in_turn_at peer.end peer.inbox peer.closed came done due other reader is.has_read

pub turn_by : {D : Type 0} (n : ℕ) (m : Moment D) (one other : Command) → one ≡ other → IsTurn n one m → IsTurn n other m
turn_by n m one other is turn = subst (λ (k : Command). IsTurn n k m) is turn

module _ {D A : Type 0} (facts : DeviceFacts D) where
  -- it is this peer's turn
  pub turn_of : (share : Bool) (n : ℕ) (m : Moment D) (slots : Slots A) (seats : Seats) (peer : Peer A) (seat : Seat) (from : Turn) (busy : Option ℕ)
      → ((p : ℕ) → StandsAt (m.sessions p) (peer_at slots p) (seat_at seats p)) → Stands (m.sessions n) peer → may_serve_in busy n (Some peer) ≡ true → asks_in (Some peer) ≡ false
      → m.round.turn ≡ from → fighting m.round.under_way ≡ busy → share ≡ has_share m.round → is_first n m ≡ goes_first_at share busy slots n → IsNext share busy slots from n
      → IsTurn n (command_of peer) m
  turn_of share n m slots seats peer seat from busy standing at may other turn fights shared comes next =
      let s = m.sessions n in
      let due = may_serve_now busy n peer may in
      let earlier : (p : ℕ) → IsAhead m.round.turn p (is_first p m) n (is_first n m) → MayBeServed m p → ⊥ =
      λ p before may.
      let first : is_first p m ≡ goes_first_at share busy slots p = first_at share busy m p (peer_at slots p) (seat_at seats p) (standing p) may.0 shared fights in
      let there : IsAhead from p (goes_first_at share busy slots p) n (goes_first_at share busy slots n) =
      subst (λ (b : Bool). IsAhead from p (goes_first_at share busy slots p) n b) comes
      (subst (λ (a : Bool). IsAhead from p a n (is_first n m)) first (subst (λ (t : Turn). IsAhead t p (is_first p m) n (is_first n m)) turn before)) in
      nobody_may busy m p (peer_at slots p) (seat_at seats p) (standing p) fights (next.before p there) may in record {
        in_turn = λ reader. in_turn peer s.came s.done due.0 other reader (at.reads reader);
        goes_on = not_over s peer at due.0;
        beside = subst (λ b. IsBeside b n s) (sym fights) (beside_at busy n s peer at due.1);
        first = earlier;
      }

-- ---- the share, and where the turns go on

-- whether the submission has its share, by the time at which the command was begun
pub shared_at : {A : Type 0} (share : Bool) (r : Round) (was : PeersNow A) (clock : ℕ) → IsRound r was → r.before ≡ clock → share ≡ nat_le SHARE (clock - was.shares.stepped_at)
    → share ≡ has_share r
shared_at share r was clock round before is =
    is ∙ ap (λ (c : ℕ). nat_le SHARE (c - was.shares.stepped_at)) (sym before) ∙ ap (λ (s : Shares). nat_le SHARE (r.before - s.stepped_at)) (sym round.shares)

-- where the turns go on
pub turn_on : {D : Type 0} (n submission : ℕ) (m : Moment D) (was turn : Turn) (first : Bool) → m.round.turn ≡ was → is_first n m ≡ first → turn ≡ turn_after first (n + 1) submission was
    → turn_after (is_first n m) (n + 1) submission m.round.turn ≡ turn
turn_on n submission m was turn first same comes is =
    ap (λ (t : Turn). turn_after (is_first n m) (n + 1) submission t) same ∙ ap (λ (b : Bool). turn_after b (n + 1) submission was) comes ∙ sym is

pub turn_on_same : {D : Type 0} (n : ℕ) (m : Moment D) (was turn : Turn) (first : Bool) → m.round.turn ≡ was → is_first n m ≡ first → turn ≡ turn_after first (n + 1) was.submission was
    → turn_after (is_first n m) (n + 1) m.round.turn.submission m.round.turn ≡ turn
turn_on_same n m was turn first same comes is =
    ap (λ (t : Turn). turn_after (is_first n m) (n + 1) t.submission m.round.turn) same ∙ turn_on n was.submission m was turn first same comes is

-- ---- the peer whose turn it is

-- what is known of it: what was made of it, of its seat, and of the turn
pub record IsServing {D A : Type 0} (R : Peer A → Peer A → Type 0) (f : Seat → Seat) (share : Bool) (n submission : ℕ) (was : PeersNow A) (new : Slots A) (seats : Seats) (turn : Turn)
    (judge : Judged D) : Type 0 where
  pub one : ServesOne R share n submission was.slots was.turn judge new turn
  pub under_way : was.under_way ≡ judge.under_way
  pub serves : SeatMoves f n was.seats seats

-- the peer, its seat, what they are after it, and whether it came first
pub record IsThere {D A : Type 0} (R : Peer A → Peer A → Type 0) (f : Seat → Seat) (first : Bool) (n : ℕ) (new : Slots A) (seats : Seats) (m : Moment D) : Type 0 where
  pub peer : Peer A
  pub seat : Seat
  pub next : Peer A
  pub due : is_due_in (Some peer) ≡ true
  pub other : asks_in (Some peer) ≡ false
  pub moved : R peer next
  pub slot_is : peer_at new n ≡ Some next
  pub seat_is : seat_at seats n ≡ Some (f seat)
  pub stands : StandsAt (m.sessions n) (Some peer) (Some seat)
  pub turn : IsTurn n (command_of peer) m
  pub comes : is_first n m ≡ first

module _ {D A : Type 0} (facts : DeviceFacts D) (R : Peer A → Peer A → Type 0) (f : Seat → Seat) (m : Moment D) (share : Bool) (n submission : ℕ) (was : PeersNow A) (new : Slots A) (seats : Seats) (turn : Turn)
    (judge : Judged D) (standing : AreStanding m.sessions was.slots was.seats) (is : IsServing R f share n submission was new seats turn judge) (shared : share ≡ has_share m.round) where
  -- whether it comes first
  abbrev first_now : Bool
  first_now = goes_first_at share (fighting judge.under_way) was.slots n

  there_in : (slot : Option (Peer A)) (seat : Option Seat) → IsRound m.round was → peer_at was.slots n ≡ slot → seat_at was.seats n ≡ seat → may_serve_in (fighting judge.under_way) n slot ≡ true
      → asks_in slot ≡ false → StandsAt (m.sessions n) slot seat → IsThere R f first_now n new seats m
  there_in None seat round slot_is seat_is may other stands = absurd (true≢false (sym may))
  there_in (Some peer) None round slot_is seat_is may other stands = absurd stands
  there_in (Some peer) (Some seat) round slot_is seat_is may other stands =
      let moved : Moves R (Some peer) (peer_at new n) = subst (λ slot. Moves R slot (peer_at new n)) slot_is is.one.moves.at in
      let fights : fighting m.round.under_way ≡ fighting judge.under_way = ap fighting (round.under_way ∙ is.under_way) in
      let comes : is_first n m ≡ first_now =
      first_at share (fighting judge.under_way) m n (peer_at was.slots n) (seat_at was.seats n) (standing n) stands.0.there shared fights in record {
        peer = peer;
        seat = seat;
        next = moved.0;
        due = (may_serve_now (fighting judge.under_way) n peer may).0;
        other = other;
        moved = moved.2;
        slot_is = moved.1;
        seat_is = is.serves.at ∙ ap (λ (x : Option Seat). seat_map f x) seat_is;
        stands = stands;
        turn = turn_of facts share n m was.slots was.seats peer seat was.turn (fighting judge.under_way) standing stands.0 may other round.turn fights shared comes is.one.first;
        comes = comes;
      }

  pub there : IsRound m.round was → IsThere R f first_now n new seats m
  there round = there_in (peer_at was.slots n) (seat_at was.seats n) round refl refl is.one.first.due is.one.taken (standing n)

  -- the peer and its seat stand so, and all else as before
  pub after : (s : Session) → (at : IsThere R f first_now n new seats m) → StandsAt s (Some at.next) (Some (f at.seat)) → AreStanding (instead m.sessions n s) new seats
  after s at stands =
      standing_with m.sessions n s was.slots new was.seats seats is.one.moves.only is.serves.only
      (at_both s (peer_at new n) (Some at.next) (seat_at seats n) (Some (f at.seat)) at.slot_is at.seat_is stands) standing

  -- the session is as it was, and so is all else
  pub stays_standing : (at : IsThere R f first_now n new seats m) → StandsAt (m.sessions n) (Some at.next) (Some (f at.seat)) → AreStanding m.sessions new seats
  stays_standing at stands = λ p.
      elim (cases_eq p n) [
        | inl here ↦ subst (λ q. StandsAt (m.sessions q) (peer_at new q) (seat_at seats q)) (sym here)
            (at_both (m.sessions n) (peer_at new n) (Some at.next) (seat_at seats n) (Some (f at.seat)) at.slot_is at.seat_is stands)
        | inr other ↦ at_both (m.sessions p) (peer_at new p) (peer_at was.slots p) (seat_at seats p) (seat_at was.seats p) (is.one.moves.only.others p other) (is.serves.only.others p other) (standing p)
      ]
