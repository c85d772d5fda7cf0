-- How a history goes on by a command, by a step of a submission, or by a source that is put off.
use Rattle.std.proofs.Common.{◌≡◌, ℕ, ◌+◌, ◌-◌, Bool, true, false, true≢false, length, List, [], ◌∷◌, Option, None, Some, IsSome, refl, sym, ap, subst, ◌∙◌}
use Rattle.sector_disk.specs.Facts.{DeviceFacts}
use Rattle.hill_store.specs.Seen.{Assembled, MayBeSpent, Seen}
use Rattle.koth_protocol.specs.Commands.{Command, kept_source}
use Rattle.koth_session.{specs.{Sessions.{AreServed, IsLeftOff}, Transcript.{answer, command_in}}, proofs.{Answering.submit_due, Fights.may_serve_now, Holding.keeps_cut}}
use Rattle.koth_session.specs.{Judge.{Fight, GoesFurther, IsOfSource, Judged, fighting, without}, Peer.{IsFull, command_of}}
use Rattle.koth_session.specs.Peers.{IsOfOne, IsPutOff, IsServed, IsStepped, ServesNext, ServesOne, Slots, asks_in, may_serve_in, peer_at, step_after, turn_after}
use Rattle.koth_session.{specs.declared.{end.PeerEnd.PeerEnd, peer.Peer.Peer, peers.Step.Step, turns.Turn.Turn}, proofs.Steps.same_store}
use Rattle.koth_seats.specs.{Seats.{SeatMoves, Seats, seat_at, seat_map, seat_served}, declared.seats.Seat.Seat}
use Rattle.koth_service.specs.{Noted.Noted, Session.{session_answered, session_over, session_put_off}}
use Rattle.koth_service.specs.{Moment.{Happening, Moment, Start, is_first, moment}, Rounds.{Shares, has_share, round_after, shares_stepped}, History.{Answers, Breaks, Fights, HasNoRoom, MayDisconnect, PutsOff, Shows, Stops}}
use Rattle.koth_service.specs.Standing.{AreStanding, CameToBe, GoesOn, IsCutOff, IsRound, PeersNow, StandsAt, fought_to, over_by, shared_to}
use Rattle.koth_service.{specs.declared.{connections.Stage.Stage, host.HowEnded.HowEnded}, proofs.Moments.only_seats}
use Rattle.koth_service.proofs.{Stages.{came_to_be, safe_on}, Causes.asks}
use Rattle.koth_service.proofs.{Turns.{IsServing, IsThere, after, stays_standing, there, turn_by, turn_on, turn_on_same}, Outcomes.{answered_at, ended_at, put_off_at, safe_answered, stepped_at}}

-- a seat that stays as it is
same_seat : (seat : Option Seat) → seat ≡ seat_map (λ x. x) seat
same_seat None = refl
same_seat (Some seat) = refl

-- a command was carried out, or ended a session
abbrev ServedBy : {D A : Type 0} → DeviceFacts D → Option ℕ → Option PeerEnd → ℕ → Judged D → Judged D → Peer A → Peer A → Type 0
ServedBy facts steps outcome n judge now p q = IsServed facts steps outcome n p judge q now

abbrev IsServingSo : {D A : Type 0} → DeviceFacts D → Option ℕ → Option PeerEnd → Bool → ℕ → ℕ → PeersNow A → Slots A → Seats → Turn → Judged D → Judged D → Type 0
IsServingSo facts steps outcome share n time was new seats turn judge now =
    IsServing (ServedBy facts steps outcome n judge now) (seat_served time) share n was.turn.submission was new seats turn judge

module _ {S D A : Type 0} (happened : S → List Noted → Type 0) (facts : DeviceFacts D) (shows : Shows D) (start : Start D) (browsers : ℕ → Option (Stage A)) (sockets : S)
    (steps turns : ℕ) (same_steps : (store : Seen D) → steps ≡ (shows store).steps) (share : Bool) where
  -- the round after it
  round_served : (n : ℕ) (turn : Turn) (m : Moment D) (was : PeersNow A) (new : Slots A) (seats : Seats) (under_way : Option Fight) (judge : Judged D) (first : Bool) → IsRound m.round was
      → is_first n m ≡ first → turn ≡ turn_after first (n + 1) was.turn.submission was.turn → was.under_way ≡ judge.under_way → under_way ≡ without n judge.under_way
      → IsRound (round_after (is_first n m) n m.round) (fought_to new seats turn under_way was)
  round_served n turn m was new seats under_way judge first round comes turn_is same is = record {
    clock = round.clock;
    read_at = round.read_at;
    turn = turn_on_same n m was.turn turn first round.turn comes turn_is;
    under_way = ap (λ f. without n f) (round.under_way ∙ same) ∙ sym is;
    shares = round.shares;
  }

  -- a command was carried out
  answered_by : (n : ℕ) (was : PeersNow A) (new : Slots A) (seats : Seats) (turn : Turn) (judge now : Judged D) → (on : GoesOn happened facts shows start sockets was browsers judge.store) → share ≡ has_share (moment start on.0).round
      → IsServingSo facts (Some steps) None share n (moment start on.0).round.clock was new seats turn judge now → IsOfOne now.store.hill.settings new now.under_way
      → GoesOn happened facts shows start sockets (fought_to new seats turn now.under_way was) browsers now.store
  answered_by n was new seats turn judge now on shared is of_one =
      let before = on.1 in
      let round = before.round in
      let m = moment start on.0 in
      let s = m.sessions n in
      let time = m.round.clock in
      let R = ServedBy facts (Some steps) None n judge now in
      let at = there facts R (seat_served time) m share n was.turn.submission was new seats turn judge before.standing is shared round in
      let serves = at.moved.serves in
      let e = serves.answers.0 in
      let served : AreServed facts m.now now.store (e ∷ []) = subst (λ (s : Seen D). AreServed facts s now.store (e ∷ [])) (sym before.now_is) serves.answers.2 in
      let safe = safe_answered facts n e now.store m served on.2 in
      let others = ap (λ u. without n u) (round.under_way ∙ is.under_way) in
      let beside : IsSome (without n m.round.under_way) → now.store ≡ m.now = λ other.
      at.moved.beside (subst (λ (u : Option Fight). IsSome u) (others ∙ sym at.moved.under_way) other) ∙ sym before.now_is in
      let answers : Answers facts n e now.store m =
      record { turn = turn_by n m (command_of at.peer) (command_in e) serves.answers.1 at.turn; beside = beside; served = served; safe = safe } in (
        Happening.Answered n e now.store ∷ on.0,
        came_to_be before.logged (answers, before.follows)
            (after facts R (seat_served time) m share n was.turn.submission was new seats turn judge before.standing is shared (session_answered (command_in e) (answer m.now.hill e) time s) at
            (answered_at facts (Some steps) s time at.peer at.next at.seat m.now judge.store now.store before.now_is serves at.due at.other at.stands))
            before.visiting refl (is.one.moves.only.size ∙ before.places) (is.serves.only.size ∙ before.seats) before.ended
            (round_served n turn m was new seats now.under_way judge _ round at.comes is.one.next_is is.under_way at.moved.under_way) of_one,
        safe,
      )

  -- a command ended the session, and was not carried out
  stops : (end : PeerEnd) (first : Bool) (n time : ℕ) (m : Moment D) (new : Slots A) (seats : Seats) (judge now : Judged D) → step_after (Some end) n ≡ Step.Served n → m.now ≡ judge.store
      → IsThere (ServedBy facts (Some steps) (Some end) n judge now) (seat_served time) first n new seats m → Stops (shows m.now).steps n end m
  stops PeerEnd.Quit first n time m new seats judge now sound is at = turn_by n m (command_of at.peer) Command.Quit at.moved.serves.answers.0 at.turn
  stops PeerEnd.EndOfInput first n time m new seats judge now sound is at = absurd at.moved.serves.answers
  stops PeerEnd.Limit first n time m new seats judge now sound is at = absurd at.moved.serves.answers
  stops PeerEnd.Unread first n time m new seats judge now sound is at =
      let unsent = at.peer.outbox.unsent in
      let room : HasNoRoom n (command_of at.peer) m = (
        unsent,
        at.stands.0.owed,
        subst (λ (s : Seen D). IsFull s.hill (command_of at.peer) unsent) (sym is) at.moved.serves.answers.0,
      ) in (command_of at.peer, at.turn, room)
  stops PeerEnd.StepsSpent first n time m new seats judge now sound is at =
      let spent = at.moved.serves.answers in
      (spent.0, turn_by n m (command_of at.peer) (Command.Submit spent.0) spent.1 at.turn, subst (λ k. MayBeSpent (Some k) spent.0) (same_steps m.now) spent.2)
  stops PeerEnd.StoreFailed first n time m new seats judge now sound is at = absurd (cc)
  stops PeerEnd.Memory first n time m new seats judge now sound is at = (command_of at.peer, at.turn)

  stopped_by : (end : PeerEnd) (n : ℕ) (was : PeersNow A) (new : Slots A) (seats : Seats) (turn : Turn) (judge now : Judged D) → over_by (Some end) ≡ Some end
      → step_after (Some end) n ≡ Step.Served n → step_after (Some end) 0 ≡ step_after None 0 → (on : GoesOn happened facts shows start sockets was browsers judge.store) → share ≡ has_share (moment start on.0).round
      → IsServingSo facts (Some steps) (Some end) share n (moment start on.0).round.clock was new seats turn judge now → IsOfOne now.store.hill.settings new now.under_way
      → GoesOn happened facts shows start sockets (fought_to new seats turn now.under_way was) browsers now.store
  stopped_by end n was new seats turn judge now same sound none on shared is of_one =
      let before = on.1 in
      let round = before.round in
      let m = moment start on.0 in
      let s = m.sessions n in
      let time = m.round.clock in
      let R = ServedBy facts (Some steps) (Some end) n judge now in
      let at = there facts R (seat_served time) m share n was.turn.submission was new seats turn judge before.standing is shared round in
      let serves = at.moved.serves in
      let still : m.now ≡ now.store = before.now_is ∙ sym (same_store facts (Some steps) end (command_of at.peer) at.peer.outbox.unsent at.next.outbox.unsent judge.store now.store none serves.answers) in (
        Happening.Stopped n end ∷ on.0,
        came_to_be before.logged (stops end _ n time m new seats judge now sound before.now_is at, before.follows)
            (after facts R (seat_served time) m share n was.turn.submission was new seats turn judge before.standing is shared (session_over end time s) at
            (ended_at facts (Some steps) end s time at.peer at.next at.seat judge.store now.store same serves at.other at.stands))
            before.visiting still (is.one.moves.only.size ∙ before.places) (is.serves.only.size ∙ before.seats) before.ended
            (round_served n turn m was new seats now.under_way judge _ round at.comes is.one.next_is is.under_way at.moved.under_way) of_one,
        safe_on on.2,
      )

  -- with a device that failed none is under way
  none_left : (under_way : Option Fight) (store now : Seen D) → store.reopen ≡ false → now.reopen ≡ true → (IsSome under_way → now ≡ store) → under_way ≡ None
  none_left None store now sound broken same = refl
  none_left (Some fight) store now sound broken same = absurd (true≢false (sym broken ∙ ap (λ (s : Seen D). s.reopen) (same refl) ∙ sound))

  -- the device failed in a submission
  cut_by : (n : ℕ) (was : PeersNow A) (new : Slots A) (seats : Seats) (turn : Turn) (judge now : Judged D) → (on : GoesOn happened facts shows start sockets was browsers judge.store) → share ≡ has_share (moment start on.0).round
      → IsServingSo facts (Some steps) (Some PeerEnd.StoreFailed) share n (moment start on.0).round.clock was new seats turn judge now → IsOfOne now.store.hill.settings new now.under_way
      → IsCutOff happened facts shows start sockets (fought_to new seats turn now.under_way was) browsers now.store
  cut_by n was new seats turn judge now on shared is of_one =
      let before = on.1 in
      let round = before.round in
      let m = moment start on.0 in
      let s = m.sessions n in
      let time = m.round.clock in
      let R = ServedBy facts (Some steps) (Some PeerEnd.StoreFailed) n judge now in
      let at = there facts R (seat_served time) m share n was.turn.submission was new seats turn judge before.standing is shared round in
      let serves = at.moved.serves in
      let source = serves.answers.0 in
      let left : IsLeftOff facts m.now now.store source = subst (λ (s : Seen D). IsLeftOff facts s now.store source) (sym before.now_is) serves.answers.2 in
      let none = none_left now.under_way judge.store now.store (sym (ap (λ (s : Seen D). s.reopen) before.now_is) ∙ on.2.open_now) left.broken at.moved.beside in
      let breaks : Breaks facts n source now.store m = record {
        turn = turn_by n m (command_of at.peer) (Command.Submit source) serves.answers.1 at.turn;
        alone = ap (λ u. without n u) (round.under_way ∙ is.under_way) ∙ sym at.moved.under_way ∙ none;
        left_off = left;
        safe = on.2;
        holds = keeps_cut facts m.first m.now now.store m.since source on.2.served left;
      } in (
        Happening.CutOff n source now.store ∷ on.0,
        came_to_be before.logged (breaks, before.follows)
            (after facts R (seat_served time) m share n was.turn.submission was new seats turn judge before.standing is shared (session_over PeerEnd.StoreFailed time s) at
            (ended_at facts (Some steps) PeerEnd.StoreFailed s time at.peer at.next at.seat judge.store now.store refl serves at.other at.stands))
            before.visiting refl (is.one.moves.only.size ∙ before.places) (is.serves.only.size ∙ before.seats) before.ended
            (round_served n turn m was new seats now.under_way judge _ round at.comes is.one.next_is is.under_way at.moved.under_way) of_one,
        left.broken,
        none,
      )

  served_by : (outcome : Option PeerEnd) (n : ℕ) (was : PeersNow A) (new : Slots A) (seats : Seats) (turn : Turn) (judge now : Judged D) → step_after outcome n ≡ Step.Served n
      → (on : GoesOn happened facts shows start sockets was browsers judge.store) → share ≡ has_share (moment start on.0).round → IsServingSo facts (Some steps) outcome share n (moment start on.0).round.clock was new seats turn judge now
      → IsOfOne now.store.hill.settings new now.under_way → GoesOn happened facts shows start sockets (fought_to new seats turn now.under_way was) browsers now.store
  served_by None n was new seats turn judge now sound on shared is of_one = answered_by n was new seats turn judge now on shared is of_one
  served_by (Some PeerEnd.Quit) n was new seats turn judge now sound on shared is of_one = stopped_by PeerEnd.Quit n was new seats turn judge now refl sound refl on shared is of_one
  served_by (Some PeerEnd.EndOfInput) n was new seats turn judge now sound on shared is of_one =
      absurd (there facts (ServedBy facts (Some steps) (Some PeerEnd.EndOfInput) n judge now) (seat_served (moment start on.0).round.clock) (moment start on.0) share n was.turn.submission was new seats turn judge
      on.1.standing is shared on.1.round).moved.serves.answers
  served_by (Some PeerEnd.Limit) n was new seats turn judge now sound on shared is of_one =
      absurd (there facts (ServedBy facts (Some steps) (Some PeerEnd.Limit) n judge now) (seat_served (moment start on.0).round.clock) (moment start on.0) share n was.turn.submission was new seats turn judge
      on.1.standing is shared on.1.round).moved.serves.answers
  served_by (Some PeerEnd.Unread) n was new seats turn judge now sound on shared is of_one = stopped_by PeerEnd.Unread n was new seats turn judge now refl sound refl on shared is of_one
  served_by (Some PeerEnd.StepsSpent) n was new seats turn judge now sound on shared is of_one = stopped_by PeerEnd.StepsSpent n was new seats turn judge now refl sound refl on shared is of_one
  served_by (Some PeerEnd.StoreFailed) n was new seats turn judge now sound on shared is of_one = absurd (cc)
  served_by (Some PeerEnd.Memory) n was new seats turn judge now sound on shared is of_one = stopped_by PeerEnd.Memory n was new seats turn judge now refl sound refl on shared is of_one

  serving : (outcome : Option PeerEnd) (n : ℕ) (was : PeersNow A) (new : Slots A) (seats : Seats) (turn : Turn) (judge now : Judged D) → was.under_way ≡ judge.under_way
      → (on : GoesOn happened facts shows start sockets was browsers judge.store)
      → ServesOne (ServedBy facts (Some steps) outcome n judge now) share n was.turn.submission was.slots was.turn judge new turn → SeatMoves (seat_served was.clock) n was.seats seats
      → IsServingSo facts (Some steps) outcome share n (moment start on.0).round.clock was new seats turn judge now
  serving outcome n was new seats turn judge now same on one serves =
      record { one = one; under_way = same; serves = subst (λ c. SeatMoves (seat_served c) n was.seats seats) (sym on.1.round.clock) serves }

  pub served : (n : ℕ) (was : PeersNow A) (new : Slots A) (seats : Seats) (turn : Turn) (judge now : Judged D) → was.under_way ≡ judge.under_way
      → ServesNext facts (Some steps) turns share (Step.Served n) was.slots was.turn judge new turn now → IsOfOne now.store.hill.settings new now.under_way
      → SeatMoves (seat_served was.clock) n was.seats seats → (on : GoesOn happened facts shows start sockets was browsers judge.store) → share ≡ has_share (moment start on.0).round
      → GoesOn happened facts shows start sockets (fought_to new seats turn now.under_way was) browsers now.store
  served n was new seats turn judge now same serves of_one seat on shared =
      served_by serves.0 n was new seats turn judge now serves.1 on shared (serving serves.0 n was new seats turn judge now same on serves.2 seat) of_one

  pub cut_off : (n : ℕ) (was : PeersNow A) (new : Slots A) (seats : Seats) (turn : Turn) (judge now : Judged D) → was.under_way ≡ judge.under_way
      → ServesNext facts (Some steps) turns share (Step.StoreFailed n) was.slots was.turn judge new turn now → IsOfOne now.store.hill.settings new now.under_way
      → SeatMoves (seat_served was.clock) n was.seats seats → (on : GoesOn happened facts shows start sockets was browsers judge.store) → share ≡ has_share (moment start on.0).round
      → IsCutOff happened facts shows start sockets (fought_to new seats turn now.under_way was) browsers now.store
  cut_off n was new seats turn judge now same serves of_one seat on shared =
      cut_by n was new seats turn judge now on shared (serving (Some PeerEnd.StoreFailed) n was new seats turn judge now same on serves seat) of_one

  -- a submission was begun, or fought on
  pub stepped : (n from : ℕ) (shares : Shares) (was : PeersNow A) (new : Slots A) (turn : Turn) (judge now : Judged D) → was.under_way ≡ judge.under_way → turns ≡ was.shares.turns
      → shares ≡ shares_stepped was.clock (was.clock - from) was.shares
      → ServesNext facts (Some steps) turns share (Step.Stepped n) was.slots was.turn judge new turn now → IsOfOne now.store.hill.settings new now.under_way
      → (on : GoesOn happened facts shows start sockets was browsers judge.store) → (moment start on.0).round.before ≡ from → share ≡ has_share (moment start on.0).round
      → GoesOn happened facts shows start sockets (shared_to shares (fought_to new was.seats turn now.under_way was)) browsers now.store
  stepped n from shares was new turn judge now same turns_is shares_are one of_one on began shared =
      let before = on.1 in
      let round = before.round in
      let m = moment start on.0 in
      let R : Peer A → Peer A → Type 0 = λ p q. IsStepped turns n p judge q now in
      let is : IsServing R (λ seat. seat) share n (n + 1) was new was.seats turn judge = record {
        one = one;
        under_way = same;
        serves = record { only = only_seats was.seats n; at = same_seat (seat_at was.seats n) };
      } in
      let at = there facts R (λ seat. seat) m share n (n + 1) was new was.seats turn judge before.standing is shared round in
      let step = at.moved in
      let source = kept_source at.peer.inbox.script.source in
      let fights : Fights n source step.submission m = record {
        turn = turn_by n m (command_of at.peer) (Command.Submit source) (sym (submit_due at.peer.inbox.due source step.submits)) at.turn;
        alone = ap (λ u. without n u) (round.under_way ∙ same) ∙ step.own;
        sound = on.2.open_now;
        assembled = subst (λ (s : Seen D). IsOfSource s.hill.settings source step.submission) (sym before.now_is) step.of_source;
        further =
            subst (λ (t : ℕ). GoesFurther t m.now.hill.settings m.round.under_way step.submission) (turns_is ∙ sym (ap (λ (x : Shares). x.turns) round.shares))
            (subst (λ (u : Option Fight). GoesFurther turns m.now.hill.settings u step.submission) (sym (round.under_way ∙ same))
            (subst (λ (s : Seen D). GoesFurther turns s.hill.settings judge.under_way step.submission) (sym before.now_is) step.further));
      } in (
        Happening.Stepped n source step.submission ∷ on.0,
        came_to_be before.logged (fights, before.follows)
            (stays_standing facts R (λ seat. seat) m share n (n + 1) was new was.seats turn judge before.standing is shared at (stepped_at turns n (m.sessions n) at.peer at.next at.seat judge now step at.stands))
            before.visiting (before.now_is ∙ sym step.store) (is.one.moves.only.size ∙ before.places) before.seats before.ended
            (record {
              clock = round.clock;
              read_at = round.read_at;
              turn = turn_on n (n + 1) m was.turn turn _ round.turn at.comes one.next_is;
              under_way = sym step.under_way;
              shares = ap (λ (c : ℕ). shares_stepped c (c - m.round.before) m.round.shares) round.clock
                  ∙ ap (λ (c : ℕ). shares_stepped was.clock (was.clock - c) m.round.shares) began
                  ∙ ap (λ (x : Shares). shares_stepped was.clock (was.clock - from) x) round.shares ∙ sym shares_are;
            }) of_one,
        safe_on on.2,
      )

  -- a source was put off
  pub put_off : (n : ℕ) (was : PeersNow A) (new : Slots A) (turn : Turn) (judge now : Judged D) → was.under_way ≡ judge.under_way
      → ServesNext facts (Some steps) turns share (Step.PutOff n) was.slots was.turn judge new turn now → IsOfOne now.store.hill.settings new now.under_way
      → (on : GoesOn happened facts shows start sockets was browsers judge.store) → share ≡ has_share (moment start on.0).round
      → GoesOn happened facts shows start sockets (fought_to new was.seats turn now.under_way was) browsers now.store
  put_off n was new turn judge now same one of_one on shared =
      let before = on.1 in
      let round = before.round in
      let m = moment start on.0 in
      let s = m.sessions n in
      let R : Peer A → Peer A → Type 0 = λ p q. IsPutOff n p judge q now in
      let is : IsServing R (λ seat. seat) share n was.turn.submission was new was.seats turn judge = record {
        one = one;
        under_way = same;
        serves = record { only = only_seats was.seats n; at = same_seat (seat_at was.seats n) };
      } in
      let at = there facts R (λ seat. seat) m share n was.turn.submission was new was.seats turn judge before.standing is shared round in
      let put = at.moved in
      let source = kept_source at.peer.inbox.script.source in
      let puts_off : PutsOff n source m = record {
        turn = turn_by n m (command_of at.peer) (Command.Submit source) (sym (submit_due at.peer.inbox.due source put.submits)) at.turn;
        beside = subst (λ (u : Option Fight). IsSome (without n u)) (sym (round.under_way ∙ same)) put.another;
        assembled = subst (λ (s : Seen D). Assembled s source) (sym before.now_is) put.assembled;
      } in (
        Happening.PutOff n source ∷ on.0,
        came_to_be before.logged (puts_off, before.follows)
            (after facts R (λ seat. seat) m share n was.turn.submission was new was.seats turn judge before.standing is shared (session_put_off s) at (put_off_at n s at.peer at.next at.seat judge now put at.stands))
            before.visiting (before.now_is ∙ sym (ap (λ (j : Judged D). j.store) put.same)) (is.one.moves.only.size ∙ before.places) before.seats before.ended
            (record {
              clock = round.clock;
              read_at = round.read_at;
              turn = turn_on_same n m was.turn turn _ round.turn at.comes one.next_is;
              under_way = round.under_way ∙ same ∙ sym (ap (λ (j : Judged D). j.under_way) put.same);
              shares = round.shares;
            }) of_one,
        safe_on on.2,
      )

  -- nothing was carried out
  unserved : (was : PeersNow A) (new : Slots A) (turn : Turn) (judge now : Judged D) (history : List (Happening D)) → was.under_way ≡ judge.under_way → new ≡ was.slots → turn ≡ was.turn → now ≡ judge
      → CameToBe happened facts shows start sockets was browsers judge.store history
      → CameToBe happened facts shows start sockets (fought_to new was.seats turn now.under_way was) browsers now.store history
  unserved was new turn judge now history way slots same judge_is before =
      let round = before.round in
      let ways : now.under_way ≡ was.under_way = ap (λ (j : Judged D). j.under_way) judge_is ∙ sym way in
      let of_was : IsOfOne judge.store.hill.settings new now.under_way =
      subst (λ (u : Option Fight). IsOfOne judge.store.hill.settings new u) (sym ways) (subst (λ (l : Slots A). IsOfOne judge.store.hill.settings l was.under_way) (sym slots) before.of_one) in
      came_to_be before.logged before.follows (subst (λ (l : Slots A). AreStanding (moment start history).sessions l was.seats) (sym slots) before.standing) before.visiting
      (before.now_is ∙ sym (ap (λ (j : Judged D). j.store) judge_is)) (ap length slots ∙ before.places) before.seats before.ended
      (record { clock = round.clock; read_at = round.read_at; turn = round.turn ∙ sym same; under_way = round.under_way ∙ sym ways; shares = round.shares })
      (subst (λ (j : Judged D). IsOfOne j.store.hill.settings new now.under_way) (sym judge_is) of_was)

  pub nobody : (was : PeersNow A) (new : Slots A) (turn : Turn) (judge now : Judged D) → was.under_way ≡ judge.under_way → ServesNext facts (Some steps) turns share Step.Nobody was.slots was.turn judge new turn now
      → GoesOn happened facts shows start sockets was browsers judge.store → GoesOn happened facts shows start sockets (fought_to new was.seats turn now.under_way was) browsers now.store
  nobody was new turn judge now same serves on = (on.0, unserved was new turn judge now on.0 same serves.1 serves.2 serves.3 on.1, on.2)

  -- a browser's request is due
  pub asked : (n : ℕ) (was : PeersNow A) (new : Slots A) (turn : Turn) (judge now : Judged D) → was.under_way ≡ judge.under_way
      → ServesNext facts (Some steps) turns share (Step.Asked n) was.slots was.turn judge new turn now → (on : GoesOn happened facts shows start sockets was browsers judge.store)
      → (then : GoesOn happened facts shows start sockets (fought_to new was.seats turn now.under_way was) browsers now.store)
      × MayDisconnect start.most n HowEnded.Browser (moment start then.0)
  asked n was new turn judge now same serves on = (
    (on.0, unserved was new turn judge now on.0 same serves.2 serves.3 serves.4 on.1, on.2),
    asks_at_turn (fighting judge.under_way) n (moment start on.0) (peer_at was.slots n) (seat_at was.seats n) (on.1.standing n) serves.0.due serves.1,
  )
    where
      asks_at_turn : (busy : Option ℕ) (n : ℕ) (m : Moment D) (slot : Option (Peer A)) (seat : Option Seat) → StandsAt (m.sessions n) slot seat → may_serve_in busy n slot ≡ true → asks_in slot ≡ true
          → MayDisconnect start.most n HowEnded.Browser m
      asks_at_turn busy n m None seat stands may is = absurd (true≢false (sym may))
      asks_at_turn busy n m (Some peer) seat stands may is = asks n m (Some peer) seat stands (may_serve_now busy n peer may).0 is
