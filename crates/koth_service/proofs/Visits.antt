-- How a history goes on by what happens with browsers.
use Rattle.std.proofs.Common.{◌≡◌, ◌∙◌, inl, inr, ◌<◌, ◌≤◌, length, ◌&&◌, ◌||◌, not, ℕ, Bool, true, false, true≢false, ap, List, [], ◌∷◌, ◌++◌, take, drop, Option, None, Some, refl, sym, subst, append_assoc, take-append-drop}
use Rattle.koth_seats.specs.Seats.{seat_at}
use Rattle.{sector_disk.specs.Facts.DeviceFacts, hill_store.specs.Seen.Seen, koth_service.specs.{Noted.{Adds, Noted, ReadsBrowser, Stays}, Answering.AnswersBytes}}
use Rattle.koth_service.specs.{Session.{Browser, browser_anew, browser_asks, browser_came, browser_replied, browser_went}, Moment.{Happening, Moment, Start, instead, moment, noted}, History.{MayReply, Replies, Shows, owed_by}}
use Rattle.koth_service.specs.{Rounds.{Shares, shares_shown}, Standing.{AreStanding, GoesOn, IsAtStage, IsRound, PeersNow, shown_to}}
use Rattle.{koth_http.specs.Asked.IsAsked, koth_session.specs.{Judge.fighting, Peers.peer_at}}
use Rattle.koth_service.specs.{Connections.{ClosesUnless, ComesTo, Connections, IsFree, MayShow, ShownOn, StaysAt, stage_at, stage_in}, declared.sockets.Came.Came, declared.connections.Connection.Connection}
use Rattle.koth_service.specs.declared.connections.Stage.{Stage}
use Rattle.koth_service.proofs.{Stages.{came_to_be, instead_kept, instead_twice, safe_on, stage_here, stages_over, stages_with}, Steps.stays, Turns.nobody_may}
use Rattle.koth_service.specs.declared.sockets.Came.TheVariants as came

-- ---- what happens with the connection of one number

module _ {S D A : Type 0} (happened : S → List Noted → Type 0) (facts : DeviceFacts D) (shows : Shows D) (start : Start D) (peers : PeersNow A)
    (browsers : ℕ → Option (Stage A)) (store : Seen D) (n : ℕ) where
  -- it is at this stage
  abbrev Is : S → Option (Stage A) → Type 0
  Is sockets stage = GoesOn happened facts shows start sockets peers (instead browsers n stage) store

  -- nothing happened
  pub still : (old new : S) (stage : Option (Stage A)) → Stays happened old new → Is old stage → Is new stage
  still old new stage same on = stays happened facts shows start (instead browsers n stage) old new peers store same on

  -- nothing more goes out to it
  pub over : (sockets : S) (stage : Stage A) → Is sockets (Some stage) → Is sockets (Some Stage.Parting)
  over sockets stage on =
      let before = on.1 in (
        on.0,
        came_to_be before.logged before.follows before.standing
            (stages_over (moment start on.0).browsers browsers n stage before.visiting) before.now_is before.places before.seats before.ended before.round before.of_one,
        on.2,
      )

  -- a browser came, and has this number now
  pub admitted : (old new : S) (since : ℕ) → n < start.slots → peers.clock ≡ since → Adds happened (Noted.Admitted n) old new → Is old None → Is new (Some (Stage.Asking [] since))
  admitted old new since within now adds on =
      let before = on.1 in
      let round = before.round in
      let m = moment start on.0 in
      let b = browser_anew true m.round.clock in (
        Happening.On (Noted.Admitted n) ∷ on.0,
        came_to_be (adds (noted on.0) before.logged) ((stage_here m.browsers browsers n None before.visiting, within), before.follows) before.standing
            (stages_with m.browsers browsers n b None (Some (Stage.Asking [] since)) (ap (λ (c : ℕ). browser_anew true c) (round.clock ∙ now), inl refl) before.visiting)
            before.now_is before.places before.seats before.ended
            (record { clock = round.clock; read_at = round.read_at; turn = round.turn; under_way = round.under_way; shares = round.shares }) before.of_one,
        safe_on on.2,
      )

  -- bytes of it came, and it is at this stage then
  pub requested : (old new : S) (visit bytes : List ℕ) (since : ℕ) (stage : Stage A) → Adds happened (Noted.Requested n bytes) old new
      → ((b : Browser) → b ≡ browser_asks (visit ++ bytes) since → IsAtStage b (Some stage))
      → Is old (Some (Stage.Asking visit since)) → Is new (Some stage)
  requested old new visit bytes since stage adds becomes on =
      let before = on.1 in
      let m = moment start on.0 in
      let b = browser_came bytes (m.browsers n) in
      let here = stage_here m.browsers browsers n (Some (Stage.Asking visit since)) before.visiting in (
        Happening.On (Noted.Requested n bytes) ∷ on.0,
        came_to_be (adds (noted on.0) before.logged) (tt, before.follows) before.standing
            (stages_with m.browsers browsers n b (Some (Stage.Asking visit since)) (Some stage) (becomes b (ap (λ (x : Browser). browser_came bytes x) here.0)) before.visiting)
            before.now_is before.places before.seats before.ended before.round before.of_one,
        safe_on on.2,
      )

  -- bytes of it came that are thrown away
  pub wasted : (old new : S) (bytes : List ℕ) → Adds happened (Noted.Requested n bytes) old new → Is old (Some Stage.Parting) → Is new (Some Stage.Parting)
  wasted old new bytes adds on =
      let before = on.1 in
      let m = moment start on.0 in
      let b = browser_came bytes (m.browsers n) in
      let here = stage_here m.browsers browsers n (Some Stage.Parting) before.visiting in (
        Happening.On (Noted.Requested n bytes) ∷ on.0,
        came_to_be (adds (noted on.0) before.logged) (tt, before.follows) before.standing
            (stages_with m.browsers browsers n b (Some Stage.Parting) (Some Stage.Parting) here before.visiting) before.now_is before.places before.seats before.ended before.round before.of_one,
        safe_on on.2,
      )

  -- browsers have their share
  may_reply : (m : Moment D) → AreStanding m.sessions peers.slots peers.seats → IsRound m.round peers → MayShow peers → MayReply m
  may_reply m standing round may = (
    ap (λ (x : Shares). x.shown) round.shares ∙ may.0,
    elim may.1 [
      | inl over ↦ inl (subst (λ (x : Shares). x.shown_until ≤ m.round.clock) (sym round.shares) (subst (λ (c : ℕ). peers.shares.shown_until ≤ c) (sym round.clock) over))
      | inr idle ↦ inr (λ p may. nobody_may (fighting peers.under_way) m p (peer_at peers.slots p) (seat_at peers.seats p) (standing p) (ap fighting round.under_way) (idle p) may)
    ],
  )

  -- a browser was answered since the time was told last
  abbrev IsShown : S → Option (Stage A) → Type 0
  IsShown sockets stage = GoesOn happened facts shows start sockets (shown_to true peers) (instead browsers n stage) store

  -- it was answered
  pub replied : (sockets : S) (visit reply : List ℕ) → MayShow peers → AnswersBytes (shows store) visit reply → Is sockets (Some (Stage.Asked visit))
      → IsShown sockets (Some (Stage.Answering reply))
  replied sockets visit reply may answers on =
      let before = on.1 in
      let round = before.round in
      let m = moment start on.0 in
      let b = browser_replied reply (m.browsers n) in
      let here = (stage_here m.browsers browsers n (Some (Stage.Asked visit)) before.visiting).1 in
      let came : (m.browsers n).came ≡ visit = ap (λ (x : Browser). x.came) here in
      let of_store : AnswersBytes (shows m.now) visit reply = subst (λ (s : Seen D). AnswersBytes (shows s) visit reply) (sym before.now_is) answers in
      let replies : Replies shows n reply m = record {
        there = ap (λ (x : Browser). x.there) here;
        first = ap (λ (x : Browser). x.reply) here;
        sound = on.2.open_now;
        as_asked = subst (λ (l : List ℕ). AnswersBytes (shows m.now) l reply) (sym came) of_store;
        share = may_reply m before.standing round may;
      } in (
        Happening.Replied n reply ∷ on.0,
        came_to_be before.logged (replies, before.follows) before.standing
            (stages_with m.browsers browsers n b (Some (Stage.Asked visit)) (Some (Stage.Answering reply)) (ap (λ (x : Browser). x.there) here, ap (λ (x : Browser). x.went ++ reply) here)
            before.visiting)
            before.now_is before.places before.seats before.ended
            (record { clock = round.clock; read_at = round.read_at; turn = round.turn; under_way = round.under_way; shares = ap shares_shown round.shares }) before.of_one,
        safe_on on.2,
      )

  -- some of its answer went out
  pub shown : (old new : S) (count : ℕ) (unsent : List ℕ) → Adds happened (Noted.Shown n (take count unsent)) old new
      → Is old (Some (Stage.Answering unsent)) → Is new (Some (Stage.Answering (drop count unsent)))
  shown old new count unsent adds on =
      let before = on.1 in
      let m = moment start on.0 in
      let now = m.browsers n in
      let b = browser_went (take count unsent) now in
      let here = stage_here m.browsers browsers n (Some (Stage.Answering unsent)) before.visiting in
      let all : (now.went ++ take count unsent) ++ drop count unsent ≡ owed_by now.reply =
      append_assoc now.went (take count unsent) (drop count unsent) ∙ ap (λ l. now.went ++ l) (take-append-drop count unsent) ∙ here.1 in (
        Happening.On (Noted.Shown n (take count unsent)) ∷ on.0,
        came_to_be (adds (noted on.0) before.logged) ((drop count unsent, sym all), before.follows) before.standing
            (stages_with m.browsers browsers n b (Some (Stage.Answering unsent)) (Some (Stage.Answering (drop count unsent))) (here.0, all) before.visiting) before.now_is before.places before.seats before.ended before.round before.of_one,
        safe_on on.2,
      )

  -- its socket was closed
  pub left : (old new : S) (stage : Option (Stage A)) → Adds happened (Noted.Left n) old new → Is old stage → Is new None
  left old new stage adds on =
      let before = on.1 in
      let m = moment start on.0 in
      let b = browser_anew false m.round.clock in (
        Happening.On (Noted.Left n) ∷ on.0,
        came_to_be (adds (noted on.0) before.logged) (tt, before.follows) before.standing
            (stages_with m.browsers browsers n b stage None refl before.visiting) before.now_is before.places before.seats before.ended before.round before.of_one,
        safe_on on.2,
      )

  -- ---- what a call of a connection's function makes of it

  -- the request isn't whole yet
  pub read_on : (old new : S) (visit bytes more : List ℕ) (since : ℕ) → Adds happened (Noted.Requested n bytes) old new → more ≡ visit ++ bytes → IsAsked [] more None
      → Is old (Some (Stage.Asking visit since)) → Is new (Some (Stage.Asking more since))
  read_on old new visit bytes more since adds is opens on =
      requested old new visit bytes since (Stage.Asking more since) adds (λ b asks. (asks ∙ ap (λ (l : List ℕ). browser_asks l since) (sym is), inr opens)) on

  -- it is
  pub read_whole : (old new : S) (visit bytes more : List ℕ) (since : ℕ) → Adds happened (Noted.Requested n bytes) old new → more ≡ visit ++ bytes
      → Is old (Some (Stage.Asking visit since)) → Is new (Some (Stage.Asked more))
  read_whole old new visit bytes more since adds is on =
      requested old new visit bytes since (Stage.Asked more) adds (λ b asks. (since, asks ∙ ap (λ (l : List ℕ). browser_asks l since) (sym is))) on

  pub answered : (sockets : S) (visit reply unsent : List ℕ) → MayShow peers → AnswersBytes (shows store) visit reply → unsent ≡ reply → Is sockets (Some (Stage.Asked visit))
      → IsShown sockets (Some (Stage.Answering unsent))
  answered sockets visit reply unsent may answers same on =
      subst (λ (l : List ℕ). IsShown sockets (Some (Stage.Answering l))) (sym same) (replied sockets visit reply may answers on)

  pub written_on : (old new : S) (count : ℕ) (unsent bytes rest : List ℕ) → Adds happened (Noted.Shown n (take count bytes)) old new → bytes ≡ unsent
      → rest ≡ drop count unsent → Is old (Some (Stage.Answering unsent)) → Is new (Some (Stage.Answering rest))
  written_on old new count unsent bytes rest adds is left on =
      subst (λ (l : List ℕ). Is new (Some (Stage.Answering l))) (sym left)
      (shown old new count unsent (subst (λ (l : List ℕ). Adds happened (Noted.Shown n (take count l)) old new) is adds) on)

  pub drained : (old new : S) (bytes : List ℕ) (came : Came) → ReadsBrowser happened n old bytes came new → Is old (Some Stage.Parting)
      → Is new (Some Stage.Parting)
  drained old new bytes (came.Bytes count) reads on = wasted old new (take count bytes) reads.1 on
  drained old new bytes came.End reads on = still old new (Some Stage.Parting) reads on
  drained old new bytes came.Nothing reads on = still old new (Some Stage.Parting) reads on
  drained old new bytes came.Gone reads on = still old new (Some Stage.Parting) reads on

  -- it was kept at its stage, or its socket was closed
  pub settled : (old new : S) (stage : Stage A) (kept : Option (Connection A)) → StaysAt stage kept → ClosesUnless happened n kept old new
      → Is old (Some stage) → Is new (stage_in kept)
  settled old new stage None is closes on = left old new (Some stage) closes on
  settled old new stage (Some connection) is same on =
      still old new (Some connection.stage) same (subst (λ (s : Stage A). Is old (Some s)) (sym is) on)

-- ---- what happens with the connections by their numbers

module _ {S D A : Type 0} (happened : S → List Noted → Type 0) (facts : DeviceFacts D) (shows : Shows D) (start : Start D) (peers : PeersNow A) (store : Seen D) where
  -- the same stages
  pub same_stages : (sockets : S) (old new : ℕ → Option (Stage A)) → ((p : ℕ) → new p ≡ old p)
      → GoesOn happened facts shows start sockets peers old store → GoesOn happened facts shows start sockets peers new store
  same_stages sockets old new is on =
      let before = on.1 in
      let m = moment start on.0 in (
        on.0,
        came_to_be before.logged before.follows before.standing
            (λ p. subst (λ (stage : Option (Stage A)). IsAtStage (m.browsers p) stage) (sym (is p)) (before.visiting p)) before.now_is before.places before.seats before.ended before.round before.of_one,
        on.2,
      )

  -- a browser waits for a number, or none does, or its connection was closed
  pub called : (browsers : ℕ → Option (Stage A)) (old new : S) → Adds happened Noted.Called old new → GoesOn happened facts shows start old peers browsers store
      → (on : GoesOn happened facts shows start new peers browsers store) × ((moment start on.0).round.calls ≡ true)
  called browsers old new adds on =
      let before = on.1 in
      let round = before.round in (
        (
          Happening.On Noted.Called ∷ on.0,
          came_to_be (adds (noted on.0) before.logged) (tt, before.follows) before.standing before.visiting before.now_is before.places before.seats before.ended
              (record { clock = round.clock; read_at = round.read_at; turn = round.turn; under_way = round.under_way; shares = round.shares }) before.of_one,
          safe_on on.2,
        ),
        refl,
      )

  pub uncalled : (browsers : ℕ → Option (Stage A)) (old new : S) → Adds happened Noted.Uncalled old new → GoesOn happened facts shows start old peers browsers store
      → GoesOn happened facts shows start new peers browsers store
  uncalled browsers old new adds on =
      let before = on.1 in (
        Happening.On Noted.Uncalled ∷ on.0,
        came_to_be (adds (noted on.0) before.logged) (tt, before.follows) before.standing before.visiting before.now_is before.places before.seats before.ended before.round before.of_one,
        safe_on on.2,
      )

  pub turned_away : (browsers : ℕ → Option (Stage A)) (old new : S) → Adds happened Noted.TurnedAway old new → GoesOn happened facts shows start old peers browsers store
      → GoesOn happened facts shows start new peers browsers store
  turned_away browsers old new adds on =
      let before = on.1 in
      let round = before.round in (
        Happening.On Noted.TurnedAway ∷ on.0,
        came_to_be (adds (noted on.0) before.logged) (tt, before.follows) before.standing before.visiting before.now_is before.places before.seats before.ended
            (record { clock = round.clock; read_at = round.read_at; turn = round.turn; under_way = round.under_way; shares = round.shares }) before.of_one,
        safe_on on.2,
      )

  -- a browser came to a number that was free
  pub taken_in : (now : ℕ) (old_sockets then_sockets sockets : S) (n : ℕ) (old new : Connections A) (kept : Option (Connection A)) → start.slots ≡ length old → peers.clock ≡ now → IsFree old n
      → Adds happened (Noted.Admitted n) old_sockets then_sockets → StaysAt (Stage.Asking [] now) kept → ClosesUnless happened n kept then_sockets sockets
      → ComesTo n (stage_in kept) old new → GoesOn happened facts shows start old_sockets peers (stage_at old) store
      → GoesOn happened facts shows start sockets peers (stage_at new) store
  taken_in now old_sockets then_sockets sockets n old new kept slots clock free adds is closes comes on =
      same_stages sockets (instead (stage_at old) n (stage_in kept)) (stage_at new) comes.stages
      (settled happened facts shows start peers (stage_at old) store n then_sockets sockets (Stage.Asking [] now) kept is closes
      (admitted happened facts shows start peers (stage_at old) store n old_sockets then_sockets now (subst (λ (k : ℕ). n < k) (sym slots) free.0) clock adds
      (same_stages old_sockets (stage_at old) (instead (stage_at old) n None) (instead_kept (stage_at old) n None free.1) on)))

module _ {S D A : Type 0} (happened : S → List Noted → Type 0) (facts : DeviceFacts D) (shows : Shows D) (start : Start D) (peers : PeersNow A) (store : Seen D) where
  -- a connection was moved on
  pub moved_on : (may answered : Bool) (old_sockets then_sockets sockets : S) (n : ℕ) (old taken new : Connections A) (stage after : Stage A) (kept : Option (Connection A))
      → stage_at old n ≡ Some stage → ComesTo n None old taken → ShownOn happened facts shows store may n old_sockets (Some stage) answered then_sockets (Some after)
      → StaysAt after kept → ClosesUnless happened n kept then_sockets sockets → ComesTo n (stage_in kept) taken new → (may ≡ true → MayShow peers)
      → GoesOn happened facts shows start old_sockets peers (stage_at old) store → GoesOn happened facts shows start sockets (shown_to answered peers) (stage_at new) store
  moved_on may answered old_sockets then_sockets sockets n old taken new stage after kept is takes moves keeps closes comes share on =
      same_stages happened facts shows start (shown_to answered peers) store sockets (instead (stage_at old) n (stage_in kept)) (stage_at new)
      (λ p. comes.stages p ∙ instead_twice (stage_at old) n (stage_at taken) None (stage_in kept) takes.stages p)
      (settled happened facts shows start (shown_to answered peers) (stage_at old) store n then_sockets sockets after kept keeps closes
      (moves start peers (stage_at old) share
      (same_stages happened facts shows start peers store old_sockets (stage_at old) (instead (stage_at old) n (Some stage)) (instead_kept (stage_at old) n (Some stage) is) on)))

  -- no browser was answered
  pub unshown : (answered : Bool) (sockets : S) (browsers : ℕ → Option (Stage A)) → answered ≡ false → GoesOn happened facts shows start sockets peers browsers store
      → GoesOn happened facts shows start sockets (shown_to answered peers) browsers store
  unshown answered sockets browsers none on = subst (λ (b : Bool). GoesOn happened facts shows start sockets (shown_to b peers) browsers store) (sym none) on

module _ {A : Type 0} where
  -- one may be answered only if none was
  pub may_still : (may was : Bool) (peers : PeersNow A) → (may ≡ true → MayShow peers) → (may && not was) ≡ true → MayShow (shown_to was peers)
  may_still true false peers may is = may refl
  may_still true true peers may is = absurd (true≢false (sym is))
  may_still false was peers may is = absurd (true≢false (sym is))

  pub shown_twice : (was more : Bool) (peers : PeersNow A) → shown_to more (shown_to was peers) ≡ shown_to (was || more) peers
  shown_twice false more peers = refl
  shown_twice true false peers = refl
  shown_twice true true peers = refl
