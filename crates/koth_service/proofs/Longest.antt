-- A place that is given to another.
use Rattle.std.proofs.Common.{◌≡◌, ◌⊎◌, inl, inr, ℕ, ◌+◌, ◌<◌, ◌≤◌, arith, nat_le, Bool, true, true≢false, false, if◌then◌else◌, length, Option, None, Some, IsSome, is_some, List, refl, sym, ap, subst, ◌∙◌}
use Rattle.{std.proofs.lemmas.{Bool.{cases_eq, cases_lt, leb-false, leb-true}, List.get_or_past}, sector_disk.specs.Facts.DeviceFacts, hill_store.specs.Seen.Seen}
use Rattle.koth_session.specs.{Peers.peer_at, declared.peer.Peer.Peer}
use Rattle.koth_seats.specs.{Seats.{seat_at, longer}, declared.seats.Seat.Seat}
use Rattle.koth_service.specs.{Noted.Noted, Session.Session, Moment.{Start, moment}, History.{IsDisplaced, MayDisconnect, Shows}}
use Rattle.koth_service.specs.{Places.{AreTaken, IsLongest, IsLongestUpTo, MayLeave, MayLeaveSince}, Standing.{GoesOn, StandsAt, peers_of}}
use Rattle.koth_service.specs.declared.{connections.Stage.Stage, desk.Desk.Desk, host.HowEnded.HowEnded}
use Rattle.koth_service.proofs.Causes.{may_be, may_leave}

-- of the numbers up to this one
at_last : (below p : ℕ) → p < below + 1 → (p < below) ⊎ (p ≡ below)
at_last below p less = elim (cases_eq p below) [ inl here ↦ inr here | inr other ↦ inl (omega (arith, less, other)) ]

-- ---- the search

module _ (May : ℕ → ℕ → Type 0) where
  pub none_yet : IsLongestUpTo May 0 None
  none_yet = λ p since less may. omega (arith, less)

  -- one that may not lose its place
  pub stays_longest : (below : ℕ) (longest : Option (ℕ × ℕ)) → ((since : ℕ) → May below since → ⊥) → IsLongestUpTo May below longest → IsLongestUpTo May (below + 1) longest
  stays_longest below None never is = λ p since less may.
      elim (at_last below p less) [ inl before ↦ is p since before may | inr last ↦ never since (subst (λ q. May q since) last may) ]
  stays_longest below (Some (n, long)) never is = (
    is.0,
    λ p since less may.
        elim (at_last below p less) [ inl before ↦ is.1 p since before may | inr last ↦ absurd (never since (subst (λ q. May q since) last may)) ],
  )

  -- one that may, of which no use was made since then
  here_longest : (below long since : ℕ) → ((other : ℕ) → May below other → other ≡ since) → long ≤ since → ((p other : ℕ) → p < below → May p other → long ≤ other)
      → (p other : ℕ) → p < below + 1 → May p other → long ≤ other
  here_longest below long since only more earlier p other less may =
      elim (at_last below p less) [
        | inl before ↦ earlier p other before may
        | inr last ↦ subst (λ k. long ≤ k) (sym (only other (subst (λ q. May q other) last may))) more
      ]

  pub longer_longest : (below since : ℕ) (longest : Option (ℕ × ℕ)) → May below since → ((other : ℕ) → May below other → other ≡ since) → IsLongestUpTo May below longest
      → IsLongestUpTo May (below + 1) (longer longest below since)
  longer_longest below since None may only is =
      (may, here_longest below since since only (omega arith) (λ p other less at. absurd (is p other less at)))
  longer_longest below since (Some (n, long)) may only is = at (nat_le long since) refl
    where
      at : (b : Bool) → nat_le long since ≡ b → IsLongestUpTo May (below + 1) (if b then Some (n, long) else Some (below, since))
      at true less = (is.0, here_longest below long since only (leb-true long since less) is.1)
      at false less =
          let more = leb-false long since less in (
            may,
            here_longest below since since only (omega arith) (λ p other before at. let far : long ≤ other = is.1 p other before at in omega (arith, more, far)),
          )

  -- of all that may
  pub is_longest : (below n since : ℕ) → ((p other : ℕ) → May p other → p < below) → IsLongestUpTo May below (Some (n, since)) → IsLongest May n
  is_longest below n since within is = record { since = since; may = is.0; longest = λ p other may. is.1 p other (within p other may) may }

same_some : (a b : Seat) → Some a ≡ Some b → a ≡ b
same_some a b is = cc

seat_of : (o : Option Seat) → IsSome o → (seat : Seat) × (o ≡ Some seat)
seat_of None is = absurd (true≢false (sym is))
seat_of (Some seat) is = (seat, refl)

-- the same of all numbers below a length
pub full_to : {T : Type 0} (at : ℕ → Option T) (below : ℕ) (value : T) → at below ≡ Some value → ((p : ℕ) → p < below → IsSome (at p)) → (p : ℕ) → p < below + 1 → IsSome (at p)
full_to at below value here full p less = elim (at_last below p less) [ inl before ↦ full p before | inr last ↦ ap is_some (ap at last ∙ here) ]

-- ---- the search among peers

module _ {D A : Type 0} (desk : Desk D A) where
  pub never_since : (n : ℕ) (seat : Seat) → seat_at desk.seats.seats.items n ≡ Some seat → (MayLeave n seat desk → ⊥) → (since : ℕ) → MayLeaveSince desk n since → ⊥
  never_since n seat here never since may = never (subst (λ (s : Seat). MayLeave n s desk) (same_some may.0 seat (sym may.1 ∙ here)) may.2)

  pub only_since : (n : ℕ) (seat : Seat) → seat_at desk.seats.seats.items n ≡ Some seat → (since : ℕ) → MayLeaveSince desk n since → since ≡ seat.useful
  only_since n seat here since may = may.3 ∙ ap (λ (s : Seat). s.useful) (same_some may.0 seat (sym may.1 ∙ here))

  pub within_seats : (p since : ℕ) → MayLeaveSince desk p since → p < length desk.seats.seats.items
  within_seats p since may =
      elim (cases_lt p (length desk.seats.seats.items)) [
        | inl less ↦ less
        | inr past ↦ absurd (true≢false (sym (ap is_some (sym (get_or_past desk.seats.seats.items p None past) ∙ may.1))))
      ]

-- ---- the cause

module _ {A : Type 0} where
  there_by_seat : (s : Session) (slot : Option (Peer A)) (seat : Option Seat) → IsSome seat → StandsAt s slot seat → s.there ≡ true
  there_by_seat s slot None is stands = absurd (true≢false (sym is))
  there_by_seat s None (Some seat) is stands = absurd stands
  there_by_seat s (Some peer) (Some seat) is stands = stands.0.there

  useful_is : (s : Session) (slot : Option (Peer A)) (seat : Seat) → StandsAt s slot (Some seat) → s.useful ≡ seat.useful
  useful_is s None seat stands = absurd stands
  useful_is s (Some peer) seat stands = stands.1.useful

module _ {S D A : Type 0} (happened : S → List Noted → Type 0) (facts : DeviceFacts D) (shows : Shows D) (start : Start D) (browsers : ℕ → Option (Stage A)) where
  pub displaced : (sockets : S) (desk : Desk D A) (store : Seen D) (n : ℕ) → AreTaken desk → IsLongest (MayLeaveSince desk) n → (on : GoesOn happened facts shows start sockets (peers_of desk) browsers store)
      → (moment start on.0).round.waits ≡ true
      → MayDisconnect start.most n HowEnded.Displaced (moment start on.0)
  displaced sockets desk store n taken long on waits =
      let before = on.1 in
      let m = moment start on.0 in
      let seats = desk.seats.seats.items in
      let slots = desk.peers.slots.items in
      let at : (p : ℕ) (seat : Seat) → seat_at seats p ≡ Some seat → StandsAt (m.sessions p) (peer_at slots p) (Some seat) =
      λ p seat here. subst (λ (o : Option Seat). StandsAt (m.sessions p) (peer_at slots p) o) here (before.standing p) in
      let full : (p : ℕ) → p < start.most → IsSome (seat_at seats p) = λ p less. taken p (subst (λ k. p < k) (sym before.seats) less) in
      let mine = long.may in
      let is : IsDisplaced start.most n m = record {
        full = λ p less. there_by_seat (m.sessions p) (peer_at slots p) (seat_at seats p) (full p less) (before.standing p);
        waits = waits;
        may = may_leave n desk.clock m (peer_at slots n) mine.0 (at n mine.0 mine.1) before.round.clock mine.2.due mine.2.finished mine.2.unused;
        longest = λ p less may.
            let other = seat_of (seat_at seats p) (full p less) in
            let stands = at p other.0 other.1 in
            let leaves = may_be p desk.clock m (peer_at slots p) other.0 stands before.round.clock may in
            let far : long.since ≤ other.0.useful = long.longest p other.0.useful (other.0, other.1, record { unused = leaves.0; due = leaves.1; finished = leaves.2 }, refl) in
            let own : (m.sessions n).useful ≡ long.since = useful_is (m.sessions n) (peer_at slots n) mine.0 (at n mine.0 mine.1) ∙ sym mine.3 in
            let its : (m.sessions p).useful ≡ other.0.useful = useful_is (m.sessions p) (peer_at slots p) other.0 stands in
            omega (arith, far, own, its);
      } in (is.may.there, is)
