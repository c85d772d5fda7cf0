-- Nobody is silent for too long.
use Rattle.std.proofs.Common.{◌≡◌, ◌≢◌, inl, inr, ℕ, ◌+◌, ◌<◌, arith, length, Option, None, Some, refl, sym, subst}
use Rattle.{std.proofs.lemmas.{Bool.{cases_eq, cases_lt}, List.get_or_past}, koth_session.specs.{Peers.peer_at, declared.peer.Peer.Peer}}
use Rattle.koth_seats.specs.{Seats.seat_at, declared.seats.Seat.Seat}
use Rattle.koth_service.specs.Standing.{AreAwaited, AwaitedIn, IsAwaited, OthersStay}
use Rattle.koth_service.specs.declared.desk.Desk.{Desk}
use Rattle.koth_service.proofs.Moments.{only_seats, only_slots}

-- a number without a seat
pub none_awaited : {A : Type 0} (read_at : ℕ) (slot : Option (Peer A)) (seat : Option Seat) → seat ≡ None → AwaitedIn read_at slot seat
none_awaited read_at slot seat is = subst (λ (o : Option Seat). AwaitedIn read_at slot o) (sym is) tt

-- a seat for which this is so
pub some_awaited : {A : Type 0} (read_at : ℕ) (slot : Option (Peer A)) (seat : Option Seat) (one : Seat) → seat ≡ Some one → AwaitedIn read_at slot (Some one) → AwaitedIn read_at slot seat
some_awaited read_at slot seat one is awaited = subst (λ (o : Option Seat). AwaitedIn read_at slot o) (sym is) awaited

module _ {D A : Type 0} where
  pub others_stay : (desk : Desk D A) (n : ℕ) → OthersStay n desk desk
  others_stay desk n =
      record { slots = only_slots desk.peers.slots.items n; seats = only_seats desk.seats.seats.items n; clock = refl; read_at = refl }

  -- another peer moved
  other_awaited : (n p : ℕ) (old new : Desk D A) → p ≢ n → OthersStay n old new → IsAwaited p old → IsAwaited p new
  other_awaited n p old new other stay is =
      subst (λ r. AwaitedIn r (peer_at new.peers.slots.items p) (seat_at new.seats.seats.items p)) (sym stay.read_at)
      (subst (λ (o : Option Seat). AwaitedIn old.read_at (peer_at new.peers.slots.items p) o) (sym (stay.seats.others p other))
      (subst (λ (o : Option (Peer A)). AwaitedIn old.read_at o (seat_at old.seats.seats.items p)) (sym (stay.slots.others p other)) is))

  pub awaited_on : (n : ℕ) (old new : Desk D A) → OthersStay n old new → IsAwaited n new → ((p : ℕ) → p < n → IsAwaited p old) → (p : ℕ) → p < n + 1 → IsAwaited p new
  awaited_on n old new stay here earlier p less =
      elim (cases_eq p n) [
        | inl is ↦ subst (λ q. IsAwaited q new) (sym is) here
        | inr other ↦ other_awaited n p old new other stay (earlier p (omega (arith, less, other)))
      ]

  pub all_awaited : (n : ℕ) (desk : Desk D A) → n ≡ length desk.seats.seats.items → ((p : ℕ) → p < n → IsAwaited p desk) → AreAwaited desk
  all_awaited n desk all below = λ p.
      elim (cases_lt p n) [
        | inl less ↦ below p less
        | inr past ↦ none_awaited desk.read_at (peer_at desk.peers.slots.items p) (seat_at desk.seats.seats.items p)
            (get_or_past desk.seats.seats.items p None (omega (arith, all, past)))
      ]
