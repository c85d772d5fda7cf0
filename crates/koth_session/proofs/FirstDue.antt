-- Whose turn it is, slot by slot.
use Rattle.std.proofs.Common.{◌≡◌, ◌∙◌, ◌⊎◌, ◌&&◌, Bool, ℕ, ◌+◌, ◌<◌, ◌≤◌, min, arith, true, false, true≢false, inl, inr, length, get_or, Option, None, Some, IsSome, MatchOption, is_some, refl, sym, subst}
use Rattle.std.proofs.{lemmas.Bool.{cases_eq, cases_lt}, lemmas.List.{get_or_past, get_or_read}}
use Rattle.koth_session.specs.Peers.{ComesBefore, IsAhead, IsFirstDue, IsFirstDueWithin, IsFirstFree, IsNext, NoneIsDueWithin, Slots, goes_first, goes_first_at, goes_first_in}
use Rattle.koth_session.specs.{Peers.{is_sought, is_sought_at, is_sought_in, may_serve_at, may_serve_in, peer_at}, declared.{peer.Peer.Peer, turns.Turn.Turn}}

module _ {A : Type 0} (first : Option Bool) (busy : Option ℕ) (slots : Slots A) where
  -- the turn may come to this slot
  pub due_here : (from to n : ℕ) (slot : Option (Peer A)) → from ≤ n → n < to → n < length slots → slot ≡ get_or slots n slot → is_sought_in first busy n slot ≡ true
      → NoneIsDueWithin first busy slots from n → IsFirstDueWithin first busy slots from to n
  due_here from to n slot above below within is due none = record {
    above = above;
    below = below;
    due = subst (λ s. is_sought_in first busy n s ≡ true) (get_or_read slots n slot within is None) due;
    before = none;
  }

  -- and it may not come to this one
  pub none_more : (from n : ℕ) (slot : Option (Peer A)) → n < length slots → slot ≡ get_or slots n slot → is_sought_in first busy n slot ≡ false
      → NoneIsDueWithin first busy slots from n → NoneIsDueWithin first busy slots from (n + 1)
  none_more from n slot within is due none = λ p above below.
      elim (cases_eq p n) [
        | inl here ↦ subst (λ q. is_sought_at first busy slots q ≡ false) (sym here) (subst (λ s. is_sought_in first busy n s ≡ false) (get_or_read slots n slot within is None) due)
        | inr other ↦ none p above (omega (arith, below, other))
      ]

  -- the turn goes on to the last slot
  pub first_after : (start n : ℕ) → IsFirstDueWithin first busy slots start (length slots) n → IsFirstDue first busy slots start n
  first_after start n f = record {
    within = f.below;
    due = f.due;
    before = λ p comes.
        elim comes [
          | inl (after, sooner) ↦ f.before p after sooner
          | inr (early, other) ↦ let above : start ≤ n = f.above in absurd (omega (arith, above, early))
        ];
  }

  -- it comes to none past the last slot
  none_after : (start : ℕ) → NoneIsDueWithin first busy slots start (length slots) → (p : ℕ) → start ≤ p → is_sought_at first busy slots p ≡ false
  none_after start none p after =
      elim (cases_lt p (length slots)) [
        | inl below ↦ none p after below
        | inr past ↦ subst (λ s. is_sought_in first busy p s ≡ false) (sym (get_or_past slots p None past)) refl
      ]

  -- and then round to where it began
  pub first_round : (start to : ℕ) (found : Option ℕ) → to ≡ min start (length slots) → NoneIsDueWithin first busy slots start (length slots)
      → MatchOption found (NoneIsDueWithin first busy slots 0 to) (IsFirstDueWithin first busy slots 0 to) → MatchOption found ((p : ℕ) → is_sought_at first busy slots p ≡ false) (IsFirstDue first busy slots start)
  first_round start to None is none rest = λ p.
      elim (cases_lt p to) [
        | inl below ↦ rest p (omega arith) below
        | inr after ↦ past p after
      ]
    where
      past : (p : ℕ) → to ≤ p → is_sought_at first busy slots p ≡ false
      past p after =
          elim (cases_lt p start) [
            | inl below ↦ subst (λ s. is_sought_in first busy p s ≡ false) (sym (get_or_past slots p None (omega (arith, is, after, below)))) refl
            | inr on ↦ none_after start none p on
          ]
  first_round start to (Some n) is none f = record {
    within = let below : n < to = f.below in omega (arith, is, below);
    due = f.due;
    before = λ p comes.
        elim comes [
          | inl (after, sooner) ↦ let below : n < to = f.below in absurd (omega (arith, is, below, after, sooner))
          | inr (early, other) ↦ elim other [ inl sooner ↦ f.before p (omega arith) sooner | inr after ↦ none_after start none p after ]
        ];
  }

-- ---- who is served next

one_of : (a b : Bool) → (a && b) ≡ true → a ≡ true
one_of true b is = refl
one_of false b is = is

not_one : (a b : Bool) → (a && b) ≡ false → b ≡ true → a ≡ false
not_one true true is first = is
not_one true false is first = absurd (true≢false (sym first))
not_one false b is first = refl

not_other : (a b : Bool) → (a && b) ≡ false → a ≡ true → b ≡ false
not_other true b is may = is
not_other false b is may = absurd (true≢false (sym may))

with_one : (a b : Bool) → a ≡ true → (a && b) ≡ b
with_one true b is = refl
with_one false b is = absurd (true≢false (sym is))

module _ {A : Type 0} (share : Bool) (busy : Option ℕ) where
  -- of one that may be served
  pub sought_first : (n : ℕ) (slot : Option (Peer A)) → may_serve_in busy n slot ≡ true → is_sought_in (Some share) busy n slot ≡ goes_first_in share busy n slot
  sought_first n None may = refl
  sought_first n (Some peer) may = with_one (may_serve_in busy n (Some peer)) (goes_first share busy n peer.waits) may

  may_of : (first : Option Bool) (n : ℕ) (slot : Option (Peer A)) → is_sought_in first busy n slot ≡ true → may_serve_in busy n slot ≡ true
  may_of first n None is = is
  may_of first n (Some peer) is = one_of (may_serve_in busy n (Some peer)) (is_sought first busy n peer.waits) is

  first_of : (n : ℕ) (slot : Option (Peer A)) → is_sought_in (Some share) busy n slot ≡ true → goes_first_in share busy n slot ≡ true
  first_of n slot is = sym (sought_first n slot (may_of (Some share) n slot is)) ∙ is

  never_first : (p : ℕ) (slot : Option (Peer A)) → is_sought_in (Some share) busy p slot ≡ false → goes_first_in share busy p slot ≡ true → may_serve_in busy p slot ≡ false
  never_first p None is first = refl
  never_first p (Some peer) is first = not_one (may_serve_in busy p (Some peer)) (goes_first share busy p peer.waits) is first

  never_at_all : (p : ℕ) (slot : Option (Peer A)) → is_sought_in None busy p slot ≡ false → may_serve_in busy p slot ≡ false
  never_at_all p None is = refl
  never_at_all p (Some peer) is = not_one (may_serve_in busy p (Some peer)) true is refl

  not_first : (n : ℕ) (slot : Option (Peer A)) → is_sought_in (Some share) busy n slot ≡ false → may_serve_in busy n slot ≡ true → goes_first_in share busy n slot ≡ false
  not_first n None is may = refl
  not_first n (Some peer) is may = not_other (may_serve_in busy n (Some peer)) (goes_first share busy n peer.waits) is may

module _ (turn : Turn) (p n : ℕ) where
  -- those before one that comes first
  ahead_of_first : (a b : Bool) → b ≡ true → IsAhead turn p a n b → (a ≡ true) × ComesBefore turn.submission p n
  ahead_of_first true true is ahead = (refl, ahead)
  ahead_of_first false true is ahead = absurd ahead
  ahead_of_first true false is ahead = absurd (true≢false (sym is))
  ahead_of_first false false is ahead = absurd (true≢false (sym is))

  -- and before another one
  ahead_of_other : (a b : Bool) → b ≡ false → IsAhead turn p a n b → (a ≡ true) ⊎ ComesBefore turn.command p n
  ahead_of_other true false is ahead = inl refl
  ahead_of_other false false is ahead = inr ahead
  ahead_of_other true true is ahead = absurd (true≢false is)
  ahead_of_other false true is ahead = absurd (true≢false is)

module _ {A : Type 0} (share : Bool) (busy : Option ℕ) (slots : Slots A) (turn : Turn) where
  -- one comes first
  pub next_first : (n : ℕ) → IsFirstDue (Some share) busy slots turn.submission n → IsNext share busy slots turn n
  next_first n f = record {
    within = f.within;
    due = may_of share busy (Some share) n (peer_at slots n) f.due;
    before = λ p ahead.
        let before = ahead_of_first turn p n (goes_first_at share busy slots p) (goes_first_at share busy slots n) (first_of share busy n (peer_at slots n) f.due) ahead in
        never_first share busy p (peer_at slots p) (f.before p before.1) before.0;
  }

  -- nobody does, and it is the turn of one, or of nobody
  pub next_in_turn : (found : Option ℕ) → ((p : ℕ) → is_sought_at (Some share) busy slots p ≡ false)
      → MatchOption found ((p : ℕ) → is_sought_at None busy slots p ≡ false) (IsFirstDue None busy slots turn.command)
      → MatchOption found ((p : ℕ) → may_serve_at busy slots p ≡ false) (IsNext share busy slots turn)
  next_in_turn None none is = λ p. never_at_all share busy p (peer_at slots p) (is p)
  next_in_turn (Some n) none f =
      let may = may_of share busy None n (peer_at slots n) f.due in record {
        within = f.within;
        due = may;
        before = λ p ahead.
            elim (ahead_of_other turn p n (goes_first_at share busy slots p) (goes_first_at share busy slots n) (not_first share busy n (peer_at slots n) (none n) may) ahead) [
              | inl first ↦ never_first share busy p (peer_at slots p) (none p) first
              | inr before ↦ never_at_all share busy p (peer_at slots p) (f.before p before)
            ];
      }

  -- whether one may be served at all
  pub nobody_may : ((p : ℕ) → is_sought_at None busy slots p ≡ false) → (p : ℕ) → may_serve_at busy slots p ≡ false
  nobody_may none p = never_at_all share busy p (peer_at slots p) (none p)

  pub one_may : (n : ℕ) → is_sought_at None busy slots n ≡ true → may_serve_at busy slots n ≡ true
  one_may n is = may_of share busy None n (peer_at slots n) is

module _ {A : Type 0} (slots : Slots A) where
  -- ---- which number is free

  pub free_here : (n : ℕ) (slot : Option (Peer A)) → n < length slots → slot ≡ get_or slots n slot → is_some slot ≡ false
      → ((p : ℕ) → p < n → IsSome (peer_at slots p)) → IsFirstFree slots n
  free_here n None within is free taken = record { within = within; free = sym (get_or_read slots n None within is None); before = taken }
  free_here n (Some peer) within is free taken = absurd (true≢false free)

  pub taken_more : (n : ℕ) (slot : Option (Peer A)) → n < length slots → slot ≡ get_or slots n slot → IsSome slot
      → ((p : ℕ) → p < n → IsSome (peer_at slots p)) → (p : ℕ) → p < n + 1 → IsSome (peer_at slots p)
  taken_more n slot within is there taken p below =
      elim (cases_eq p n) [
        | inl here ↦ subst (λ q. IsSome (peer_at slots q)) (sym here) (subst (λ s. IsSome s) (get_or_read slots n slot within is None) there)
        | inr other ↦ taken p (omega (arith, below, other))
      ]
