-- The slot of a browser that is given to another.
use Rattle.std.proofs.Common.{◌≡◌, ◌∙◌, inl, inr, ℕ, ◌+◌, ◌<◌, ◌≤◌, arith, length, true, true≢false, false, List, [], ◌∷◌, Option, None, Some, IsSome, is_some, ap, refl, sym, subst}
use Rattle.{std.proofs.lemmas.{Bool.cases_lt, List.get_or_past}, koth_http.specs.Asked.IsAsked, sector_disk.specs.Facts.DeviceFacts, hill_store.specs.Seen.Seen}
use Rattle.koth_seats.specs.{Seats.{IsUnused, has_some}, declared.times.TheConstants.{UNASKED, UNHEARD}}
use Rattle.koth_service.specs.{Noted.{Adds, Noted}, Session.{Browser, browser_anew}, Moment.{Happening, Start, instead, moment, noted}, History.{LosesSlot, Shows}}
use Rattle.koth_service.specs.{Places.{IsLongest, IsLongestUpTo}, Standing.{AreAtStages, GoesOn, IsAtStage, PeersNow}}
use Rattle.koth_service.specs.{Connections.{AreAllTaken, ComesTo, Connections, IsFree, LosesSlotAt, LosesSlotSince, MayGiveSlot, longer_if, stage_at, stage_in}, declared.connections.{Stage.Stage}}
use Rattle.koth_service.proofs.{Causes.none_came, Longest.{is_longest, longer_longest, stays_longest}, Moments.instead_same, Stages.{came_to_be, instead_kept, safe_on, stages_with, there_at_some}}

-- ---- the search among connections

module _ {A : Type 0} where
  abbrev asking : List ℕ → ℕ → Option (Stage A)
  asking visit since = Some (Stage.Asking visit since)

  abbrev asked : List ℕ → Option (Stage A)
  asked visit = Some (Stage.Asked visit)

  abbrev answering : List ℕ → Option (Stage A)
  answering unsent = Some (Stage.Answering unsent)

  abbrev parting : Option (Stage A)
  parting = Some Stage.Parting

  same_asking : (v w : List ℕ) (s t : ℕ) → asking v s ≡ asking w t → (v ≡ w) × (s ≡ t)
  same_asking v w s t is = (cc, cc)

  asking_or_asked : (v w : List ℕ) (s : ℕ) → asking v s ≡ asked w → ⊥
  asking_or_asked v w s is = cc

  asking_or_answering : (v w : List ℕ) (s : ℕ) → asking v s ≡ answering w → ⊥
  asking_or_answering v w s is = cc

  asking_or_parting : (v : List ℕ) (s : ℕ) → asking v s ≡ parting → ⊥
  asking_or_parting v s is = cc

  module _ (now : ℕ) (connections : Connections A) (n : ℕ) where
    never_at : (stage : Stage A) → stage_at connections n ≡ Some stage → LosesSlotSince now stage None → (since : ℕ) → LosesSlotAt now connections n since → ⊥
    never_at (Stage.Asking visit s) here never since may =
        let same = same_asking may.0 visit since s (sym may.1 ∙ here) in
        never (subst (λ t. IsUnused UNHEARD UNASKED now (has_some visit) t) same.1 (subst (λ v. IsUnused UNHEARD UNASKED now (has_some v) since) same.0 may.2))
    never_at (Stage.Asked visit) here never since may = asking_or_asked may.0 visit since (sym may.1 ∙ here)
    never_at (Stage.Answering unsent) here never since may = asking_or_answering may.0 unsent since (sym may.1 ∙ here)
    never_at Stage.Parting here never since may = asking_or_parting may.0 since (sym may.1 ∙ here)

    pub longer_at : (longest : Option (ℕ × ℕ)) (stage : Stage A) (since : Option ℕ) → stage_at connections n ≡ Some stage → LosesSlotSince now stage since
        → IsLongestUpTo (LosesSlotAt now connections) n longest → IsLongestUpTo (LosesSlotAt now connections) (n + 1) (longer_if longest n since)
    longer_at longest stage None here loses is = stays_longest (LosesSlotAt now connections) n longest (never_at stage here loses) is
    longer_at longest (Stage.Asking visit s) (Some since) here loses is =
        longer_longest (LosesSlotAt now connections) n since longest
        (visit, here ∙ ap (λ t. Some (Stage.Asking visit t)) (sym loses.0), subst (λ t. IsUnused UNHEARD UNASKED now (has_some visit) t) (sym loses.0) loses.1)
        (λ other may. (same_asking may.0 visit other s (sym may.1 ∙ here)).1 ∙ sym loses.0) is
    longer_at longest (Stage.Asked visit) (Some since) here loses is = absurd (cc)
    longer_at longest (Stage.Answering unsent) (Some since) here loses is = absurd (cc)
    longer_at longest Stage.Parting (Some since) here loses is = absurd (cc)

module _ {A : Type 0} (now : ℕ) (connections : Connections A) where
  within_slots : (p since : ℕ) → LosesSlotAt now connections p since → p < length connections
  within_slots p since may =
      elim (cases_lt p (length connections)) [
        | inl less ↦ less
        | inr past ↦ absurd (true≢false (sym (ap is_some (sym (ap stage_in (get_or_past connections p None past)) ∙ may.1))))
      ]

  -- at the end of the search
  pub given : (below n since : ℕ) → length connections ≤ below → ((p : ℕ) → p < below → IsSome (stage_at connections p)) → IsLongestUpTo (LosesSlotAt now connections) below (Some (n, since))
      → MayGiveSlot (Some n) now connections
  given below n since all full is = inr (
    λ p less. full p (omega (arith, all, less)),
    is_longest (LosesSlotAt now connections) below n since (λ p other may. let less = within_slots p other may in omega (arith, all, less)) is,
  )

  pub not_given : (below : ℕ) → length connections ≤ below → ((p : ℕ) → p < below → IsSome (stage_at connections p)) → IsLongestUpTo (LosesSlotAt now connections) below None
      → MayGiveSlot None now connections
  not_given below all full is = (
    λ p less. full p (omega (arith, all, less)),
    λ n since may. let less = within_slots n since may in is n since (omega (arith, all, less)) may,
  )

  -- a number that is given is free if no connection has it, and else that of the one that waited longest
  pub given_free : (n : ℕ) → stage_at connections n ≡ None → MayGiveSlot (Some n) now connections → n < length connections
  given_free n none (inl free) = free.0
  given_free n none (inr taken) = absurd (true≢false (sym (ap is_some (sym none ∙ taken.1.may.1))))

  pub given_taken : (n : ℕ) (stage : Stage A) → stage_at connections n ≡ Some stage → MayGiveSlot (Some n) now connections → AreAllTaken connections × IsLongest (LosesSlotAt now connections) n
  given_taken n stage here (inl free) = absurd (true≢false (sym (ap is_some (sym free.1 ∙ here))))
  given_taken n stage here (inr taken) = taken

-- ---- the history

module _ {S D A : Type 0} (happened : S → List Noted → Type 0) (facts : DeviceFacts D) (shows : Shows D) (start : Start D) (peers : PeersNow A) (store : Seen D) where
  pub displaced : (now : ℕ) (old_sockets sockets : S) (n : ℕ) (old taken : Connections A) → start.slots ≡ length old → peers.clock ≡ now → AreAllTaken old → IsLongest (LosesSlotAt now old) n
      → ComesTo n None old taken → Adds happened (Noted.Left n) old_sockets sockets → (on : GoesOn happened facts shows start old_sockets peers (stage_at old) store)
      → (moment start on.0).round.calls ≡ true → GoesOn happened facts shows start sockets peers (stage_at taken) store
  displaced now old_sockets sockets n old taken slots clock full long comes adds on waits =
      let before = on.1 in
      let m = moment start on.0 in
      let visit = long.may.0 in
      let since = long.since in
      let stage : Stage A = Stage.Asking visit since in
      let here = long.may.1 in
      let at : IsAtStage (m.browsers n) (Some stage) = subst (λ (s : Option (Stage A)). IsAtStage (m.browsers n) s) here (before.visiting n) in
      let came : (m.browsers n).came ≡ visit = ap (λ (b : Browser). b.came) at.0 in
      let time : m.round.clock ≡ now = before.round.clock ∙ clock in
      let begun : (m.browsers n).since ≡ since = ap (λ (b : Browser). b.since) at.0 in
      let loses : LosesSlot shows start.slots n m = record {
        full = λ p less. there_at_some (m.browsers p) (stage_at old p) (full p (subst (λ k. p < k) slots less)) (before.visiting p);
        waits = waits;
        may = record {
          there = ap (λ (b : Browser). b.there) at.0;
          first = ap (λ (b : Browser). b.reply) at.0;
          long = elim long.may.2 [
            | inl mute ↦ inl (came ∙ none_came visit mute.0, let far = mute.1 in omega (arith, far, time, begun))
            | inr late ↦
                elim at.1 [
                  | inl empty ↦ inl (came ∙ empty, omega (arith, late, time, begun))
                  | inr opens ↦ inr (subst (λ (l : List ℕ). IsAsked [] l None) (sym came) opens, omega (arith, late, time, begun))
                ]
          ];
        };
      } in
      let visiting : AreAtStages m.browsers (instead (stage_at old) n (Some stage)) = λ p. subst (λ (s : Option (Stage A)). IsAtStage (m.browsers p) s) (sym (instead_kept (stage_at old) n (Some stage) here p)) (before.visiting p) in
      let gone = stages_with m.browsers (stage_at old) n (browser_anew false m.round.clock) (Some stage) None refl visiting in (
        Happening.Displaced n ∷ on.0,
        came_to_be (adds (noted on.0) before.logged) (loses, before.follows) before.standing
            (λ p. subst (λ (s : Option (Stage A)). IsAtStage ((moment start (Happening.Displaced n ∷ on.0)).browsers p) s) (sym (comes.stages p)) (gone p))
            before.now_is before.places before.seats before.ended before.round before.of_one,
        safe_on on.2,
      )

-- a number that was taken from is free
pub freed : {A : Type 0} (n : ℕ) (old taken : Connections A) → n < length taken → ComesTo n None old taken → IsFree taken n
freed n old taken within comes = (within, comes.stages n ∙ instead_same (stage_at old) n None)
