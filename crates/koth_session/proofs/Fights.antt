-- A submission that is under way, and the peers beside it: for `Judge` and `serve_next`.
use Rattle.std.proofs.Common.{◌≡◌, ◌≢◌, ◌∙◌, inl, inr, ℕ, ◌==◌, ◌&&◌, Bool, true, false, true≢false, not, if◌then◌else◌, Option, None, Some, IsSome, is_some, Result, Ok, Err, IfOk, IfErr, refl, sym, ap, ap₂, subst}
use Rattle.std.proofs.lemmas.Bool.{cases_eq, Decides.eqb_tells}
use Rattle.{sector_disk.specs.Facts.DeviceFacts, war_types.specs.declared.settings.RawSettings.RawSettings, hill_store.specs.{Seen.{Assembled, Seen}, Submission.SubmissionParts}, koth_protocol.specs.Commands.kept_source}
use Rattle.koth_session.specs.{Inbox.{is_met, is_submission}, Judge.{AreSubmitting, Fight, IsOfSource, Judged, judged, without}, Peer.{Closes, IsStillDue, PutsOff, Sends, Serves, is_due, is_due_now, settled_now, submits_now}}
use Rattle.koth_session.specs.Peers.{IsOfIn, IsOfIts, IsOfOne, IsOfPeer, IsPutOff, IsServed, IsStepped, IsUnanswered, Moves, MovesAt, OnlyAt, Slots, is_beside, may_serve_in, peer_at}
use Rattle.{koth_session.specs.declared.{end.PeerEnd.PeerEnd, inbox.Inbox.Inbox, peer.{Peer.Peer, Unanswered.Unanswered}}, koth_session.proofs.Standing.{goes_on_still, is_met_then, still_due}}

-- ---- numbers and truth values

pub same_number : (n : ℕ) → (n == n) ≡ true
same_number n = elim (eqb_tells n n) [ inl same ↦ same.0 | inr differ ↦ absurd (differ.1 refl) ]

pub other_number : (n k : ℕ) → n ≢ k → (n == k) ≡ false
other_number n k other = elim (eqb_tells n k) [ inl same ↦ absurd (other same.1) | inr differ ↦ differ.0 ]

both : (a b : Bool) → (a && b) ≡ true → (a ≡ true) × (b ≡ true)
both true true is = (refl, refl)
both true false is = absurd (true≢false (sym is))
both false b is = absurd (true≢false (sym is))

-- ---- the submission that is under way

pub without_own : (n : ℕ) (submission : SubmissionParts) → without n (Some (n, submission)) ≡ None
without_own n submission = rw (same_number n) refl

pub without_other : (n k : ℕ) (submission : SubmissionParts) → n ≢ k → without n (Some (k, submission)) ≡ Some (k, submission)
without_other n k submission other = rw (other_number n k other) refl

pub still_submitting : {D : Type 0} (n : ℕ) (store : Seen D) (under_way : Option Fight) → AreSubmitting store under_way → AreSubmitting store (without n under_way)
still_submitting n store None are = tt
still_submitting {D} n store (Some (k, submission)) are = at (n == k)
  where
    at : (own : Bool) → AreSubmitting store (if own then None else Some (k, submission))
    at true = tt
    at false = are

-- whether that of another peer is
pub anothers : (n k : ℕ) (submission : SubmissionParts) → not (n == k) ≡ is_some (without n (Some (k, submission)))
anothers n k submission = at (n == k)
  where
    at : (own : Bool) → not own ≡ is_some {T = Fight} (if own then None else Some (k, submission))
    at true = refl
    at false = refl

pub without_another : (n : ℕ) (under_way : Option Fight) → is_some (without n under_way) ≡ true → under_way ≡ without n under_way
without_another n None is = refl
without_another n (Some (k, submission)) is =
    elim (cases_eq n k) [
      | inl same ↦ absurd (true≢false (sym is ∙ sym (anothers n k submission) ∙ ap (λ p. not (n == p)) (sym same) ∙ ap not (same_number n)))
      | inr other ↦ sym (without_other n k submission other)
    ]

pub none_without : (n : ℕ) (under_way : Option Fight) → is_some (without n under_way) ≡ false → without n under_way ≡ None
none_without n under_way is = none_in (without n under_way) is
  where
    none_in : (fight : Option Fight) → is_some fight ≡ false → fight ≡ None
    none_in None is = refl
    none_in (Some fight) is = absurd (true≢false is)

-- if that of no other peer is, it is that of this one
pub own_is : (n k : ℕ) (under_way : Option Fight) (submission : SubmissionParts) → under_way ≡ Some (k, submission)
    → is_some (without n under_way) ≡ false → under_way ≡ Some (n, submission)
own_is n k under_way submission is own =
    elim (cases_eq n k) [
      | inl same ↦ is ∙ ap (λ (p : ℕ). Some (p, submission)) (sym same)
      | inr other ↦ absurd (true≢false (ap is_some (sym (without_other n k submission other)) ∙ ap (λ (u : Option Fight). is_some (without n u)) (sym is) ∙ own))
    ]

-- a turn to a peer without a submission leaves what is under way
pub without_told : {D A : Type 0} (n : ℕ) (peer : Peer A) (store : Seen D) (under_way : Option Fight) → submits_now peer ≡ false → IsOfIts n peer (judged store under_way)
    → under_way ≡ without n under_way
without_told n peer store None tells its = refl
without_told n peer store (Some (k, submission)) tells its =
    elim (cases_eq n k) [
      | inl same ↦ let own = its submission (ap (λ (p : ℕ). Some (p, submission)) (sym same)) in absurd (true≢false (sym own.0 ∙ tells))
      | inr other ↦ sym (without_other n k submission other)
    ]

-- ---- peers by their numbers

module _ {A : Type 0} where
  pub may_serve_now : (busy : Option ℕ) (n : ℕ) (peer : Peer A) → may_serve_in busy n (Some peer) ≡ true → (is_due_now peer ≡ true) × (is_beside busy n peer.waits ≡ true)
  may_serve_now busy n peer may = both (is_due_now peer) (is_beside busy n peer.waits) may

  of_in_at : {D : Type 0} (n : ℕ) (slots : Slots A) (judge : Judged D) (slot : Option (Peer A)) → peer_at slots n ≡ slot
      → IsOfOne judge.store.hill.settings slots judge.under_way → IsOfIn n slot judge
  of_in_at n slots judge None is of = tt
  of_in_at n slots judge (Some peer) is of = λ submission same.
      let at : IsOfPeer judge.store.hill.settings (peer_at slots n) submission = subst (λ (u : Option Fight). IsOfOne judge.store.hill.settings slots u) same of in
      let here : IsOfPeer judge.store.hill.settings (Some peer) submission = subst (λ (s : Option (Peer A)). IsOfPeer judge.store.hill.settings s submission) is at in
      (here.1, here.2)

  -- of the peer whose turn it is
  pub of_in : {D : Type 0} (n : ℕ) (slots : Slots A) (judge : Judged D) → IsOfOne judge.store.hill.settings slots judge.under_way → IsOfIn n (peer_at slots n) judge
  of_in n slots judge of = of_in_at n slots judge (peer_at slots n) refl of

  -- a peer moved, and its own submission is not under way then
  pub of_others : (settings : RawSettings) (n : ℕ) (old new : Slots A) (under_way : Option Fight) → OnlyAt n old new → IsOfOne settings old under_way → IsOfOne settings new (without n under_way)
  of_others settings n old new None only of = tt
  of_others settings n old new (Some (k, submission)) only of =
      elim (cases_eq n k) [
        | inl same ↦ subst (λ (u : Option Fight). IsOfOne settings new u) (sym (ap (λ (p : ℕ). without n (Some (p, submission))) (sym same) ∙ without_own n submission)) tt
        | inr other ↦ subst (λ (u : Option Fight). IsOfOne settings new u) (sym (without_other n k submission other))
            (subst (λ (s : Option (Peer A)). IsOfPeer settings s submission) (sym (only.others k (λ is. other (sym is)))) of)
      ]

  -- a peer came under a number that was free
  pub of_new : (settings : RawSettings) (n : ℕ) (old new : Slots A) (under_way : Option Fight) → OnlyAt n old new → peer_at old n ≡ None → IsOfOne settings old under_way → IsOfOne settings new under_way
  of_new settings n old new None only free of = tt
  of_new settings n old new (Some (k, submission)) only free of =
      elim (cases_eq k n) [
        | inl same ↦ absurd (subst (λ (s : Option (Peer A)). IsOfPeer settings s submission) (ap (λ p. peer_at old p) same ∙ free) of)
        | inr other ↦ subst (λ (s : Option (Peer A)). IsOfPeer settings s submission) (sym (only.others k other)) of
      ]

  -- a peer moved, of which the same command is due
  pub of_moved : (R : Peer A → Peer A → Type 0) (settings : RawSettings) (n : ℕ) (old new : Slots A) (under_way : Option Fight)
      → ((p q : Peer A) → R p q → is_due_now p ≡ true → IsStillDue p q) → MovesAt R n old new → IsOfOne settings old under_way → IsOfOne settings new under_way
  of_moved R settings n old new None still moves of = tt
  of_moved R settings n old new (Some (k, submission)) still moves of =
      elim (cases_eq k n) [
        | inl same ↦ subst (λ (p : ℕ). IsOfPeer settings (peer_at new p) submission) (sym same)
            (moved_of (peer_at old n) (peer_at new n) moves.at (subst (λ (p : ℕ). IsOfPeer settings (peer_at old p) submission) same of))
        | inr other ↦ subst (λ (s : Option (Peer A)). IsOfPeer settings s submission) (sym (moves.only.others k other)) of
      ]
    where
      moved_of : (was now : Option (Peer A)) → Moves R was now → IsOfPeer settings was submission → IsOfPeer settings now submission
      moved_of None now moved is = absurd is
      moved_of (Some p) now moved is =
          let q = moved.0 in
          let due = still p q moved.2 is.0 in
          subst (λ (s : Option (Peer A)). IsOfPeer settings s submission) (sym moved.1)
          (due.due, ap is_submission due.met_is ∙ is.1, subst (λ l. IsOfSource settings (kept_source l) submission) (sym due.source) is.2)

  -- nothing of it changed but what was sent
  pub sends_still : (count : ℕ) (p q : Peer A) → Sends p count q → is_due_now p ≡ true → IsStillDue p q
  sends_still count p q sends due = record {
    due = ap₂ (λ (e : Option PeerEnd). λ (i : Inbox A). is_due e (is_met i.due)) sends.end sends.inbox ∙ due;
    met_is = ap (λ (i : Inbox A). i.due) sends.inbox;
    source = ap (λ (i : Inbox A). i.script.source) sends.inbox;
  }

  -- or that its source waits
  pub put_off_still : (p q : Peer A) → PutsOff p q → is_due_now p ≡ true → IsStillDue p q
  put_off_still p q puts due = record {
    due = ap₂ (λ (e : Option PeerEnd). λ (i : Inbox A). is_due e (is_met i.due)) puts.end puts.inbox ∙ due;
    met_is = ap (λ (i : Inbox A). i.due) puts.inbox;
    source = ap (λ (i : Inbox A). i.script.source) puts.inbox;
  }

  pub closes_still : (p q : Peer A) → Closes p q → is_due_now p ≡ true → IsStillDue p q
  closes_still p q closes due =
      let same = ap (λ (i : Inbox A). i.due) closes.inbox in
      still_due p q (ap is_met same ∙ is_met_then p.end (is_met p.inbox.due) due)
      (closes.end ∙ ap (λ e. settled_now e q) (goes_on_still p.end (is_met p.inbox.due) due)) same (ap (λ (i : Inbox A). i.script.source) closes.inbox)

-- ---- after a turn

module _ {D A : Type 0} (n : ℕ) (old : Slots A) (judge : Judged D) (new : Slots A) (now : Judged D) where
  kept_of : (under_way : Option Fight) → (IsSome under_way → now.store ≡ judge.store) → IsOfOne judge.store.hill.settings new under_way → IsOfOne now.store.hill.settings new under_way
  kept_of None same of = tt
  kept_of (Some fight) same of = subst (λ (s : Seen D). IsOfOne s.hill.settings new (Some fight)) (sym (same refl)) of

  served_at : (facts : DeviceFacts D) (steps : Option ℕ) (outcome : Option PeerEnd) (busy : Option ℕ) (slot : Option (Peer A)) → may_serve_in busy n slot ≡ true
      → Moves (λ p q. IsServed facts steps outcome n p judge q now) slot (peer_at new n) → OnlyAt n old new → IsOfOne judge.store.hill.settings old judge.under_way
      → IsOfOne now.store.hill.settings new now.under_way
  served_at facts steps outcome busy None may moved only of = absurd (true≢false (sym may))
  served_at facts steps outcome busy (Some peer) may moved only of =
      let is = moved.2 in
      subst (λ (u : Option Fight). IsOfOne now.store.hill.settings new u) (sym is.under_way)
      (kept_of (without n judge.under_way) (λ some. is.beside (subst (λ (u : Option Fight). IsSome u) (sym is.under_way) some))
      (of_others judge.store.hill.settings n old new judge.under_way only of))

  pub served_of : (facts : DeviceFacts D) (steps : Option ℕ) (outcome : Option PeerEnd) (busy : Option ℕ) → may_serve_in busy n (peer_at old n) ≡ true
      → MovesAt (λ p q. IsServed facts steps outcome n p judge q now) n old new → IsOfOne judge.store.hill.settings old judge.under_way
      → IsOfOne now.store.hill.settings new now.under_way
  served_of facts steps outcome busy may moves of = served_at facts steps outcome busy (peer_at old n) may moves.at moves.only of

  stepped_at : (turns : ℕ) (busy : Option ℕ) (slot : Option (Peer A)) → may_serve_in busy n slot ≡ true → Moves (λ p q. IsStepped turns n p judge q now) slot (peer_at new n)
      → IsOfOne now.store.hill.settings new now.under_way
  stepped_at turns busy None may moved = absurd (true≢false (sym may))
  stepped_at turns busy (Some peer) may moved =
      let is = moved.2 in
      let still = sends_still 0 peer moved.0 is.stays (may_serve_now busy n peer may).0 in
      subst (λ (u : Option Fight). IsOfOne now.store.hill.settings new u) (sym is.under_way)
      (subst (λ (s : Seen D). IsOfOne s.hill.settings new (Some (n, is.submission))) (sym is.store)
      (subst (λ (s : Option (Peer A)). IsOfPeer judge.store.hill.settings s is.submission) (sym moved.1)
      (still.due, ap is_submission still.met_is ∙ is.submits, subst (λ l. IsOfSource judge.store.hill.settings (kept_source l) is.submission) (sym still.source) is.of_source)))

  pub stepped_of : (turns : ℕ) (busy : Option ℕ) → may_serve_in busy n (peer_at old n) ≡ true → MovesAt (λ p q. IsStepped turns n p judge q now) n old new
      → IsOfOne now.store.hill.settings new now.under_way
  stepped_of turns busy may moves = stepped_at turns busy (peer_at old n) may moves.at

  put_off_at : (busy : Option ℕ) (slot : Option (Peer A)) → may_serve_in busy n slot ≡ true → Moves (λ p q. IsPutOff n p judge q now) slot (peer_at new n)
      → MovesAt (λ p q. IsPutOff n p judge q now) n old new → IsOfOne judge.store.hill.settings old judge.under_way → IsOfOne now.store.hill.settings new now.under_way
  put_off_at busy None may moved moves of = absurd (true≢false (sym may))
  put_off_at busy (Some peer) may moved moves of =
      let is = moved.2 in
      subst (λ (j : Judged D). IsOfOne j.store.hill.settings new j.under_way) (sym is.same)
      (of_moved (λ p q. IsPutOff n p judge q now) judge.store.hill.settings n old new judge.under_way (λ p q put due. put_off_still p q put.puts_off due) moves of)

  pub put_off_of : (busy : Option ℕ) → may_serve_in busy n (peer_at old n) ≡ true → MovesAt (λ p q. IsPutOff n p judge q now) n old new
      → IsOfOne judge.store.hill.settings old judge.under_way → IsOfOne now.store.hill.settings new now.under_way
  put_off_of busy may moves of = put_off_at busy (peer_at old n) may moves.at moves of

-- a source that is put off, and one that isn't
module _ {D A : Type 0} (facts : DeviceFacts D) (steps : Option ℕ) (n : ℕ) (peer next : Peer A) (store : Seen D) (under_way : Option Fight) where
  pub served_beside : (result : Result (Option PeerEnd) Unanswered) → is_some (without n under_way) ≡ true → IfOk result (λ outcome. Serves facts steps outcome peer store next store)
      → IfOk result (λ outcome. IsServed facts steps outcome n peer (judged store under_way) next (judged store under_way))
  served_beside (Ok outcome) another serves = record { serves = serves; under_way = without_another n under_way another; beside = λ some. refl }
  served_beside (Err why) another serves = tt

  pub put_off_beside : (turns : ℕ) (result : Result (Option PeerEnd) Unanswered) → submits_now peer ≡ true → is_some (without n under_way) ≡ true → IfErr result (λ why. why ≡ Unanswered.PutOff)
      → IfErr result (λ why. Assembled store (kept_source peer.inbox.script.source)) → IfErr result (λ why. PutsOff peer next)
      → IfErr result (λ why. IsUnanswered turns why n peer (judged store under_way) next (judged store under_way))
  put_off_beside turns (Ok outcome) submits another why assembled puts = tt
  put_off_beside turns (Err other) submits another why assembled puts =
      subst (λ (w : Unanswered). IsUnanswered turns w n peer (judged store under_way) next (judged store under_way)) (sym why)
      (record { submits = submits; another = another; assembled = assembled; puts_off = puts; same = refl })
