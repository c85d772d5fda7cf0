-- What one part of a moment makes of the others.
use Rattle.std.proofs.{Common.{◌≡◌, ◌∙◌, inl, inr, ℕ, ◌≤◌, ◌==◌, max, Bool, true, true≢false, false, if◌then◌else◌, length, List, [], Option, None, Some, IsSome, ap, refl, sym, subst}, lemmas.Bool.cases_eq}
use Rattle.sector_disk.specs.Facts.{DeviceFacts}
use Rattle.{hill_store.specs.Seen.Seen, koth_session.specs.Peers.IsOfOne, koth_session.proofs.{Exchanges.served_none, Holding.keeps_list}}
use Rattle.koth_service.specs.{Noted.Noted, Session.{Browser, Session}, Moment.{Happening, Moment, Start, ended_in, instead, moment, noted}, Rounds.{Round, Shares, shares_at}, History.{IsHistory, IsSafe, Shows}}
use Rattle.koth_service.specs.{Standing.{AreAtStages, AreStanding, CameToBe, IsAtStage, IsRound, PeersNow}, declared.connections.Stage.Stage}
use Rattle.koth_service.proofs.Moments.{instead_other, instead_same}

-- ---- a function that has another value at one place

module _ {T : Type 0} (f : ℕ → T) (n : ℕ) where
  -- that value was there before
  pub instead_kept : (value : T) → f n ≡ value → (p : ℕ) → instead f n value p ≡ f p
  instead_kept value is p =
      elim (cases_eq p n) [
        | inl here ↦ subst (λ (q : ℕ). instead f n value q ≡ f q) (sym here) (instead_same f n value ∙ sym is)
        | inr other ↦ instead_other f n value p other
      ]

  -- a value at one place, and then another one there
  pub instead_twice : (g : ℕ → T) (first value : T) → ((p : ℕ) → g p ≡ instead f n first p) → (p : ℕ) → instead g n value p ≡ instead f n value p
  instead_twice g first value is p =
      elim (cases_eq p n) [
        | inl here ↦ subst (λ (q : ℕ). instead g n value q ≡ instead f n value q) (sym here) (instead_same g n value ∙ sym (instead_same f n value))
        | inr other ↦ instead_other g n value p other ∙ is p ∙ instead_other f n first p other ∙ sym (instead_other f n value p other)
      ]

-- ---- one browser's part of a moment and its stage

module _ {A : Type 0} where
  stage_of_one : (here : Bool) (old new : Browser) (stage before after : Option (Stage A)) → IsAtStage old (if here then before else stage) → IsAtStage new after
      → IsAtStage (if here then new else old) (if here then after else stage)
  stage_of_one true old new stage before after is now = now
  stage_of_one false old new stage before after is now = is

  -- it is there
  pub there_of : (b : Browser) (stage : Stage A) → IsAtStage b (Some stage) → b.there ≡ true
  there_of b (Stage.Asking visit since) is = ap (λ (x : Browser). x.there) is.0
  there_of b (Stage.Asked visit) is = ap (λ (x : Browser). x.there) is.1
  there_of b (Stage.Answering unsent) is = is.0
  there_of b Stage.Parting is = is

  pub there_at_some : (b : Browser) (stage : Option (Stage A)) → IsSome stage → IsAtStage b stage → b.there ≡ true
  there_at_some b None some is = absurd (true≢false (sym some))
  there_at_some b (Some stage) some is = there_of b stage is

  parting_of_one : (here : Bool) (b : Browser) (stage : Option (Stage A)) (before : Stage A) → IsAtStage b (if here then Some before else stage)
      → IsAtStage b (if here then Some Stage.Parting else stage)
  parting_of_one true b stage before is = there_of b before is
  parting_of_one false b stage before is = is

module _ {A : Type 0} (visitors : ℕ → Browser) (browsers : ℕ → Option (Stage A)) (n : ℕ) where
  pub stage_here : (stage : Option (Stage A)) → AreAtStages visitors (instead browsers n stage) → IsAtStage (visitors n) stage
  stage_here stage are = subst (λ (s : Option (Stage A)). IsAtStage (visitors n) s) (instead_same browsers n stage) (are n)

  pub stages_with : (b : Browser) (before after : Option (Stage A)) → IsAtStage b after → AreAtStages visitors (instead browsers n before)
      → AreAtStages (instead visitors n b) (instead browsers n after)
  stages_with b before after is are = λ p. stage_of_one (p == n) (visitors p) b (browsers p) before after (are p) is

  pub stages_over : (before : Stage A) → AreAtStages visitors (instead browsers n (Some before)) → AreAtStages visitors (instead browsers n (Some Stage.Parting))
  stages_over before are = λ p. parting_of_one (p == n) (visitors p) (browsers p) before (are p)

-- ---- the shares when the time was told

pub told_shares : (from was time clock : ℕ) (shares now : Shares) → from ≡ was → clock ≡ max was time → shares ≡ now → shares_at from (max from time) shares ≡ shares_at was clock now
told_shares from was time clock shares now same is are =
    ap (λ (s : Shares). shares_at from (max from time) s) are ∙ ap (λ (c : ℕ). shares_at c (max c time) now) same ∙ ap (λ (c : ℕ). shares_at was c now) (sym is)

-- ---- no stop loses what was answered before

-- of a store that was opened just now
pub safe_anew : {D : Type 0} (facts : DeviceFacts D) (sessions : ℕ → Session) (browsers : ℕ → Browser) (round : Round) (store : Seen D) → store.reopen ≡ false
    → IsSafe facts (record { sessions = sessions; browsers = browsers; round = round; now = store; first = store; since = [] })
safe_anew facts sessions browsers round store sound =
    record { served = served_none facts store; open_now = sound; holds = keeps_list facts store store [] (served_none facts store) }

-- whatever happens with the peers, the browsers and the round
pub safe_on : {D : Type 0} {facts : DeviceFacts D} {m : Moment D} {sessions : ℕ → Session} {browsers : ℕ → Browser} {round : Round} → IsSafe facts m
    → IsSafe facts (record { sessions = sessions; browsers = browsers; round = round; now = m.now; first = m.first; since = m.since })
safe_on safe = record { served = safe.served; open_now = safe.open_now; holds = safe.holds }

-- ---- all that is to be shown of a history, in its order

pub came_to_be : {S D A : Type 0} {happened : S → List Noted → Type 0} {facts : DeviceFacts D} {shows : Shows D} {start : Start D} {sockets : S} {peers : PeersNow A}
    {browsers : ℕ → Option (Stage A)} {store : Seen D} {history : List (Happening D)} → happened sockets (noted history) → IsHistory facts shows start history
    → AreStanding (moment start history).sessions peers.slots peers.seats → AreAtStages (moment start history).browsers browsers → (moment start history).now ≡ store
    → length peers.slots ≡ start.most → length peers.seats ≡ start.most → peers.ended ≤ ended_in (noted history) → IsRound (moment start history).round peers
    → IsOfOne store.hill.settings peers.slots peers.under_way → CameToBe happened facts shows start sockets peers browsers store history
came_to_be logged follows standing visiting now_is places seats ended round of_one = record {
  logged = logged;
  follows = follows;
  standing = standing;
  visiting = visiting;
  now_is = now_is;
  places = places;
  seats = seats;
  ended = ended;
  round = round;
  of_one = of_one;
}
