-- Each row, beside its member's matches with those before it.
use Rattle.std.proofs.Common.{◌≡◌, ℕ, ◌+◌, ◌<◌, ◌≤◌, List, [], ◌∷◌, ◌++◌, length, take, get_or, sym, ap, ap₂, subst, ◌∙◌, arith, suc, zero, append_assoc, append-nil}
use Rattle.std.proofs.{lemmas.List.{get_or-map, length-map, take-map, take_all, take_more_same}, lemmas.List.Elements.All-take}
use Rattle.{war_types.specs.{declared.settings.RawSettings.RawSettings, Warrior.{WarriorParts, Fits}}, koth_match.specs.declared.bout.Bout.Bout, koth_hill.specs.Hill.{Member, AllFit}}
use Rattle.{koth_hill.specs.{Step.matches_with, Kept.{Kept, Entrant, AreTrue, IsKept, fought_from, hill_in, members_of, rows_of}}, koth_hill.proofs.{Hills.all-fit, Truths.length-fought}}

-- ---- those before a member

pub all-entrants-fit : (k : Kept) (es xs : List Entrant) → members_of es ≡ k.members → xs ≡ es → IsKept k → AllFit k.settings (members_of xs)
all-entrants-fit k es xs members same is =
    let P : List Member → Type 0 = λ ms. AllFit k.settings ms in
    subst P (sym (ap members_of same ∙ members)) (all-fit (hill_in k) is.hill)

pub fit-before : (s : RawSettings) (es : List Entrant) (n : ℕ) → AllFit s (members_of es) → AllFit s (members_of (take n es))
fit-before s es n fit =
    let P : List Member → Type 0 = λ ms. AllFit s ms in
    subst P (take-map (λ (e : Entrant). e.member) n es) (All-take (λ (m : Member). Fits s m.warrior) n (members_of es) fit)

-- ---- the row at a place

-- the matches of the one at this place with those before it
fought_from-at : (s : RawSettings) (before ms : List Member) (n : ℕ) (row : List Bout) (m : Member) → n < length ms →
    get_or (fought_from s before ms) n row ≡ matches_with s (before ++ take n ms) (get_or ms n m).warrior
fought_from-at s before [] n row m within = absurd (omega (arith, within))
fought_from-at s before (x ∷ ms) zero row m within = ap (λ (xs : List Member). matches_with s xs x.warrior) (sym (append-nil before))
fought_from-at s before (x ∷ ms) (suc n) row m within =
    fought_from-at s (before ++ x ∷ []) ms n row m (omega (arith, within))
    ∙ ap (λ (xs : List Member). matches_with s xs (get_or ms n m).warrior) (append_assoc before (x ∷ []) (take n ms))

fought-at : (s t : RawSettings) (es : List Entrant) (n : ℕ) (e : Entrant) (w : WarriorParts) (bouts row : List Bout) → s ≡ t →
    n < length es → e ≡ get_or es n e → w ≡ e.member.warrior → bouts ≡ matches_with s (members_of (take n es)) w →
    get_or (fought_from t [] (members_of es)) n row ≡ bouts
fought-at s t es n e w bouts row settings within here same fought =
    fought_from-at t [] (members_of es) n row e.member (omega (arith, within, length-map es (λ (x : Entrant). x.member)))
    ∙ ap₂ (λ (ms : List Member) (m : Member). matches_with t ms m.warrior) (take-map (λ (x : Entrant). x.member) n es)
    (get_or-map (λ (x : Entrant). x.member) es n e e.member within ∙ ap (λ (x : Entrant). x.member) (sym here))
    ∙ ap₂ (λ (u : RawSettings) (x : WarriorParts). matches_with u (members_of (take n es)) x) (sym settings) (sym same)
    ∙ sym fought

kept-at : (es : List Entrant) (n : ℕ) (e : Entrant) (row other : List Bout) → n < length es → e ≡ get_or es n e → row ≡ e.bouts →
    get_or (rows_of es) n other ≡ row
kept-at es n e row other within here same =
    get_or-map (λ (x : Entrant). x.bouts) es n e other within ∙ ap (λ (x : Entrant). x.bouts) (sym here) ∙ sym same

-- ---- the rows that were fought again

-- one row more is true
pub true-more : (s t : RawSettings) (es : List Entrant) (n : ℕ) (e : Entrant) (w : WarriorParts) (bouts row : List Bout) → s ≡ t →
    n < length es → e ≡ get_or es n e → w ≡ e.member.warrior → bouts ≡ matches_with s (members_of (take n es)) w → row ≡ e.bouts → bouts ≡ row →
    take n (rows_of es) ≡ take n (fought_from t [] (members_of es)) → take (n + 1) (rows_of es) ≡ take (n + 1) (fought_from t [] (members_of es))
true-more s t es n e w bouts row settings within here same fought kept equal before =
    let many : length (members_of es) ≡ length es = length-map es (λ (x : Entrant). x.member) in
    take_more_same (rows_of es) (fought_from t [] (members_of es)) n row
    (omega (arith, within, length-map es (λ (x : Entrant). x.bouts)))
    (omega (arith, within, many, length-fought t [] (members_of es)))
    before
    (kept-at es n e row row within here kept ∙ sym equal ∙ sym (fought-at s t es n e w bouts row settings within here same fought))

-- after the last row, all are true
pub true-all : (k : Kept) (es xs : List Entrant) (n : ℕ) → members_of es ≡ k.members → rows_of es ≡ k.results → xs ≡ es → length xs ≤ n →
    take n (rows_of xs) ≡ take n (fought_from k.settings [] (members_of xs)) → AreTrue k
true-all k es xs n members rows is past before =
    let many : length (members_of xs) ≡ length xs = length-map xs (λ (x : Entrant). x.member) in
    sym (ap rows_of is ∙ rows)
    ∙ sym (take_all n (rows_of xs) (omega (arith, past, length-map xs (λ (x : Entrant). x.bouts))))
    ∙ before
    ∙ take_all n (fought_from k.settings [] (members_of xs)) (omega (arith, past, many, length-fought k.settings [] (members_of xs)))
    ∙ ap (λ (ms : List Member). fought_from k.settings [] ms) (ap members_of is ∙ members)
