-- The matches of one warrior, one after another.
use Rattle.std.proofs.Common.{◌≡◌, ℕ, ◌+◌, ◌<◌, ◌≤◌, All, List, [], ◌∷◌, ◌++◌, length, take, get_or, sym, ap, ap₂, subst, ◌∙◌, arith}
use Rattle.std.proofs.{lemmas.List.{get_or-map, length-map, length-take, map-append, take_all, take_more}, lemmas.List.Elements.All-push}
use Rattle.{war_types.specs.{declared.settings.RawSettings.RawSettings, Warrior.{WarriorParts, Fits}}, koth_match.specs.{declared.bout.Bout.Bout, Match.{match_of, rounds_in}}}
use Rattle.koth_hill.specs.{Hill.{Member, AllFit}, Step.matches_with, Kept.{Entrant, members_of}}

-- the warrior of one of those that fit
pub fits-at : (s : RawSettings) (es : List Entrant) (n : ℕ) (e : Entrant) (w : WarriorParts) → n < length es → e ≡ get_or es n e → w ≡ e.member.warrior → AllFit s (members_of es) → Fits s w
fits-at s es n e w within here same fit =
    let P : Member → Type 0 = λ m. Fits s m.warrior in
    let Q : WarriorParts → Type 0 = λ x. Fits s x in
    subst Q (sym same) (subst P (get_or-map (λ (x : Entrant). x.member) es n e e.member within ∙ ap (λ (x : Entrant). x.member) (sym here))
    (fit n e.member (omega (arith, within, length-map es (λ (x : Entrant). x.member)))))

-- one match more
pub matched-more : (s : RawSettings) (es : List Entrant) (n : ℕ) (e : Entrant) (w older : WarriorParts) (bouts new : List Bout) (bout : Bout) →
    n < length es → e ≡ get_or es n e → older ≡ e.member.warrior → bout ≡ match_of s older w → new ≡ bouts ++ bout ∷ [] →
    bouts ≡ matches_with s (members_of (take n es)) w → new ≡ matches_with s (members_of (take (n + 1) es)) w
matched-more s es n e w older bouts new bout within here same fought pushed before =
    pushed ∙ ap₂ (λ (xs : List Bout) (x : Bout). xs ++ x ∷ []) before (fought ∙ ap (λ (x : WarriorParts). match_of s x w) same)
    ∙ sym (map-append (λ (m : Member). match_of s m.warrior w) (members_of (take n es)) (e.member ∷ []))
    ∙ ap (λ (ms : List Member). matches_with s ms w) (sym (map-append (λ (x : Entrant). x.member) (take n es) (e ∷ [])))
    ∙ ap (λ (xs : List Entrant). matches_with s (members_of xs) w) (ap (λ (x : Entrant). take n es ++ x ∷ []) here ∙ sym (take_more es n e within))

pub rounds-more : (rounds : ℕ) (bouts new : List Bout) (bout : Bout) → rounds_in bout ≡ rounds → new ≡ bouts ++ bout ∷ [] → All (λ b. rounds_in b ≡ rounds) bouts → All (λ b. rounds_in b ≡ rounds) new
rounds-more rounds bouts new bout one pushed all =
    let P : List Bout → Type 0 = λ xs. All (λ b. rounds_in b ≡ rounds) xs in
    subst P (sym pushed) (All-push (λ b. rounds_in b ≡ rounds) bouts bout all one)

-- as many matches as others before this place
pub many-matches : (s : RawSettings) (es : List Entrant) (n : ℕ) (w : WarriorParts) (bouts : List Bout) → n ≤ length es → bouts ≡ matches_with s (members_of (take n es)) w → length bouts ≡ n
many-matches s es n w bouts within fought =
    let many : length bouts ≡ length (take n es) =
    ap length fought ∙ length-map (members_of (take n es)) (λ (m : Member). match_of s m.warrior w) ∙ length-map (take n es) (λ (e : Entrant). e.member) in
    omega (arith, within, many, length-take n es)

pub all-matched : (s : RawSettings) (es : List Entrant) (n : ℕ) (w : WarriorParts) (bouts : List Bout) → length es ≤ n → bouts ≡ matches_with s (members_of (take n es)) w → bouts ≡ matches_with s (members_of es) w
all-matched s es n w bouts past fought = fought ∙ ap (λ (xs : List Entrant). matches_with s (members_of xs) w) (take_all n es past)
