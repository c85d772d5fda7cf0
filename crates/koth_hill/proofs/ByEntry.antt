-- Scores of members by what is kept are those of their entries.
use Rattle.std.proofs.Common.{◌≡◌, ℕ, ◌+◌, ◌<◌, ◌≤◌, Bool, true, false, List, [], ◌∷◌, ◌++◌, get_or, length, map, take, refl, sym, ap, ap₂, ◌∙◌, Option, None}
use Rattle.{std.proofs.lemmas.List.{length-map, map-append, take_all, take_more}, std.specs.Prelude.if◌then◌else◌, koth_match.specs.declared.bout.Bout.Bout}
use Rattle.koth_hill.specs.{declared.score.Score.Score, Hill.{Member, Results, points}, Scores.{score_of, scores_of}, Step.{is_entry, without, one_older}}
use Rattle.koth_hill.specs.{Kept.{Entrant, entries_of, members_of, rows_of, result_of, or_no_rounds}, declared.standings.Standing.Standing}
use Rattle.koth_hill.specs.Standings.{StandingParts, standing_of, standing_parts, entries_in, rows_in, points_between, points_among, left, score_among, scores_among}

-- results that look at entries alone
abbrev pub by_entry : (ℕ → ℕ → Bout) → Results
by_entry r older_entry older younger_entry younger = r older_entry younger_entry

-- what is kept of two entries
abbrev pub kept_among : List ℕ → List (List Bout) → ℕ → ℕ → Bout
kept_among entries rows older younger = or_no_rounds (result_of entries rows older younger)

pub points-entries : (r : ℕ → ℕ → Bout) (ms : List Member) (m : Member) → points (by_entry r) ms m ≡ points_among r (entries_of ms) m.entry
points-entries r [] m = refl
points-entries r (x ∷ ms) m = ap (λ (n : ℕ). points_between r m.entry x.entry + n) (points-entries r ms m)

pub score-entries : (r : ℕ → ℕ → Bout) (all ms : List Member) → map (score_of (by_entry r) all) ms ≡ map (score_among r (entries_of all)) (entries_of ms)
score-entries r all [] = refl
score-entries r all (m ∷ ms) =
    ap₂ (λ (n : ℕ) (xs : List Score). record { entry = m.entry; points = n } ∷ xs) (points-entries r all m) (score-entries r all ms)

pub scores-entries : (r : ℕ → ℕ → Bout) (ms : List Member) → scores_of (by_entry r) ms ≡ scores_among r (entries_of ms)
scores-entries r ms = score-entries r ms ms

-- ---- those that are left

pub left-None : (es : List ℕ) → left None es ≡ es
left-None [] = refl
left-None (e ∷ es) = ap (λ (xs : List ℕ). e ∷ xs) (left-None es)

either-entries : (b : Bool) (m : Member) (ms : List Member) → entries_of (if b then ms else m ∷ ms) ≡ (if b then entries_of ms else m.entry ∷ entries_of ms)
either-entries true m ms = refl
either-entries false m ms = refl

pub left-entries : (out : Option ℕ) (ms : List Member) → left out (entries_of ms) ≡ entries_of (without out ms)
left-entries out [] = refl
left-entries out (m ∷ ms) =
    ap (λ (xs : List ℕ). if is_entry m.entry out then xs else m.entry ∷ xs) (left-entries out ms) ∙ sym (either-entries (is_entry m.entry out) m (without out ms))

either-append : (b : Bool) (e : ℕ) (xs ys : List ℕ) → (if b then xs ++ ys else e ∷ (xs ++ ys)) ≡ (if b then xs else e ∷ xs) ++ ys
either-append true e xs ys = refl
either-append false e xs ys = refl

pub left-append : (out : Option ℕ) (xs ys : List ℕ) → left out (xs ++ ys) ≡ left out xs ++ left out ys
left-append out [] ys = refl
left-append out (e ∷ xs) ys =
    ap (λ (zs : List ℕ). if is_entry e out then zs else e ∷ zs) (left-append out xs ys) ∙ either-append (is_entry e out) e (left out xs) (left out ys)

pub entries-older : (ms : List Member) → entries_of (one_older ms) ≡ entries_of ms
entries-older [] = refl
entries-older (m ∷ ms) = ap (λ (xs : List ℕ). m.entry ∷ xs) (entries-older ms)

-- ---- entrants

pub entries-entrants : (es : List Entrant) → entries_in (map standing_of es) ≡ entries_of (members_of es)
entries-entrants [] = refl
entries-entrants (e ∷ es) = ap (λ (xs : List ℕ). e.member.entry ∷ xs) (entries-entrants es)

pub rows-entrants : (es : List Entrant) → rows_in (map standing_of es) ≡ rows_of es
rows-entrants [] = refl
rows-entrants (e ∷ es) = ap (λ (xs : List (List Bout)). e.bouts ∷ xs) (rows-entrants es)

-- ---- standings

pub standing-more : (es : List Entrant) (n : ℕ) (e : Entrant) (s : Standing) (ss new : List Standing) → n < length es → e ≡ get_or es n e → standing_parts s ≡ standing_of e → new ≡ ss ++ s ∷ [] →
    map standing_parts ss ≡ map standing_of (take n es) → map standing_parts new ≡ map standing_of (take (n + 1) es)
standing-more es n e s ss new within here shown pushed before =
    ap (map standing_parts) pushed ∙ map-append standing_parts ss (s ∷ [])
    ∙ ap₂ (λ (xs : List StandingParts) (x : StandingParts). xs ++ x ∷ []) before (shown ∙ ap standing_of here)
    ∙ sym (map-append standing_of (take n es) (get_or es n e ∷ []))
    ∙ ap (map standing_of) (sym (take_more es n e within))

pub all-standings : (es : List Entrant) (n : ℕ) (ss : List Standing) → length es ≤ n → map standing_parts ss ≡ map standing_of (take n es) → map standing_parts ss ≡ map standing_of es
all-standings es n ss past before = before ∙ ap (map standing_of) (take_all n es past)

pub many-standings : (es : List Entrant) (ss : List Standing) → map standing_parts ss ≡ map standing_of es → length ss ≡ length es
many-standings es ss are = sym (length-map ss standing_parts) ∙ ap length are ∙ length-map es standing_of
