-- The rows of a table, rank by rank.
use Rattle.{std.proofs.Common.{◌≡◌, ℕ, ◌+◌, ◌-◌, ◌<◌, ◌≤◌, List, [], ◌∷◌, ◌++◌, length, map, drop, get_or, sym, ap, ap₂, ◌∙◌, arith, suc, None, append_assoc}, std.specs.Prelude.{◌==◌, if◌then◌else◌}}
use Rattle.std.proofs.{lemmas.Bool.{cond-true, cond-false, eq-eqb, ne_eqb}, lemmas.List.{append-nil, drop_all, length-map, drop_more, get_or_default, get_or-map}}
use Rattle.{koth_match.specs.declared.bout.Bout.Bout, koth_hill.specs.{declared.score.Score.Score, declared.standings.Standing.Standing, Hill.Member, Scores.{rank_among, scores_of}}}
use Rattle.koth_hill.specs.{Table.{RowParts, row_with, rows_of_rank, rows_by_rank, table_by}, Kept.{Entrant, entries_of, members_of, rows_of, kept_results}}
use Rattle.koth_hill.specs.Standings.{StandingParts, standing_of, standing_parts, entries_in, kept_in, left, scores_among}
use Rattle.koth_hill.proofs.ByEntry.{kept_among, scores-entries, left-None, entries-entrants, rows-entrants}

-- the rows of a rank, from the i-th member on
pub rows_of_rank-more : (all : List Score) (r : ℕ) (ms : List Member) (xs : List Score) (i : ℕ) (m : Member) (x : Score) → i < length ms → i < length xs → m ≡ get_or ms i m → x ≡ get_or xs i x →
    rows_of_rank all r (drop i ms) (drop i xs)
    ≡ (if rank_among all x == r then row_with x.points m ∷ rows_of_rank all r (drop (i + 1) ms) (drop (i + 1) xs) else rows_of_rank all r (drop (i + 1) ms) (drop (i + 1) xs))
rows_of_rank-more all r ms xs i m x within inside here there =
    ap₂ (λ (ns : List Member) (ys : List Score). rows_of_rank all r ns ys)
    (drop_more ms i m within ∙ ap (λ (n : Member). n ∷ drop (i + 1) ms) (sym here)) (drop_more xs i x inside ∙ ap (λ (y : Score). y ∷ drop (i + 1) xs) (sym there))

pub row-pushed : (all : List Score) (r : ℕ) (ms : List Member) (xs : List Score) (i : ℕ) (m : Member) (d : Score) (done due new : List RowParts) (row : RowParts) →
    i < length ms → length xs ≡ length ms → m ≡ get_or ms i m → rank_among all (get_or xs i d) ≡ r →
    done ++ rows_of_rank all r (drop i ms) (drop i xs) ≡ due → row ≡ row_with (get_or xs i d).points m → new ≡ done ++ row ∷ [] →
    new ++ rows_of_rank all r (drop (i + 1) ms) (drop (i + 1) xs) ≡ due
row-pushed all r ms xs i m d done due new row within beside here is before made pushed =
    ap (λ (rows : List RowParts). rows ++ rest) (pushed ∙ ap (λ (y : RowParts). done ++ y ∷ []) made)
    ∙ append_assoc done (row_with x.points m ∷ []) rest
    ∙ ap (λ (rows : List RowParts). done ++ rows) (sym (rows_of_rank-more all r ms xs i m x within inside here there ∙ cond-true (rank_among all x == r) (row_with x.points m ∷ rest) rest (eq-eqb (rank_among all x) r is)))
    ∙ before
  where
    inside : i < length xs
    inside = omega (arith, within, beside)

    x : Score
    x = get_or xs i d

    there : x ≡ get_or xs i x
    there = get_or_default xs i d x inside

    rest : List RowParts
    rest = rows_of_rank all r (drop (i + 1) ms) (drop (i + 1) xs)

pub row-passed : (all : List Score) (r : ℕ) (ms : List Member) (xs : List Score) (i : ℕ) (m : Member) (d : Score) (done due : List RowParts) →
    i < length ms → length xs ≡ length ms → m ≡ get_or ms i m → (rank_among all (get_or xs i d) ≡ r → ⊥) →
    done ++ rows_of_rank all r (drop i ms) (drop i xs) ≡ due →
    done ++ rows_of_rank all r (drop (i + 1) ms) (drop (i + 1) xs) ≡ due
row-passed all r ms xs i m d done due within beside here other before =
    ap (λ (rows : List RowParts). done ++ rows) (sym (rows_of_rank-more all r ms xs i m x within inside here there ∙ cond-false (rank_among all x == r) (row_with x.points m ∷ rest) rest (ne_eqb (rank_among all x) r other)))
    ∙ before
  where
    inside : i < length xs
    inside = omega (arith, within, beside)

    x : Score
    x = get_or xs i d

    there : x ≡ get_or xs i x
    there = get_or_default xs i d x inside

    rest : List RowParts
    rest = rows_of_rank all r (drop (i + 1) ms) (drop (i + 1) xs)

pub rows-last : (all : List Score) (r : ℕ) (ms : List Member) (xs : List Score) (i : ℕ) (done due : List RowParts) → length ms ≤ i → done ++ rows_of_rank all r (drop i ms) (drop i xs) ≡ due → done ≡ due
rows-last all r ms xs i done due past before =
    sym (append-nil done) ∙ ap (λ (ns : List Member). done ++ rows_of_rank all r ns (drop i xs)) (sym (drop_all i ms past)) ∙ before

-- ---- members that are shown

-- the member at a place
pub member-at : (es : List Entrant) (i : ℕ) (e : Entrant) → i < length es → e ≡ get_or es i e → e.member ≡ get_or (members_of es) i e.member
member-at es i e within here = ap (λ (x : Entrant). x.member) here ∙ sym (get_or-map (λ (x : Entrant). x.member) es i e e.member within)

-- ---- ranks

-- one rank more
pub rank-more : (ms : List Member) (scores : List Score) (rows new due : List RowParts) (place n : ℕ) → place < n →
    rows ++ rows_by_rank scores ms (place + 1) (n - place) ≡ due → new ≡ rows ++ rows_of_rank scores (place + 1) ms scores →
    new ++ rows_by_rank scores ms (place + 1 + 1) (n - (place + 1)) ≡ due
rank-more ms scores rows new due place n within before pushed =
    ap (λ (xs : List RowParts). xs ++ later) pushed
    ∙ append_assoc rows (rows_of_rank scores (place + 1) ms scores) later
    ∙ ap (λ (k : ℕ). rows ++ rows_by_rank scores ms (place + 1) k) (sym split)
    ∙ before
  where
    later : List RowParts
    later = rows_by_rank scores ms (place + 1 + 1) (n - (place + 1))

    split : n - place ≡ suc (n - (place + 1))
    split = omega arith

pub rank-last : (ms : List Member) (scores : List Score) (rows due : List RowParts) (place n : ℕ) → n ≤ place →
    rows ++ rows_by_rank scores ms (place + 1) (n - place) ≡ due → rows ≡ due
rank-last ms scores rows due place n past before =
    let none : n - place ≡ 0 = omega arith in
    sym (append-nil rows) ∙ ap (λ (k : ℕ). rows ++ rows_by_rank scores ms (place + 1) k) (sym none) ∙ before

-- ---- scores that are kept

-- the scores that are found are those of the members by what is kept
pub scores-kept : (es : List Entrant) (ss : List Standing) (scores : List Score) → map standing_parts ss ≡ map standing_of es →
    scores ≡ scores_among (kept_in (map standing_parts ss)) (left None (entries_in (map standing_parts ss))) →
    scores ≡ scores_of (kept_results (entries_of (members_of es)) (rows_of es)) (members_of es)
scores-kept es ss scores same found =
    found
    ∙ ap (λ (xs : List StandingParts). scores_among (kept_in xs) (left None (entries_in xs))) same
    ∙ ap₂ (λ (r : ℕ → ℕ → Bout) (xs : List ℕ). scores_among r xs)
    (ap₂ (λ (xs : List ℕ) (rows : List (List Bout)). kept_among xs rows) (entries-entrants es) (rows-entrants es))
    (left-None (entries_in (map standing_of es)) ∙ entries-entrants es)
    ∙ sym (scores-entries (kept_among (entries_of (members_of es)) (rows_of es)) (members_of es))

pub scores-beside : (es : List Entrant) (scores : List Score) → scores ≡ scores_of (kept_results (entries_of (members_of es)) (rows_of es)) (members_of es) → length scores ≡ length es
scores-beside es scores are = ap length are ∙ length-map (members_of es) _ ∙ length-map es (λ (e : Entrant). e.member)

pub table-kept : (es : List Entrant) (scores : List Score) (due : List RowParts) → scores ≡ scores_of (kept_results (entries_of (members_of es)) (rows_of es)) (members_of es) →
    due ≡ rows_by_rank scores (members_of es) 1 (length es) → due ≡ table_by (kept_results (entries_of (members_of es)) (rows_of es)) (members_of es)
table-kept es scores due are is =
    is ∙ ap₂ (λ (xs : List Score) (n : ℕ). rows_by_rank xs (members_of es) 1 n) are (sym (length-map es (λ (e : Entrant). e.member)))
