-- The rows of a hill on which nobody has a name: the same without names, for `hill_page`.
use Rattle.std.proofs.{Common.{◌≡◌, ℕ, ◌+◌, zero, suc, Bool, true, false, cond, eqb, ltb, List, [], ◌∷◌, ◌++◌, length, map, refl, sym, ap, ap₂, ◌∙◌}, lemmas.List.{length-map, map-append}}
use Rattle.{std.specs.List.sum_by, koth_match.specs.declared.bout.Bout.Bout, koth_hill.specs.{Hill.{Member, points, points_against, Results}, Kept.{Kept, entries_of, kept_results, or_no_rounds, result_of, table_kept}}}
use Rattle.koth_hill.specs.{Scores.{rank_among, score_of, scores_of}, Table.{RowParts, row_with, rows_by_rank, rows_of_rank, table_by}}
use Rattle.{koth_text.specs.{Tally.{of_older, of_younger}, declared.tally.Tally.Tally}, koth_views.specs.Tally.{against_all, between, no_tally}}
use Rattle.koth_page.specs.{Entered.{entered, entered_rows}, Laws.{nameless, nameless_member, nameless_row, nameless_rows}, Ranked.RankedParts}

-- a row of a hill without names
abbrev pub unnamed : RowParts → RowParts
unnamed row = record row { name = []; author = [] }

pub entries_of-nameless : (ms : List Member) → entries_of (map nameless_member ms) ≡ entries_of ms
entries_of-nameless [] = refl
entries_of-nameless (m ∷ ms) = ap (λ es. m.entry ∷ es) (entries_of-nameless ms)

-- ---- points and ranks by what is kept ask for no name

abbrev by_kept : List ℕ → List (List Bout) → Results
by_kept entries results = kept_results entries results

points-nameless : (entries : List ℕ) (results : List (List Bout)) (ms : List Member) (e : Member)
    → points (by_kept entries results) (map nameless_member ms) (nameless_member e) ≡ points (by_kept entries results) ms e
points-nameless entries results [] e = refl
points-nameless entries results (m ∷ ms) e = ap (λ n. points_against (by_kept entries results) e m + n) (points-nameless entries results ms e)

scores-nameless : (entries : List ℕ) (results : List (List Bout)) (all ms : List Member)
    → map (score_of (by_kept entries results) (map nameless_member all)) (map nameless_member ms) ≡ map (score_of (by_kept entries results) all) ms
scores-nameless entries results all [] = refl
scores-nameless entries results all (m ∷ ms) =
    let first = points-nameless entries results all m in
    let others = scores-nameless entries results all ms in
    cc

row_or_none : (b : Bool) (row : RowParts) (some rows : List RowParts) → some ≡ map unnamed rows
    → cond b (unnamed row ∷ some) some ≡ map unnamed (cond b (row ∷ rows) rows)
row_or_none true row some rows same = ap (λ l. unnamed row ∷ l) same
row_or_none false row some rows same = same

-- the rows of these of one rank among all, beside their scores
abbrev ranked : Results → List Member → ℕ → List Member → List Member → List RowParts
ranked f all r shown ms = rows_of_rank (scores_of f all) r shown (map (score_of f all) ms)

ranked-nameless : (f : Results) (all : List Member) (r : ℕ) (ms : List Member) → ranked f all r (map nameless_member ms) ms ≡ map unnamed (ranked f all r ms ms)
ranked-nameless f all r [] = refl
ranked-nameless f all r (m ∷ ms) =
    row_or_none (eqb (rank_among (scores_of f all) (score_of f all m)) r) (row_with (points f all m) m) (ranked f all r (map nameless_member ms) ms) (ranked f all r ms ms)
    (ranked-nameless f all r ms)

rows_by_rank-nameless : (f : Results) (ms : List Member) (r n : ℕ)
    → rows_by_rank (scores_of f ms) (map nameless_member ms) r n ≡ map unnamed (rows_by_rank (scores_of f ms) ms r n)
rows_by_rank-nameless f ms r zero = refl
rows_by_rank-nameless f ms r (suc n) =
    ap₂ (λ (a b : List RowParts). a ++ b) (ranked-nameless f ms r ms) (rows_by_rank-nameless f ms (r + 1) n)
    ∙ sym (map-append unnamed (ranked f ms r ms ms) (rows_by_rank (scores_of f ms) ms (r + 1) n))

table_by-nameless : (entries : List ℕ) (results : List (List Bout)) (ms : List Member)
    → table_by (by_kept entries results) (map nameless_member ms) ≡ map unnamed (table_by (by_kept entries results) ms)
table_by-nameless entries results ms =
    ap₂ (λ xs n. rows_by_rank xs (map nameless_member ms) 1 n) (scores-nameless entries results ms ms) (length-map ms nameless_member)
    ∙ rows_by_rank-nameless (by_kept entries results) ms 1 (length ms)

pub table_kept-nameless : (k : Kept) → table_kept (nameless k) ≡ map unnamed (table_kept k)
table_kept-nameless k =
    ap (λ es. table_by (by_kept es k.results) (map nameless_member k.members)) (entries_of-nameless k.members)
    ∙ table_by-nameless (entries_of k.members) k.results k.members

-- ---- nor do rounds

abbrev between_by : List ℕ → List (List Bout) → ℕ → ℕ → Tally
between_by entries results one other =
    cond (ltb one other) (of_older (or_no_rounds (result_of entries results one other)))
    (cond (ltb other one) (of_younger (or_no_rounds (result_of entries results other one))) no_tally)

abbrev against_by : List ℕ → List (List Bout) → ℕ → Tally
against_by entries results one =
    record { won = sum_by (λ other. (between_by entries results one other).won) entries; lost = sum_by (λ other. (between_by entries results one other).lost) entries; tied = sum_by (λ other. (between_by entries results one other).tied) entries }

pub between-nameless : (k : Kept) (one other : ℕ) → between k one other ≡ between (nameless k) one other
between-nameless k one other = ap (λ es. between_by es k.results one other) (sym (entries_of-nameless k.members))

against_all-nameless : (k : Kept) (one : ℕ) → against_all k one ≡ against_all (nameless k) one
against_all-nameless k one = ap (λ es. against_by es k.results one) (sym (entries_of-nameless k.members))

-- ---- the rows of a hill with their rounds

entered-nameless : (k : Kept) (row : RowParts) → nameless_row (entered k row) ≡ entered (nameless k) (unnamed row)
entered-nameless k row = ap (λ (rounds : Tally). record (entered (nameless k) (unnamed row)) { rounds = rounds }) (against_all-nameless k row.entry)

pub entered_rows-nameless : (k : Kept) (rows : List RowParts) → nameless_rows (entered_rows k rows) ≡ entered_rows (nameless k) (map unnamed rows)
entered_rows-nameless k [] = refl
entered_rows-nameless k (row ∷ rows) = ap₂ (λ (r : RankedParts) (rs : List RankedParts). r ∷ rs) (entered-nameless k row) (entered_rows-nameless k rows)
