-- One row more, in the loops that put texts and cells.
use Rattle.{std.proofs.Common.{◌≡◌, ℕ, ◌+◌, ◌<◌, suc, List, [], ◌∷◌, ◌++◌, length, map, take, get_or, sym, ap, ◌∙◌, arith}, std.specs.List.{enumerate_from, range_with_len}}
use Rattle.std.proofs.{lemmas.List.{get_or-map, length-map, map_more}, lemmas.List.Concat.flat_map_single, lemmas.List.FromFn.map-range_with_len_more}
use Rattle.{koth_hill.specs.{Rows.{row_parts, rows_parts}, declared.row.Row.Row, Table.RowParts}, koth_text.proofs.Steps.{next_ranked, put_behind}}

-- a row at its place, in its parts
pub row_at : (rows : List Row) (i : ℕ) (row : Row) → i < length rows → row ≡ get_or rows i row → row_parts row ≡ get_or (rows_parts rows) i (row_parts row)
row_at rows i row below is = ap row_parts is ∙ sym (get_or-map row_parts rows i row (row_parts row) below)

pub below_parts : (rows : List Row) (i : ℕ) → i < length rows → i < length (rows_parts rows)
below_parts rows i below = rw length-map below

-- the cells of one row more with its rank from 1 on, for the two `push_rows`
pub one_line_more : {Y : Type 0} (f : ℕ × RowParts → Y) (rows : List Row) (i : ℕ) (row : Row) (start now new : List Y) → i < length rows → row ≡ get_or rows i row
    → now ≡ start ++ map f (enumerate_from 1 (take i (rows_parts rows))) → new ≡ now ++ f (i + 1, row_parts row) ∷ []
    → new ≡ start ++ map f (enumerate_from 1 (take (i + 1) (rows_parts rows)))
one_line_more f rows i row start now new below is so_far put =
    let parts = rows_parts rows in
    let same : i + 1 ≡ suc i = omega arith in
    let rank : 1 + i ≡ i + 1 = omega arith in
    let one = λ (p : ℕ × RowParts). f p ∷ [] in
    put_behind start (map f (enumerate_from 1 (take i parts))) (f (i + 1, row_parts row) ∷ []) (map f (enumerate_from 1 (take (i + 1) parts))) now new so_far put
    (ap (λ n. map f (enumerate_from 1 (take n parts))) same ∙ sym (flat_map_single f (enumerate_from 1 (take (suc i) parts)))
    ∙ next_ranked one 1 parts i (row_parts row) (below_parts rows i below) ∙ ap (λ l. l ++ one (1 + i, get_or parts i (row_parts row))) (flat_map_single f (enumerate_from 1 (take i parts)))
    ∙ ap (λ n. map f (enumerate_from 1 (take i parts)) ++ f (n, get_or parts i (row_parts row)) ∷ []) rank
    ∙ ap (λ r. map f (enumerate_from 1 (take i parts)) ++ f (i + 1, r) ∷ []) (sym (row_at rows i row below is)))

-- the cell of one row more, for `cells_of` of `matrix` and for `roster_of`
pub one_cell_more : {Y : Type 0} (f : RowParts → Y) (rows : List Row) (i : ℕ) (row : Row) (start now new : List Y) → i < length rows → row ≡ get_or rows i row
    → now ≡ start ++ map f (take i (rows_parts rows)) → new ≡ now ++ f (row_parts row) ∷ [] → new ≡ start ++ map f (take (i + 1) (rows_parts rows))
one_cell_more f rows i row start now new below is so_far put =
    let parts = rows_parts rows in
    put_behind start (map f (take i parts)) (f (row_parts row) ∷ []) (map f (take (i + 1) parts)) now new so_far put
    (map_more f parts i (row_parts row) (below_parts rows i below) ∙ ap (λ r. map f (take i parts) ++ f r ∷ []) (sym (row_at rows i row below is)))

-- the heading of one rank more, for `heading` of `matrix`
pub one_heading_more : {Y : Type 0} (f : ℕ → Y) (i : ℕ) (start now new : List Y) → now ≡ start ++ map f (range_with_len 1 i) → new ≡ now ++ f (i + 1) ∷ []
    → new ≡ start ++ map f (range_with_len 1 (i + 1))
one_heading_more f i start now new so_far put =
    let rank : 1 + i ≡ i + 1 = omega arith in
    put_behind start (map f (range_with_len 1 i)) (f (i + 1) ∷ []) (map f (range_with_len 1 (i + 1))) now new so_far put (map-range_with_len_more f 1 i (i + 1) rank)
