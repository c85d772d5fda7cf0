-- The lines of a table, one more at a time.
use Rattle.std.proofs.Common.{◌≡◌, ℕ, ◌+◌, ◌<◌, zero, suc, List, [], ◌∷◌, ◌++◌, length, take, get_or, sym, ap, ◌∙◌, append_assoc, append-nil, arith}
use Rattle.{koth_hill.specs.{Rows.{row_parts, rows_parts}, declared.row.Row.Row}, koth_protocol.specs.Table.{row_line, row_lines}}

next : (rank : ℕ) (rows : List Row) (i : ℕ) (row : Row) → i < length rows → row ≡ get_or rows i row
    → row_lines rank (take (suc i) (rows_parts rows)) ≡ row_lines rank (take i (rows_parts rows)) ++ row_line (rank + i) (row_parts row)
next rank [] i row below is = absurd (omega (arith, below))
next rank (r ∷ rs) zero row below is =
    let none : rank ≡ rank + 0 = omega arith in
    append-nil (row_line rank (row_parts r)) ∙ ap (λ (x : Row). row_line rank (row_parts x)) (sym is) ∙ ap (λ n. row_line n (row_parts row)) none
next rank (r ∷ rs) (suc i) row below is =
    let rest = next (rank + 1) rs i row (omega (arith, below)) is in
    let same : rank + 1 + i ≡ rank + suc i = omega arith in
    ap (λ l. row_line rank (row_parts r) ++ l) (rest ∙ ap (λ n. row_lines (rank + 1) (take i (rows_parts rs)) ++ row_line n (row_parts row)) same)
    ∙ sym (append_assoc (row_line rank (row_parts r)) (row_lines (rank + 1) (take i (rows_parts rs))) (row_line (rank + suc i) (row_parts row)))

pub one_more : (rank : ℕ) (rows : List Row) (i : ℕ) (row : Row) → i < length rows → row ≡ get_or rows i row
    → row_lines rank (take (i + 1) (rows_parts rows)) ≡ row_lines rank (take i (rows_parts rows)) ++ row_line (rank + i) (row_parts row)
one_more rank rows i row below is =
    let same : i + 1 ≡ suc i = omega arith in
    ap (λ n. row_lines rank (take n (rows_parts rows))) same ∙ next rank rows i row below is
