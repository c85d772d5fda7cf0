-- The cells and the lines of matches, one more at a time.
use Rattle.{std.proofs.Common.{◌≡◌, ℕ, ◌+◌, ◌<◌, suc, List, ◌++◌, length, take, get_or, ap, ◌∙◌, append_assoc, sym, arith}, std.specs.List.{enumerate_from, flat_map, range_with_len}}
use Rattle.{std.proofs.lemmas.List.{get_or-map, length-map}, koth_hill.specs.{Rows.{row_parts, rows_parts}, Table.RowParts, declared.row.Row.Row}, koth_protocol.specs.Matches.entries_shown}
use Rattle.koth_text.proofs.Steps.{next_number, next_ranked, part_more}

-- the ranks from 1 on, by places from 0 on
pub one-rank_more : (f : ℕ → List ℕ) (i : ℕ) → flat_map f (range_with_len 1 (i + 1)) ≡ flat_map f (range_with_len 1 i) ++ f (i + 1)
one-rank_more f i =
    let same : i + 1 ≡ suc i = omega arith in
    let rank : 1 + i ≡ i + 1 = omega arith in
    ap (λ m. flat_map f (range_with_len 1 m)) same ∙ next_number f 1 i ∙ ap (λ n. flat_map f (range_with_len 1 i) ++ f n) rank

-- the entry of a row at its place
entry_at : (rows : List Row) (i : ℕ) (d : Row) → i < length rows → get_or (entries_shown (rows_parts rows)) i d.entry ≡ (get_or rows i d).entry
entry_at rows i d below =
    get_or-map (λ (r : RowParts). r.entry) (rows_parts rows) i (row_parts d) d.entry (rw length-map below)
    ∙ ap (λ (r : RowParts). r.entry) (get_or-map row_parts rows i d (row_parts d) below)

below_entries : (rows : List Row) (i : ℕ) → i < length rows → i < length (entries_shown (rows_parts rows))
below_entries rows i below = simp length-map below

pub one-cell_more : (f : ℕ → List ℕ) (rows : List Row) (i : ℕ) (d : Row) → i < length rows
    → flat_map f (take (i + 1) (entries_shown (rows_parts rows))) ≡ flat_map f (take i (entries_shown (rows_parts rows))) ++ f (get_or rows i d).entry
one-cell_more f rows i d below =
    let entries = entries_shown (rows_parts rows) in
    part_more f entries i d.entry (below_entries rows i below) ∙ ap (λ e. flat_map f (take i entries) ++ f e) (entry_at rows i d below)

-- the lines from rank 1 on, by places from 0 on
pub one-line_more : (f : ℕ × ℕ → List ℕ) (rows : List Row) (i : ℕ) (d : Row) → i < length rows
    → flat_map f (enumerate_from 1 (take (i + 1) (entries_shown (rows_parts rows))))
    ≡ flat_map f (enumerate_from 1 (take i (entries_shown (rows_parts rows)))) ++ f (i + 1, (get_or rows i d).entry)
one-line_more f rows i d below =
    let entries = entries_shown (rows_parts rows) in
    let same : i + 1 ≡ suc i = omega arith in
    let rank : 1 + i ≡ i + 1 = omega arith in
    ap (λ n. flat_map f (enumerate_from 1 (take n entries))) same ∙ next_ranked f 1 entries i d.entry (below_entries rows i below)
    ∙ ap (λ n. flat_map f (enumerate_from 1 (take i entries)) ++ f (n, get_or entries i d.entry)) rank
    ∙ ap (λ e. flat_map f (enumerate_from 1 (take i entries)) ++ f (i + 1, e)) (entry_at rows i d below)

-- one part more after what is put: a start, a front that stays, and cells
pub put_behind : (start front cells part all now new : List ℕ) → new ≡ now ++ part → now ≡ start ++ (front ++ cells) → all ≡ cells ++ part → new ≡ start ++ (front ++ all)
put_behind start front cells part all now new put so_far more =
    put ∙ ap (λ l. l ++ part) so_far ∙ append_assoc start (front ++ cells) part
    ∙ ap (λ l. start ++ l) (append_assoc front cells part ∙ ap (λ l. front ++ l) (sym more))
