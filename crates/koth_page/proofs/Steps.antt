-- One row more, in the loops that put rows and their cells.
use Rattle.{std.proofs.Common.{◌≡◌, ℕ, ◌+◌, ◌<◌, zero, suc, List, [], ◌∷◌, ◌++◌, length, take, get_or, refl, sym, ap, ◌∙◌, arith}, std.specs.List.{enumerate_from, flat_map}}
use Rattle.{std.proofs.lemmas.List.{get_or-map, length-map}, koth_text.proofs.Steps.{next_ranked, put_behind}}
use Rattle.koth_page.specs.{Ranked.{RankedParts, all_parts, ranked_parts}, declared.ranked.Ranked.Ranked}

-- a row at its place, in its parts
pub row_at : (rows : List Ranked) (i : ℕ) (row : Ranked) → i < length rows → row ≡ get_or rows i row → ranked_parts row ≡ get_or (all_parts rows) i (ranked_parts row)
row_at rows i row below is = ap ranked_parts is ∙ sym (get_or-map ranked_parts rows i row (ranked_parts row) below)

-- what is read at a place is there, whatever would be read past the end
pub row_read : (rows : List Ranked) (i : ℕ) (d : Ranked) → i < length rows → get_or rows i d ≡ get_or rows i (get_or rows i d)
row_read [] i d below = absurd (omega (arith, below))
row_read (row ∷ rows) zero d below = refl
row_read (row ∷ rows) (suc i) d below = row_read rows i d (omega (arith, below))

pub below_parts : (rows : List Ranked) (i : ℕ) → i < length rows → i < length (all_parts rows)
below_parts rows i below = rw length-map below

-- the part of one row more with its rank from 1 on, for the two `put_rows` and for `put_rank_headings`
pub one_row_more : (f : ℕ × RankedParts → List ℕ) (rows : List Ranked) (i : ℕ) (row : Ranked) (start now new : List ℕ) → i < length rows → row ≡ get_or rows i row
    → now ≡ start ++ flat_map f (enumerate_from 1 (take i (all_parts rows))) → new ≡ now ++ f (i + 1, ranked_parts row)
    → new ≡ start ++ flat_map f (enumerate_from 1 (take (i + 1) (all_parts rows)))
one_row_more f rows i row start now new below is so_far put =
    let parts = all_parts rows in
    let same : i + 1 ≡ suc i = omega arith in
    let rank : 1 + i ≡ i + 1 = omega arith in
    put_behind start (flat_map f (enumerate_from 1 (take i parts))) (f (i + 1, ranked_parts row)) (flat_map f (enumerate_from 1 (take (i + 1) parts))) now new so_far put
    (ap (λ n. flat_map f (enumerate_from 1 (take n parts))) same ∙ next_ranked f 1 parts i (ranked_parts row) (below_parts rows i below)
    ∙ ap (λ n. flat_map f (enumerate_from 1 (take i parts)) ++ f (n, get_or parts i (ranked_parts row))) rank
    ∙ ap (λ r. flat_map f (enumerate_from 1 (take i parts)) ++ f (i + 1, r)) (sym (row_at rows i row below is)))
