-- The lines of one warrior or one match more, for `put_rows`, `put_bouts` and `put_kept`.
use Rattle.std.proofs.Common.{◌≡◌, ℕ, ◌+◌, ◌<◌, ◌≤◌, zero, suc, List, [], ◌∷◌, ◌++◌, Some, None, length, take, get_or, refl, sym, ap, ◌∙◌, append-nil, arith}
use Rattle.std.specs.List.{enumerate_from, flat_map, slice_get, zip}
use Rattle.std.proofs.lemmas.List.{get_or-map, length-map}
use Rattle.std.proofs.lemmas.List.Concat.{flat_map-append}
use Rattle.koth_hill.specs.{Rows.{row_parts, rows_parts}, Table.{RowParts}, declared.row.Row.{Row}}
use Rattle.koth_text.proofs.Steps.{next_ranked, put_behind}

-- ---- warriors by rank

pub row_more : (f : ℕ × RowParts → List ℕ) (rows : List Row) (i : ℕ) (row : Row) (start now new : List ℕ) → i < length rows → row ≡ get_or rows i row
    → now ≡ start ++ flat_map f (enumerate_from 1 (take i (rows_parts rows))) → new ≡ now ++ f (i + 1, row_parts row)
    → new ≡ start ++ flat_map f (enumerate_from 1 (take (i + 1) (rows_parts rows)))
row_more f rows i row start now new below is so_far put =
    let shown = rows_parts rows in
    let rank : 1 + i ≡ i + 1 = omega arith in
    let same : i + 1 ≡ suc i = omega arith in
    let within : i < length shown = rw length-map below in
    put_behind start (flat_map f (enumerate_from 1 (take i shown))) (f (i + 1, row_parts row)) (flat_map f (enumerate_from 1 (take (i + 1) shown))) now new so_far put
    (ap (λ n. flat_map f (enumerate_from 1 (take n shown))) same ∙ next_ranked f 1 shown i (row_parts row) within
    ∙ ap (λ n. flat_map f (enumerate_from 1 (take i shown)) ++ f (n, get_or shown i (row_parts row))) rank
    ∙ ap (λ r. flat_map f (enumerate_from 1 (take i shown)) ++ f (i + 1, r)) (get_or-map row_parts rows i row (row_parts row) below ∙ ap row_parts (sym is)))

-- ---- what stands beside each other in two lists

-- one pair more
zip-more : {K V : Type 0} (ks : List K) (vs : List V) (i : ℕ) (k : K) (v : V) → slice_get ks i ≡ Some k → slice_get vs i ≡ Some v
    → zip (take (suc i) ks) (take (suc i) vs) ≡ zip (take i ks) (take i vs) ++ (k, v) ∷ []
zip-more [] vs i k v first second = cc
zip-more (x ∷ ks) [] i k v first second = cc
zip-more (x ∷ ks) (y ∷ vs) zero k v first second = cc
zip-more (x ∷ ks) (y ∷ vs) (suc i) k v first second = ap (λ l. (x, y) ∷ l) (zip-more ks vs i k v first second)

-- none more past the first list
zip-past : {K V : Type 0} (ks : List K) (vs : List V) (i : ℕ) → slice_get ks i ≡ None → zip (take (suc i) ks) (take (suc i) vs) ≡ zip (take i ks) (take i vs)
zip-past [] vs zero none = refl
zip-past [] vs (suc i) none = refl
zip-past (x ∷ ks) vs zero none = cc
zip-past (x ∷ ks) [] (suc i) none = refl
zip-past (x ∷ ks) (y ∷ vs) (suc i) none = ap (λ l. (x, y) ∷ l) (zip-past ks vs i none)

-- all, up to the end of the second list
pub zip-all : {K V : Type 0} (ks : List K) (vs : List V) (n : ℕ) → length vs ≤ n → zip (take n ks) (take n vs) ≡ zip ks vs
zip-all [] vs zero long = refl
zip-all [] vs (suc n) long = refl
zip-all (x ∷ ks) [] zero long = refl
zip-all (x ∷ ks) [] (suc n) long = refl
zip-all (x ∷ ks) (y ∷ vs) zero long = absurd (omega arith)
zip-all (x ∷ ks) (y ∷ vs) (suc n) long = ap (λ l. (x, y) ∷ l) (zip-all ks vs n (omega arith))

-- the lines of one pair more
pub pair_more : {K V : Type 0} (f : K × V → List ℕ) (ks : List K) (vs : List V) (i : ℕ) (k : K) (v : V) (start now new : List ℕ)
    → slice_get ks i ≡ Some k → slice_get vs i ≡ Some v
    → now ≡ start ++ flat_map f (zip (take i ks) (take i vs)) → new ≡ now ++ f (k, v)
    → new ≡ start ++ flat_map f (zip (take (i + 1) ks) (take (i + 1) vs))
pair_more f ks vs i k v start now new first second so_far put =
    let pairs = zip (take i ks) (take i vs) in
    let same : i + 1 ≡ suc i = omega arith in
    put_behind start (flat_map f pairs) (f (k, v)) (flat_map f (zip (take (i + 1) ks) (take (i + 1) vs))) now new so_far put
    (ap (λ n. flat_map f (zip (take n ks) (take n vs))) same ∙ ap (flat_map f) (zip-more ks vs i k v first second)
    ∙ flat_map-append f pairs ((k, v) ∷ []) ∙ ap (λ l. flat_map f pairs ++ l) (append-nil (f (k, v))))

-- none more past the first list
pub pair_past : {K V : Type 0} (f : K × V → List ℕ) (ks : List K) (vs : List V) (i : ℕ) (start now : List ℕ) → slice_get ks i ≡ None
    → now ≡ start ++ flat_map f (zip (take i ks) (take i vs)) → now ≡ start ++ flat_map f (zip (take (i + 1) ks) (take (i + 1) vs))
pair_past f ks vs i start now none so_far =
    let same : i + 1 ≡ suc i = omega arith in
    so_far ∙ ap (λ l. start ++ flat_map f l) (sym (zip-past ks vs i none)) ∙ ap (λ n. start ++ flat_map f (zip (take n ks) (take n vs))) (sym same)
