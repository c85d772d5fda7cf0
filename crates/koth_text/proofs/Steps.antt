-- One part more: of a list, of numbers, of ranks, or of a chain of parts.
use Rattle.std.proofs.Common.{◌≡◌, ℕ, ◌+◌, ◌<◌, zero, suc, max, List, [], ◌∷◌, ◌++◌, length, take, get_or, sym, ap, ◌∙◌, append_assoc, append-nil, arith}
use Rattle.{std.specs.List.{enumerate_from, flat_map, range_with_len}, std.proofs.{lemmas.List.take_more, lemmas.List.Concat.flat_map-append}, koth_text.specs.Columns.{cell_at, width}}

-- a part after what is put
pub put_behind : {X : Type 0} (start so_far part all now new : List X) → now ≡ start ++ so_far → new ≡ now ++ part → all ≡ so_far ++ part → new ≡ start ++ all
put_behind start so_far part all now new is put more = put ∙ ap (λ l. l ++ part) is ∙ append_assoc start so_far part ∙ ap (λ l. start ++ l) (sym more)

-- the part of the element at a place
pub part_more : {X A : Type 0} (f : X → List A) (xs : List X) (i : ℕ) (d : X) → i < length xs → flat_map f (take (i + 1) xs) ≡ flat_map f (take i xs) ++ f (get_or xs i d)
part_more f xs i d below =
    ap (flat_map f) (take_more xs i d below) ∙ flat_map-append f (take i xs) (get_or xs i d ∷ []) ∙ ap (λ l. flat_map f (take i xs) ++ l) (append-nil (f (get_or xs i d)))

-- the part of one more element, for loops over a slice
pub one_part_more : {X A : Type 0} (f : X → List A) (xs : List X) (i : ℕ) (x : X) (start now new : List A) → i < length xs → x ≡ get_or xs i x
    → now ≡ start ++ flat_map f (take i xs) → new ≡ now ++ f x → new ≡ start ++ flat_map f (take (i + 1) xs)
one_part_more f xs i x start now new below is so_far put =
    put_behind start (flat_map f (take i xs)) (f x) (flat_map f (take (i + 1) xs)) now new so_far put
    (part_more f xs i x below ∙ ap (λ y. flat_map f (take i xs) ++ f y) (sym is))

-- the part of the next number
pub next_number : {A : Type 0} (f : ℕ → List A) (first n : ℕ) → flat_map f (range_with_len first (suc n)) ≡ flat_map f (range_with_len first n) ++ f (first + n)
next_number f first zero =
    let same : first ≡ first + 0 = omega arith in
    append-nil (f first) ∙ ap f same
next_number f first (suc n) =
    let same : first + 1 + n ≡ first + suc n = omega arith in
    ap (λ l. f first ++ l) (next_number f (first + 1) n ∙ ap (λ m. flat_map f (range_with_len (first + 1) n) ++ f m) same)
    ∙ sym (append_assoc (f first) (flat_map f (range_with_len (first + 1) n)) (f (first + suc n)))

-- the part of one more number from 0 on
pub one_number_more : {A : Type 0} (f : ℕ → List A) (i : ℕ) → flat_map f (range_with_len 0 (i + 1)) ≡ flat_map f (range_with_len 0 i) ++ f i
one_number_more f i =
    let same : i + 1 ≡ suc i = omega arith in
    let none : 0 + i ≡ i = omega arith in
    ap (λ n. flat_map f (range_with_len 0 n)) same ∙ next_number f 0 i ∙ ap (λ n. flat_map f (range_with_len 0 i) ++ f n) none

next_width : (rows : List (List (List ℕ))) (column i : ℕ) (d : List (List ℕ)) → i < length rows
    → width (take (suc i) rows) column ≡ max (length (cell_at (get_or rows i d) column)) (width (take i rows) column)
next_width [] column i d below = absurd (omega (arith, below))
next_width (row ∷ rows) column zero d below = omega arith
next_width (row ∷ rows) column (suc i) d below =
    let rest = next_width rows column i d (omega (arith, below)) in
    ap (λ n. max (length (cell_at row column)) n) rest ∙ omega arith

-- the width of one row more, for `width`
pub one_width_more : (rows : List (List (List ℕ))) (column i : ℕ) (row : List (List ℕ)) → i < length rows → row ≡ get_or rows i row
    → width (take (i + 1) rows) column ≡ max (length (cell_at row column)) (width (take i rows) column)
one_width_more rows column i row below is =
    let same : i + 1 ≡ suc i = omega arith in
    ap (λ n. width (take n rows) column) same ∙ next_width rows column i row below ∙ ap (λ r. max (length (cell_at r column)) (width (take i rows) column)) (sym is)

-- the part of the next element with its number
pub next_ranked : {X A : Type 0} (f : ℕ × X → List A) (first : ℕ) (xs : List X) (i : ℕ) (d : X) → i < length xs
    → flat_map f (enumerate_from first (take (suc i) xs)) ≡ flat_map f (enumerate_from first (take i xs)) ++ f (first + i, get_or xs i d)
next_ranked f first [] i d below = absurd (omega (arith, below))
next_ranked f first (x ∷ xs) zero d below =
    let none : first ≡ first + 0 = omega arith in
    append-nil (f (first, x)) ∙ ap (λ n. f (n, x)) none
next_ranked f first (x ∷ xs) (suc i) d below =
    let same : first + 1 + i ≡ first + suc i = omega arith in
    ap (λ l. f (first, x) ++ l)
    (next_ranked f (first + 1) xs i d (omega (arith, below)) ∙ ap (λ n. flat_map f (enumerate_from (first + 1) (take i xs)) ++ f (n, get_or xs i d)) same)
    ∙ sym (append_assoc (f (first, x)) (flat_map f (enumerate_from (first + 1) (take i xs))) (f (first + suc i, get_or xs i d)))

-- three parts, one after the other
pub three_parts : (start a b c one two three : List ℕ) → one ≡ start ++ a → two ≡ one ++ b → three ≡ two ++ c → three ≡ start ++ (a ++ b ++ c)
three_parts start a b c one two three first second third =
    third ∙ ap (λ l. l ++ c) (second ∙ ap (λ l. l ++ b) first ∙ append_assoc start a b) ∙ append_assoc start (a ++ b) c

pub four_parts : (start a b c d one two three four : List ℕ) → one ≡ start ++ a → two ≡ one ++ b → three ≡ two ++ c → four ≡ three ++ d
    → four ≡ start ++ (a ++ b ++ c ++ d)
four_parts start a b c d one two three four first second third fourth =
    fourth ∙ ap (λ l. l ++ d) (three_parts start a b c one two three first second third) ∙ append_assoc start (a ++ b ++ c) d

pub five_parts : (start a b c d e one two three four five : List ℕ) → one ≡ start ++ a → two ≡ one ++ b → three ≡ two ++ c → four ≡ three ++ d → five ≡ four ++ e
    → five ≡ start ++ (a ++ b ++ c ++ d ++ e)
five_parts start a b c d e one two three four five first second third fourth fifth =
    fifth ∙ ap (λ l. l ++ e) (four_parts start a b c d one two three four first second third fourth) ∙ append_assoc start (a ++ b ++ c ++ d) e
