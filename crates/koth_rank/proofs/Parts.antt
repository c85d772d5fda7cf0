-- The lines of parts: for `part`, `names` and `table`.
use Rattle.std.proofs.Common.{◌≡◌, ℕ, ◌+◌, ◌<◌, List, [], ◌∷◌, ◌++◌, map, take, length, get_or, sym, ap, ap₂, ◌∙◌, append-nil, append_assoc, arith}
use Rattle.std.{specs.List.{flat_map, range_with_len}, proofs.lemmas.List.{map_push, take_more, Concat.flat_map-append, FromFn.map-range_with_len_more}}
use Rattle.{koth_text.specs.declared.tally.Tally.Tally, koth_json.specs.Contest.ContenderParts}
use Rattle.koth_contests.specs.Lines.{Entrant, contender}
use Rattle.koth_field.specs.{Field.{entrant_of, entrants_of}, declared.field.Member.Member}
use Rattle.koth_standings.specs.PartText.{RowParts, row_text, rows_text}
use Rattle.koth_rank.specs.{Part.{row_at, rows_of}, Table.contenders_of}

-- the line of one place more
pub rows_more : (entrants : List Entrant) (counts : List Tally) (i : ℕ)
    → rows_text (rows_of entrants counts (i + 1)) ≡ rows_text (rows_of entrants counts i) ++ row_text (row_at entrants counts i)
rows_more entrants counts i =
    let f = row_at entrants counts in
    let place : 0 + i ≡ i = omega arith in
    ap (flat_map row_text) (map-range_with_len_more f 0 i i place)
    ∙ flat_map-append row_text (map f (range_with_len 0 i)) (f i ∷ [])
    ∙ ap (λ l. rows_text (rows_of entrants counts i) ++ l) (append-nil (row_text (f i)))

pub row_put : (start now new : List ℕ) (entrants : List Entrant) (counts : List Tally) (i : ℕ) (row : RowParts) → row ≡ row_at entrants counts i
    → now ≡ start ++ rows_text (rows_of entrants counts i) → new ≡ now ++ row_text row → new ≡ start ++ rows_text (rows_of entrants counts (i + 1))
row_put start now new entrants counts i row is so_far put =
    put ∙ ap₂ (λ a b. a ++ row_text b) so_far is ∙ append_assoc start (rows_text (rows_of entrants counts i)) (row_text (row_at entrants counts i))
    ∙ ap (λ l. start ++ l) (sym (rows_more entrants counts i))

-- a list of one member more, by what it is mapped to
pub mapped_more : {X Y : Type 0} (f : X → Y) (xs : List X) (i : ℕ) (x : X) (ys : List Y) (y : Y) → i < length xs → x ≡ get_or xs i x → y ≡ f x
    → ys ≡ map f (take i xs) → ys ++ y ∷ [] ≡ map f (take (i + 1) xs)
mapped_more f xs i x ys y within is told so_far =
    ap₂ (λ a b. a ++ b ∷ []) so_far told ∙ sym (map_push f (take i xs) x)
    ∙ ap (λ v. map f (take i xs ++ v ∷ [])) is ∙ ap (map f) (sym (take_more xs i x within))

-- what lines say of one member more
pub contenders_more : {A : Type 0} (members : List (Member A)) (i : ℕ) (m : Member A) (old : List ContenderParts) (c : ContenderParts) → i < length members
    → m ≡ get_or members i m → c ≡ contender (entrant_of m) → old ≡ contenders_of (entrants_of (take i members))
    → old ++ c ∷ [] ≡ contenders_of (entrants_of (take (i + 1) members))
contenders_more {A} members i m old c within is told so_far =
    ap₂ (λ a b. a ++ b ∷ []) so_far told ∙ sym (map_push contender (entrants_of (take i members)) (entrant_of m))
    ∙ ap (map contender) (sym (map_push (λ (x : Member A). entrant_of x) (take i members) m)
    ∙ ap (λ v. entrants_of (take i members ++ v ∷ [])) is ∙ ap (λ l. entrants_of l) (sym (take_more members i m within)))

-- ---- texts of several parts

pub put_two : (o t u a b : List ℕ) → t ≡ o ++ a → u ≡ t ++ b → u ≡ o ++ (a ++ b)
put_two o t u a b first second = second ∙ ap (λ l. l ++ b) first ∙ append_assoc o a b

pub put_three : (o t u v a b c : List ℕ) → t ≡ o ++ a → u ≡ t ++ b → v ≡ u ++ c → v ≡ o ++ (a ++ (b ++ c))
put_three o t u v a b c first second third = put_two o u v (a ++ b) c (put_two o t u a b first second) third ∙ ap (λ l. o ++ l) (append_assoc a b c)

pub put_four : (o t u v w a b c d : List ℕ) → t ≡ o ++ a → u ≡ t ++ b → v ≡ u ++ c → w ≡ v ++ d → w ≡ o ++ (a ++ (b ++ (c ++ d)))
put_four o t u v w a b c d first second third fourth =
    put_two o v w (a ++ (b ++ c)) d (put_three o t u v a b c first second third) fourth
    ∙ ap (λ l. o ++ l) (append_assoc a (b ++ c) d ∙ ap (λ l. a ++ l) (append_assoc b c d))
