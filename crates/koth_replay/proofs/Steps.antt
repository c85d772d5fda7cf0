-- One element more, in the loops over cells and over processes.
use Rattle.std.proofs.Common.{◌≡◌, ℕ, zero, suc, ◌+◌, ◌<◌, ◌≤◌, List, [], ◌∷◌, ◌++◌, length, get_or, set, take, drop, map, slice_get, Some, sym, ap, ◌∙◌, append_assoc, append-nil, arith}
use Rattle.{std.specs.List.{flat_map, range_with_len}, std.proofs.lemmas.List.{drop_all, drop_more, drop-append-le, take_more, map_push, set_at, get_or_at, length-take, length-take-le}}
use Rattle.koth_replay.specs.{declared.event.Event.Event, Turn.process_events}

-- a part after what is put
pub put_behind : {X : Type 0} (start so_far part all now new : List X) → now ≡ start ++ so_far → new ≡ now ++ part → all ≡ so_far ++ part → new ≡ start ++ all
put_behind start so_far part all now new is put more = put ∙ ap (λ l. l ++ part) is ∙ append_assoc start so_far part ∙ ap (λ l. start ++ l) (sym more)

pub next_number : {A : Type 0} (f : ℕ → List A) (first n : ℕ) → flat_map f (range_with_len first (suc n)) ≡ flat_map f (range_with_len first n) ++ f (first + n)
next_number f first zero =
    let same : first ≡ first + 0 = omega arith in
    append-nil (f first) ∙ ap f same
next_number f first (suc n) =
    let same : first + 1 + n ≡ first + suc n = omega arith in
    ap (λ l. f first ++ l) (next_number f (first + 1) n ∙ ap (λ m. flat_map f (range_with_len (first + 1) n) ++ f m) same)
    ∙ sym (append_assoc (f first) (flat_map f (range_with_len (first + 1) n)) (f (first + suc n)))

-- the part of one more number from 0 on
pub one_number_more : {A : Type 0} (f : ℕ → List A) (i : ℕ) → flat_map f (range_with_len 0 (i + 1)) ≡ flat_map f (range_with_len 0 i) ++ f i
one_number_more f i =
    let same : i + 1 ≡ suc i = omega arith in
    let none : 0 + i ≡ i = omega arith in
    ap (λ n. flat_map f (range_with_len 0 n)) same ∙ next_number f 0 i ∙ ap (λ n. flat_map f (range_with_len 0 i) ++ f n) none

-- of a list that is new before a place and old from there on, the element at that place
pub at_place : {X : Type 0} (old new : List X) (i : ℕ) (d : X) → i < length old → length new ≡ length old → get_or (take i new ++ drop i old) i d ≡ get_or old i d
at_place old new i d below same =
    let long : i ≤ length new = omega arith in
    ap (λ l. get_or (take i new ++ l) i d) (drop_more old i d below)
    ∙ get_or_at (take i new) (get_or old i d) (drop (i + 1) old) d i (length-take-le i new long)

-- and such a list once that element is new too
pub one_place_more : {X : Type 0} (old new : List X) (i : ℕ) (d : X) → i < length old → length new ≡ length old
    → set (take i new ++ drop i old) i (get_or new i d) ≡ take (i + 1) new ++ drop (i + 1) old
one_place_more old new i d below same =
    let long : i ≤ length new = omega arith in
    let inside : i < length new = omega arith in
    ap (λ l. set (take i new ++ l) i (get_or new i d)) (drop_more old i d below)
    ∙ set_at (take i new) (get_or old i d) (drop (i + 1) old) (get_or new i d) i (length-take-le i new long)
    ∙ sym (append_assoc (take i new) (get_or new i d ∷ []) (drop (i + 1) old))
    ∙ ap (λ l. l ++ drop (i + 1) old) (sym (take_more new i d inside))

-- ---- processes

some_at : (queue : List ℕ) (i x : ℕ) → slice_get queue i ≡ Some x → (i < length queue) × (get_or queue i x ≡ x)
some_at [] i x e = cc
some_at (y ∷ queue) zero x e = (omega arith, cc)
some_at (y ∷ queue) (suc i) x e =
    let rest = some_at queue i x e in
    (omega (arith, rest.0), rest.1)

pub no_process : (start : List Event) (queue : List ℕ) (place : ℕ) → start ≡ start ++ process_events place (take place queue)
no_process start queue place =
    let short : length (take place queue) ≤ place = omega (arith, length-take place queue) in
    sym (append-nil start) ∙ ap (λ l. start ++ map (λ at. Event.Process at) l) (sym (drop_all place (take place queue) short))

-- the event of one process more
pub process_more : (queue : List ℕ) (place i x : ℕ) (start now new : List Event) → place ≤ i → slice_get queue i ≡ Some x
    → now ≡ start ++ process_events place (take i queue) → new ≡ now ++ Event.Process x ∷ [] → new ≡ start ++ process_events place (take (i + 1) queue)
process_more queue place i x start now new behind at so_far put =
    let found = some_at queue i x at in
    let inside : i ≤ length queue = omega (arith, found.0) in
    let long : place ≤ length (take i queue) = omega (arith, length-take-le i queue inside) in
    let rest : drop place (take (i + 1) queue) ≡ drop place (take i queue) ++ x ∷ [] =
    ap (drop place) (take_more queue i x found.0 ∙ ap (λ y. take i queue ++ y ∷ []) found.1) ∙ drop-append-le place (take i queue) (x ∷ []) long in
    put_behind start (process_events place (take i queue)) (Event.Process x ∷ []) (process_events place (take (i + 1) queue)) now new so_far put
    (ap (map (λ at. Event.Process at)) rest ∙ map_push (λ at. Event.Process at) (drop place (take i queue)) x)
