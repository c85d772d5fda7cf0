-- What is kept is true, and stays true: each row has its member's matches with those before it.
use Rattle.std.proofs.Common.{◌≡◌, ℕ, ◌+◌, ◌<◌, ◌≤◌, Bool, true, false, List, [], ◌∷◌, ◌++◌, length, take, drop, map, remove, refl, sym, ap, ap₂, subst, ◌∙◌, arith, suc, zero, All, Option, None, Some}
use Rattle.{std.proofs.Common.{append_assoc, append-nil}, std.specs.Prelude.if◌then◌else◌, std.proofs.lemmas.List.{map-append, map-id, take-map, drop-map, take_all, drop_all, length-map, length_push}}
use Rattle.{std.proofs.{lemmas.List.Elements.{All-head, All-tail}, lemmas.List.Quantifiers.position-Some}, war_types.specs.{declared.settings.RawSettings.RawSettings, Warrior.WarriorParts}}
use Rattle.koth_match.specs.{declared.bout.Bout.Bout, Match.match_of}
use Rattle.koth_hill.specs.{Hill.{Member, RiseFrom, fights}, Table.table, Step.{challenger, enlarged, falling_by, is_entry, without, one_older, stays_by, step_by, step, matches_with, verdict}}
use Rattle.koth_hill.specs.Kept.{Kept, hill_in, rows_with, fought_from, AreTrue, kept_results, entries_of, table_kept, fresh, known, verdict_kept, fallen_place, without_place, rows_left, kept_stay}
use Rattle.koth_hill.specs.Kept.{kept_fall, step_kept, IsKept}
use Rattle.koth_hill.proofs.{Members.{older, removed-first, removed-none}, Admitted.enlarged-rising, Agrees.{Agree, table_by-agree, verdict_by-agree, step_by-agree}, Looked.fought-looked}

-- ---- rows

-- rows are the same if each match of theirs gives the same
pub rows_with-same : {X Y : Type 0} (f g : X → X → Y) (before xs : List X) → All (λ younger. (older : X) → f older younger ≡ g older younger) xs → rows_with f before xs ≡ rows_with g before xs
rows_with-same f g before [] same = refl
rows_with-same {X} f g before (x ∷ xs) same =
    let here : (older : X) → f older x ≡ g older x = All-head (λ younger. (older : X) → f older younger ≡ g older younger) x xs same in
    ap₂ (λ row rows. row ∷ rows) (each before here)
    (rows_with-same f g (before ++ x ∷ []) xs (All-tail (λ younger. (older : X) → f older younger ≡ g older younger) x xs same))
  where
    each : (ys : List X) → ((older : X) → f older x ≡ g older x) → map (λ older. f older x) ys ≡ map (λ older. g older x) ys
    each [] here = refl
    each (y ∷ ys) here = ap₂ (λ z zs. z ∷ zs) (here y) (each ys here)

-- rows of what is shown of each are rows of each
rows_with-shown : {X Z Y : Type 0} (f : Z → Z → Y) (g : X → Z) (before xs : List X) → rows_with f (map g before) (map g xs) ≡ rows_with (λ a b. f (g a) (g b)) before xs
rows_with-shown f g before [] = refl
rows_with-shown {X} f g before (x ∷ xs) =
    ap₂ (λ row rows. row ∷ rows) (each before)
    (ap (λ zs. rows_with f zs (map g xs)) (sym (map-append g before (x ∷ []))) ∙ rows_with-shown f g (before ++ x ∷ []) xs)
  where
    each : (ys : List X) → map (λ older. f older (g x)) (map g ys) ≡ map (λ older. f (g older) (g x)) ys
    each [] = refl
    each (y ∷ ys) = ap (λ row. f (g y) (g x) ∷ row) (each ys)

pub rows_with-map : {X Z Y : Type 0} (f : Z → Z → Y) (g : X → Z) (xs : List X) → rows_with f [] (map g xs) ≡ rows_with (λ a b. f (g a) (g b)) [] xs
rows_with-map f g xs = rows_with-shown f g [] xs

-- a row for each
pub length-rows_with : {X Y : Type 0} (f : X → X → Y) (before xs : List X) → length (rows_with f before xs) ≡ length xs
length-rows_with f before [] = refl
length-rows_with f before (x ∷ xs) = ap suc (length-rows_with f (before ++ x ∷ []) xs)

-- ---- one more

rows_with-behind : {X Y : Type 0} (f : X → X → Y) (before xs : List X) (c : X) →
    rows_with f before (xs ++ c ∷ []) ≡ rows_with f before xs ++ map (λ older. f older c) (before ++ xs) ∷ []
rows_with-behind f before [] c = ap (λ ys. map (λ older. f older c) ys ∷ []) (sym (append-nil before))
rows_with-behind f before (x ∷ xs) c =
    ap (λ rows. map (λ older. f older x) before ∷ rows) (rows_with-behind f (before ++ x ∷ []) xs c
    ∙ ap (λ ys. rows_with f (before ++ x ∷ []) xs ++ map (λ older. f older c) ys ∷ []) (append_assoc before (x ∷ []) xs))

pub rows_with-push : {X Y : Type 0} (f : X → X → Y) (xs : List X) (c : X) → rows_with f [] (xs ++ c ∷ []) ≡ rows_with f [] xs ++ map (λ older. f older c) xs ∷ []
rows_with-push f xs c = rows_with-behind f [] xs c

pub fought-push : (s : RawSettings) (ms : List Member) (c : Member) → fought_from s [] (ms ++ c ∷ []) ≡ fought_from s [] ms ++ matches_with s ms c.warrior ∷ []
fought-push s ms c = rows_with-push (λ (older younger : Member). match_of s older.warrior younger.warrior) ms c

pub length-fought : (s : RawSettings) (before ms : List Member) → length (fought_from s before ms) ≡ length ms
length-fought s before ms = length-rows_with (λ (older younger : Member). match_of s older.warrior younger.warrior) before ms

-- ---- ages

matches-push : (s : RawSettings) (ms : List Member) (m : Member) (w : WarriorParts) → matches_with s (ms ++ m ∷ []) w ≡ matches_with s ms w ++ match_of s m.warrior w ∷ []
matches-push s ms m w = map-append (λ (x : Member). match_of s x.warrior w) ms (m ∷ [])

pub matches-older : (s : RawSettings) (ms : List Member) (w : WarriorParts) → matches_with s (one_older ms) w ≡ matches_with s ms w
matches-older s [] w = refl
matches-older s (m ∷ ms) w = ap (λ (bs : List Bout). match_of s m.warrior w ∷ bs) (matches-older s ms w)

fought_from-older : (s : RawSettings) (aged before ms : List Member) → ((w : WarriorParts) → matches_with s aged w ≡ matches_with s before w) →
    fought_from s aged (one_older ms) ≡ fought_from s before ms
fought_from-older s aged before [] same = refl
fought_from-older s aged before (m ∷ ms) same =
    ap₂ (λ (row : List Bout) (rows : List (List Bout)). row ∷ rows) (same m.warrior)
    (fought_from-older s (aged ++ older m ∷ []) (before ++ m ∷ []) ms
    (λ w. matches-push s aged (older m) w ∙ ap (λ (row : List Bout). row ++ match_of s m.warrior w ∷ []) (same w) ∙ sym (matches-push s before m w)))

pub fought-older : (s : RawSettings) (ms : List Member) → fought_from s [] (one_older ms) ≡ fought_from s [] ms
fought-older s ms = fought_from-older s [] [] ms (λ w. refl)

-- ---- one less

pub map-remove : {X Y : Type 0} (f : X → Y) (xs : List X) (i : ℕ) → map f (remove xs i) ≡ remove (map f xs) i
map-remove f xs i = map-append f (take i xs) (drop (suc i) xs) ∙ ap₂ (λ us vs. us ++ vs) (sym (take-map f i xs)) (sym (drop-map f (suc i) xs))

pub remove-past : {X : Type 0} (xs : List X) (i : ℕ) → length xs ≤ i → remove xs i ≡ xs
remove-past xs i past = ap₂ (λ us vs. us ++ vs) (take_all i xs past) (drop_all (suc i) xs (omega (arith, past))) ∙ append-nil xs

pub matches-left : (s : RawSettings) (ms : List Member) (i : ℕ) (w : WarriorParts) → matches_with s (remove ms i) w ≡ remove (matches_with s ms w) i
matches-left s ms i w = map-remove (λ (m : Member). match_of s m.warrior w) ms i

remove-middle : {X : Type 0} (xs ys : List X) (x : X) → remove (xs ++ x ∷ ys) (length xs) ≡ xs ++ ys
remove-middle [] ys x = refl
remove-middle (y ∷ xs) ys x = ap (λ zs. y ∷ zs) (remove-middle xs ys x)

-- after the one that goes, each row is without it
rows_with-without : {X Y : Type 0} (f : X → X → Y) (before : List X) (m : X) (between xs : List X) →
    map (λ row. remove row (length before)) (rows_with f (before ++ m ∷ between) xs) ≡ rows_with f (before ++ between) xs
rows_with-without f before m between [] = refl
rows_with-without f before m between (y ∷ xs) =
    ap₂ (λ row rows. row ∷ rows)
    (sym (map-remove (λ older. f older y) (before ++ m ∷ between) (length before)) ∙ ap (λ ys. map (λ older. f older y) ys) (remove-middle before between m))
    (ap (λ ys. map (λ row. remove row (length before)) (rows_with f ys xs)) (append_assoc before (m ∷ between) (y ∷ []))
    ∙ rows_with-without f before m (between ++ y ∷ []) xs
    ∙ ap (λ ys. rows_with f ys xs) (sym (append_assoc before between (y ∷ []))))

rows_with-less : {X Y : Type 0} (f : X → X → Y) (before xs : List X) (i : ℕ) → i < length xs →
    map (λ row. remove row (length before + i)) (remove (rows_with f before xs) i) ≡ rows_with f before (remove xs i)
rows_with-less f before [] i within = absurd (omega (arith, within))
rows_with-less f before (m ∷ xs) zero within =
    let none : length before + 0 ≡ length before = omega arith in
    ap (λ (n : ℕ). map (λ row. remove row n) (rows_with f (before ++ m ∷ []) xs)) none
    ∙ rows_with-without f before m [] xs
    ∙ ap (λ ys. rows_with f ys xs) (append-nil before)
rows_with-less f before (m ∷ xs) (suc i) within =
    let long : length (map (λ older. f older m) before) ≡ length before = length-map before (λ older. f older m) in
    let place : length before + suc i ≡ length (before ++ m ∷ []) + i = omega (arith, length_push before m) in
    ap₂ (λ row rows. row ∷ rows)
    (remove-past (map (λ older. f older m) before) (length before + suc i) (omega (arith, long)))
    (ap (λ (n : ℕ). map (λ row. remove row n) (remove (rows_with f (before ++ m ∷ []) xs) i)) place
    ∙ rows_with-less f (before ++ m ∷ []) xs i (omega (arith, within)))

-- without the one at a place, the rows are those that are left, each without the result with that one
pub rows_with-left : {X Y : Type 0} (f : X → X → Y) (xs : List X) (i : ℕ) → i < length xs →
    rows_with f [] (remove xs i) ≡ map (λ row. remove row i) (remove (rows_with f [] xs) i)
rows_with-left f xs i within =
    let place : 0 + i ≡ i = omega arith in
    sym (rows_with-less f [] xs i within) ∙ ap (λ (n : ℕ). map (λ row. remove row n) (remove (rows_with f [] xs) i)) place

-- without the member at a place, the rows are those that are left
pub fought-left : (s : RawSettings) (ms : List Member) (i : ℕ) → i < length ms → fought_from s [] (remove ms i) ≡ rows_left (Some i) (fought_from s [] ms)
fought-left s ms i within = rows_with-left (λ (older younger : Member). match_of s older.warrior younger.warrior) ms i within

-- ---- looked up

-- the kept results with the challenger's own
enlarged-true : (k : Kept) (w : WarriorParts) → AreTrue k → k.results ++ fresh k w ∷ [] ≡ fought_from k.settings [] (enlarged (hill_in k) w)
enlarged-true k w holds = ap (λ (rows : List (List Bout)). rows ++ fresh k w ∷ []) holds ∙ sym (fought-push k.settings k.members (challenger (hill_in k) w))

pub known-agrees : (k : Kept) (w : WarriorParts) → IsKept k → AreTrue k → Agree (known k w) (fights k.settings) (enlarged (hill_in k) w)
known-agrees k w is holds =
    let P : List (List Bout) → Type 0 = λ rows. Agree (kept_results (entries_of (enlarged (hill_in k) w)) rows) (fights k.settings) (enlarged (hill_in k) w) in
    subst P (sym (enlarged-true k w holds)) (fought-looked k.settings (enlarged (hill_in k) w) (enlarged-rising (hill_in k) w is.hill))

-- a verdict by what is kept is that of every pair fought again
pub true-verdict : (k : Kept) (w : WarriorParts) → IsKept k → AreTrue k → verdict_kept k w ≡ verdict (hill_in k) w
true-verdict k w is holds = verdict_by-agree (known k w) (fights k.settings) (fresh k w) (hill_in k) w (known-agrees k w is holds)

kept-agrees : (k : Kept) → IsKept k → AreTrue k → Agree (kept_results (entries_of k.members) k.results) (fights k.settings) k.members
kept-agrees k is holds =
    let P : List (List Bout) → Type 0 = λ rows. Agree (kept_results (entries_of k.members) rows) (fights k.settings) k.members in
    subst P (sym holds) (fought-looked k.settings k.members is.hill.rising)

-- and so is the table
pub true-table : (k : Kept) → IsKept k → AreTrue k → table_kept k ≡ table (hill_in k)
unfolding table
true-table k is holds = table_by-agree (kept_results (entries_of k.members) k.results) (fights k.settings) k.members (kept-agrees k is holds)

-- ---- steps

either-hill : (b : Bool) (x y : Kept) → hill_in (if b then x else y) ≡ (if b then hill_in x else hill_in y)
either-hill true x y = refl
either-hill false x y = refl

-- the hill in what is kept steps by what is known, whether or not that is true
pub hill-step : (k : Kept) (w : WarriorParts) → hill_in (step_kept k w) ≡ step_by (known k w) (hill_in k) w
unfolding step_by
hill-step k w = either-hill (stays_by (known k w) (hill_in k) w) (kept_stay k w (falling_by (known k w) (hill_in k) w)) (kept_fall k)

-- what is left of true rows is true, wherever the one stood that goes
true-left : (s : RawSettings) (before : ℕ) (ms : List Member) (fallen place : Option ℕ) → RiseFrom before ms → fallen_place fallen ms ≡ place →
    rows_left place (fought_from s [] ms) ≡ fought_from s [] (without fallen ms)
true-left s before ms fallen None rising found =
    map-id (fought_from s [] ms) ∙ ap (λ (xs : List Member). fought_from s [] xs) (removed-none fallen ms found)
true-left s before [] fallen (Some i) rising found = cc
true-left s before (m ∷ ms) fallen (Some i) rising found =
    let first = position-Some (λ x. is_entry x.entry fallen) (m ∷ ms) i m found in
    sym (fought-left s (m ∷ ms) i first.0) ∙ ap (λ (xs : List Member). fought_from s [] xs) (removed-first fallen before (m ∷ ms) i m rising found)

fresh-left : (s : RawSettings) (before : ℕ) (ms : List Member) (fallen place : Option ℕ) (w : WarriorParts) → RiseFrom before ms → fallen_place fallen ms ≡ place →
    without_place place (matches_with s ms w) ≡ matches_with s (without fallen ms) w
fresh-left s before ms fallen None w rising found = ap (λ (xs : List Member). matches_with s xs w) (removed-none fallen ms found)
fresh-left s before [] fallen (Some i) w rising found = cc
fresh-left s before (m ∷ ms) fallen (Some i) w rising found =
    sym (matches-left s (m ∷ ms) i w) ∙ ap (λ (xs : List Member). matches_with s xs w) (removed-first fallen before (m ∷ ms) i m rising found)

pub true-stay : (k : Kept) (w : WarriorParts) (fallen : Option ℕ) → IsKept k → AreTrue k → AreTrue (kept_stay k w fallen)
true-stay k w fallen is holds =
    ap₂ (λ (rows : List (List Bout)) (row : List Bout). rows ++ row ∷ [])
    (ap (λ (rows : List (List Bout)). rows_left (fallen_place fallen k.members) rows) holds
    ∙ true-left k.settings 0 k.members fallen (fallen_place fallen k.members) is.hill.rising refl
    ∙ sym (fought-older k.settings (without fallen k.members)))
    (fresh-left k.settings 0 k.members fallen (fallen_place fallen k.members) w is.hill.rising refl
    ∙ sym (matches-older k.settings (without fallen k.members) w))
    ∙ sym (fought-push k.settings (one_older (without fallen k.members)) (challenger (hill_in k) w))

either-true : (b : Bool) (x y : Kept) → AreTrue x → AreTrue y → AreTrue (if b then x else y)
either-true true x y stay fall = stay
either-true false x y stay fall = fall

-- what is kept stays true
pub still-true : (k : Kept) (w : WarriorParts) → IsKept k → AreTrue k → AreTrue (step_kept k w)
still-true k w is holds =
    either-true (stays_by (known k w) (hill_in k) w) (kept_stay k w (falling_by (known k w) (hill_in k) w)) (kept_fall k)
    (true-stay k w (falling_by (known k w) (hill_in k) w) is holds) holds

-- a step by what is kept is that of every pair fought again
pub true-step : (k : Kept) (w : WarriorParts) → IsKept k → AreTrue k → hill_in (step_kept k w) ≡ step (hill_in k) w
true-step k w is holds = hill-step k w ∙ step_by-agree (known k w) (fights k.settings) (hill_in k) w (known-agrees k w is holds)
