-- What a window's processes are after each of its steps. `head` and `count` are its own, n places hold them, and `queue` has those between.
use Rattle.std.proofs.Common.{◌≡◌, ℕ, ◌+◌, ◌-◌, ◌<◌, ◌≤◌, true, false, List, [], ◌∷◌, ◌++◌, length, take, drop, set, get_or, refl, sym, ap, ◌∙◌, arith}
use Rattle.std.proofs.Common.{add-one, append-nil, append_assoc, length-append, length-drop, drop-cons, take_all, suc, zero, slice_get, Some, None, bit_and, ◌%◌, mod-eq_of_lt}
use Rattle.std.proofs.lemmas.{List.{length-set, drop-set-lt, drop-set-add, take_more_set}, Nat.and_mask}
use Rattle.{mars_operations.proofs.Waiting.{waiting-length, by_order}, mars_core.specs.{Queue.{Processes, processes, queued, behind_front, waiting}, Round.is_empty}}
use Rattle.mars_core.specs.{declared.window.Window.Window, Window.{held, IsWindow}}

-- an empty window
pub waiting-none : (places queue : List ℕ) → waiting (length places) 0 places queue ≡ queue
unfolding waiting
waiting-none places queue =
    let none : length places + 0 - length places ≡ 0 = omega arith in
    rw (none, append-nil) refl

-- its first process is taken
pub waiting-first : (head count : ℕ) (places queue : List ℕ) → head < length places → 0 < count → waiting head count places queue ≡ get_or places head 0 ∷ waiting (head + 1) (count - 1) places queue
unfolding waiting
waiting-first head zero places queue h k = absurd (omega (arith, k))
waiting-first head (suc count) places queue h k =
    let first : drop head places ≡ get_or places head 0 ∷ drop (head + 1) places = rw add-one (drop-cons places head 0 h) in
    let same : head + suc count - length places ≡ head + 1 + count - length places = omega arith in
    let less : suc count - 1 ≡ count = omega arith in
    rw (less, first, same) refl

next-inside : (head count at x : ℕ) (places queue : List ℕ) → at ≡ head + count → head + count < length places → length queue ≡ 0 →
    waiting head (count + 1) (set places at x) queue ≡ waiting head count places queue ++ x ∷ []
unfolding waiting
next-inside head count at x places [] is b none =
    let moved : drop head (set places (head + count) x) ≡ set (drop head places) count x = drop-set-add head places count x in
    let more : take (count + 1) (set (drop head places) count x) ≡ take count (drop head places) ++ x ∷ [] = take_more_set (drop head places) count x (omega (arith, length-drop head places)) in
    let n1 : head + (count + 1) - length (set places (head + count) x) ≡ 0 = omega (arith, length-set places (head + count) x) in
    let n2 : head + count - length places ≡ 0 = omega arith in
    rw (is, n1, n2, moved, more) (simp append-nil)
next-inside head count at x places (q ∷ qs) is b none = absurd (omega (arith, none))

next-past : (head count at x : ℕ) (places queue : List ℕ) → head ≤ length places → count < length places → at + length places ≡ head + count → length places ≤ head + count →
    waiting head (count + 1) (set places at x) queue ≡ waiting head count places queue ++ x ∷ []
unfolding waiting
next-past head count at x places queue h k is b =
    let kept : drop head (set places at x) ≡ drop head places = drop-set-lt head places at x (omega arith) in
    let all : take (count + 1) (drop head places) ≡ drop head places = take_all (count + 1) (drop head places) (omega (arith, length-drop head places)) in
    let all' : take count (drop head places) ≡ drop head places = take_all count (drop head places) (omega (arith, length-drop head places)) in
    let n1 : head + (count + 1) - length (set places at x) ≡ at + 1 = omega (arith, length-set places at x) in
    let n2 : head + count - length places ≡ at = omega arith in
    let more : take (at + 1) (set places at x) ≡ take at places ++ x ∷ [] = take_more_set places at x (omega arith) in
    rw (n1, n2, kept, all, all', more, append_assoc, append_assoc) refl

first-of : (xs : List ℕ) (a : ℕ) → slice_get xs 0 ≡ Some a → a ∷ behind_front xs ≡ xs
first-of [] a is = cc
first-of (x ∷ xs) a is =
    let same : x ≡ a = cc in
    ap (λ a. a ∷ xs) (sym same)

-- one that was just made
pub opened : (n a : ℕ) (places : List ℕ) (q : Processes) → length places ≡ n → slice_get q.addresses 0 ≡ Some a → processes q.limit (a ∷ waiting n 0 places (behind_front q.addresses)) ≡ q
opened n a places q size is =
    let none : waiting n 0 places (behind_front q.addresses) ≡ behind_front q.addresses = ap (λ n. waiting n 0 places (behind_front q.addresses)) (sym size) ∙ waiting-none places (behind_front q.addresses) in
    ap (λ xs. processes q.limit (a ∷ xs)) none ∙ ap (processes q.limit) (first-of q.addresses a is)

pub empty-list : (xs : List ℕ) → length xs ≡ 0 → true ≡ is_empty xs
empty-list [] e = refl
empty-list (x ∷ xs) e = absurd (omega (arith, e))

pub filled-list : (xs : List ℕ) → 0 < length xs → false ≡ is_empty xs
filled-list [] h = absurd (omega (arith, h))
filled-list (x ∷ xs) h = refl

pub behind-length : (xs : List ℕ) → is_empty xs ≡ false → length (behind_front xs) + 1 ≡ length xs
behind-length [] e = cc
behind-length (x ∷ xs) e = omega arith

-- how many processes a window holds
pub held-length : (w : Window) (places : List ℕ) (q : Processes) → IsWindow w places q → length (waiting w.head w.count places (behind_front q.addresses)) + 1 ≡ w.count + length q.addresses
held-length w places q kept =
    omega (
      arith,
      kept.size,
      kept.head,
      kept.count,
      kept.room,
      behind-length q.addresses kept.lives,
      waiting-length w.head w.count places (behind_front q.addresses) (omega (arith, kept.size, kept.head)) (omega (arith, kept.size, kept.count, kept.room)),
    )

-- a place round the end
place-below : (i : ℕ) → i < 1024 → bit_and i 1023 ≡ i
place-below i h = and_mask i 10 ∙ mod-eq_of_lt h

place-above : (i n : ℕ) → n ≡ 1024 → n ≤ i → i < 2048 → bit_and i 1023 + n ≡ i
place-above i n size h k =
    let rest : i % 1024 ≡ i - 1024 = omega arith in
    let is : bit_and i 1023 ≡ i - 1024 = and_mask i 10 ∙ rest in
    omega arith

-- another is put after the last one, at the next place round the end
pub put-next : (x : ℕ) (w : Window) (places : List ℕ) (q : Processes) → IsWindow w places q →
    waiting w.head (w.count + 1) (set places (bit_and (w.head + w.count) 1023) x) (behind_front q.addresses) ≡ waiting w.head w.count places (behind_front q.addresses) ++ x ∷ []
put-next x w places q kept =
    let at = bit_and (w.head + w.count) 1023 in
    let behind = behind-length q.addresses kept.lives in
    by_order (w.head + w.count) (length places)
    (λ (b : w.head + w.count < length places).
    next-inside w.head w.count at x places (behind_front q.addresses) (place-below (w.head + w.count) (omega (arith, kept.size, b))) b (grind (arith, b, kept.size, kept.joined, behind)))
    (λ (b : length places ≤ w.head + w.count).
    next-past w.head w.count at x places (behind_front q.addresses) (omega (arith, kept.size, kept.head)) (omega (arith, kept.size, kept.count, kept.room))
    (place-above (w.head + w.count) (length places) kept.size b (omega (arith, kept.head, kept.count, kept.room))) b)

-- the front process is taken, and another is put after the last one
pub followed : (x front : ℕ) (w : Window) (places : List ℕ) (q : Processes) → IsWindow w places q → w.head < 1024 → front ≡ get_or (set places (bit_and (w.head + w.count) 1023) x) w.head 0 →
    processes q.limit (front ∷ waiting (w.head + 1) w.count (set places (bit_and (w.head + w.count) 1023) x) (behind_front q.addresses))
    ≡ queued (processes q.limit (waiting w.head w.count places (behind_front q.addresses))) (x ∷ [])
followed x front w places q kept inside is =
    let places' = set places (bit_and (w.head + w.count) 1023) x in
    let queue = behind_front q.addresses in
    let old = waiting w.head w.count places queue in
    let first : waiting w.head (w.count + 1) places' queue ≡ get_or places' w.head 0 ∷ waiting (w.head + 1) w.count places' queue =
    waiting-first w.head (w.count + 1) places' queue (omega (arith, inside, kept.size, length-set places (bit_and (w.head + w.count) 1023) x)) (omega arith)
    ∙ ap (λ n. get_or places' w.head 0 ∷ waiting (w.head + 1) n places' queue) (omega arith) in
    let short : length (old ++ x ∷ []) ≤ q.limit = omega (arith, length-append old (x ∷ []), held-length w places q kept, kept.count, kept.room, kept.within) in
    ap (processes q.limit) (ap (λ front. front ∷ waiting (w.head + 1) w.count places' queue) is ∙ (sym first ∙ put-next x w places q kept) ∙ sym (take_all q.limit (old ++ x ∷ []) short))

-- after the first of two was put after the others, a second one is, as far as there is room
pub second : (a b : ℕ) (w0 w : Window) (places0 places : List ℕ) (q0 q : Processes) → IsWindow w0 places0 q0 → held w places q ≡ queued (processes q0.limit (behind_front (held w0 places0 q0).addresses)) (a ∷ []) →
    processes q.limit (take q.limit (w.front ∷ (waiting w.head w.count places (behind_front q.addresses) ++ b ∷ []))) ≡ queued (processes q0.limit (behind_front (held w0 places0 q0).addresses)) (a ∷ b ∷ [])
second a b w0 w places0 places q0 q kept is =
    let rest = waiting w0.head w0.count places0 (behind_front q0.addresses) in
    let short : length (rest ++ a ∷ []) ≤ q0.limit = omega (arith, length-append rest (a ∷ []), held-length w0 places0 q0 kept, kept.count, kept.room, kept.within) in
    let whole : take q0.limit (rest ++ a ∷ []) ≡ rest ++ a ∷ [] = take_all q0.limit (rest ++ a ∷ []) short in
    ap (λ (q : Processes). processes q.limit (take q.limit (q.addresses ++ b ∷ []))) is
    ∙ ap (λ xs. processes q0.limit (take q0.limit xs)) (ap (λ xs. xs ++ b ∷ []) whole ∙ append_assoc rest (a ∷ []) (b ∷ []))

pub take-front : (n x : ℕ) (xs : List ℕ) → 0 < n → x ∷ take (n - 1) xs ≡ take n (x ∷ xs)
take-front zero x xs h = absurd (omega (arith, h))
take-front (suc n) x xs h =
    let less : suc n - 1 ≡ n = omega arith in
    ap (λ n. x ∷ take n xs) less

pub some-first : (xs : List ℕ) (a : ℕ) → is_empty xs ≡ false → slice_get xs 0 ≡ None → slice_get xs 0 ≡ Some a
some-first [] a e is = cc
some-first (x ∷ xs) a e is = cc
