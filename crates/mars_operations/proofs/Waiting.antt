-- What a queue holds, with an array beside it, after each of its steps that move processes between the two. `head` and `count` say which places of
-- the array hold some, and `queue` has those between.
use Rattle.std.proofs.Common.{◌≡◌, ℕ, ◌+◌, ◌-◌, ◌<◌, ◌≤◌, Bool, true, false, min, List, [], ◌∷◌, ◌++◌, length, take, drop, refl, sym, ap, ap₂, ◌∙◌}
use Rattle.std.proofs.Common.{arith, append-nil, append_assoc, length-append, length-drop, take_all, take_at, drop_at, length-take-le, inl, inr}
use Rattle.std.proofs.lemmas.{List.{length-take, take-append-drop, drop_all}, Bool.cases_lt}
use borrow.Rule.Slice.PartMut.{put_mid, mid_of, post_of}
use Rattle.{circular_buffer.specs.Buffer.{Buffer, buffer}, mars_operations.specs.Queue.{Processes, is_empty, processes_in, behind_front, waiting}}

pub waiting-length : (head count : ℕ) (places queue : List ℕ) → head ≤ length places → count ≤ length places → length (waiting head count places queue) ≡ count + length queue
unfolding waiting
waiting-length head count places queue h k =
    omega (
      arith,
      length-append (take count (drop head places)) (queue ++ take (head + count - length places) places),
      length-append queue (take (head + count - length places) places),
      length-take count (drop head places),
      length-drop head places,
      length-take (head + count - length places) places,
    )

pub by_order : {X : Type 0} → (m n : ℕ) → (m < n → X) → (n ≤ m → X) → X
by_order m n below above = elim (cases_lt m n) [
  | inl h ↦ below h
  | inr h ↦ above h
]

-- the first `count` places are put after the items of a ring, and then its first ones into the n places from m on
module _ (m n count r k : ℕ) (places dst : List ℕ) (a b c : Buffer ℕ) (size : length places ≡ m + n) (within : count ≤ m + n) (room : count + length a.items ≤ a.capacity)
    (r_is : r ≡ min (length (take count places)) (a.capacity - length a.items)) (b_is : b ≡ buffer (a.items ++ take r (take count places)) a.capacity)
    (k_is : k ≡ min (length (mid_of m n places)) (length b.items)) (dst_is : dst ≡ take k b.items ++ drop k (mid_of m n places)) (c_is : c ≡ buffer (drop k b.items) b.capacity) where
  filled : b.items ≡ a.items ++ take count places
  filled =
      let all : take r (take count places) ≡ take count places = take_all r (take count places) (omega (arith, length-take count places)) in
      ap (λ (b : Buffer ℕ). b.items) b_is ∙ ap (λ xs. a.items ++ xs) all

  middle : length (mid_of m n places) ≡ n
  middle = omega (arith, length-take n (drop m places), length-drop m places)

  dst_size : length dst ≡ n
  dst_size = omega (arith, ap length dst_is, length-append (take k b.items) (drop k (mid_of m n places)), length-take k b.items, length-drop k (mid_of m n places), middle)

  pub exchanged-size : length (put_mid m n places dst) ≡ m + n
  exchanged-size =
      omega (arith, dst_size, length-append (take m places) (dst ++ post_of m n places), length-append dst (post_of m n places), length-take m places, length-drop n (drop m places), length-drop m places)

  pub exchanged : waiting m k (put_mid m n places dst) c.items ≡ waiting (m + n) count places a.items
  unfolding waiting
  exchanged =
      let rest = a.items ++ take count places in
      let old : take count (drop (m + n) places) ≡ [] = ap (take count) (drop_all (m + n) places (omega arith)) ∙ take_all count [] (omega arith) in
      let n0 : m + n + count - length places ≡ count = omega arith in
      let n1 : m + k - length (put_mid m n places dst) ≡ 0 = omega (arith, exchanged-size, middle) in
      let found : length (take k b.items) ≡ k = length-take-le k b.items (omega arith) in
      let first : drop m (put_mid m n places dst) ≡ dst ++ post_of m n places = drop_at (take m places) (dst ++ post_of m n places) m (length-take-le m places (omega arith)) in
      let next : take k (dst ++ post_of m n places) ≡ take k b.items =
      ap (λ xs. take k (xs ++ post_of m n places)) dst_is ∙ (ap (take k) (append_assoc (take k b.items) (drop k (mid_of m n places)) (post_of m n places)) ∙ take_at (take k b.items) (drop k (mid_of m n places) ++ post_of m n places) k found) in
      let left : c.items ≡ drop k b.items = ap (λ (b : Buffer ℕ). b.items) c_is in
      let new : take k (drop m (put_mid m n places dst)) ++ (c.items ++ take (m + k - length (put_mid m n places dst)) (put_mid m n places dst)) ≡ rest =
      ap₂ (λ xs ys. xs ++ ys) (ap (take k) first ∙ next) (ap₂ (λ xs i. xs ++ take i (put_mid m n places dst)) left n1 ∙ append-nil (drop k b.items)) ∙ (take-append-drop k b.items ∙ filled) in
      new ∙ sym (ap₂ (λ xs i. xs ++ (a.items ++ take i places)) old n0)

-- the processes from the beginning of the places on are queued, and one after them
pub waiting-queued : (head count past x : ℕ) (places queue : List ℕ) → head ≤ length places → length places ≤ head + count → past + length places ≡ head + count →
    waiting head (count - past) places (queue ++ (take past places ++ x ∷ [])) ≡ waiting head count places queue ++ x ∷ []
unfolding waiting
waiting-queued head count past x places queue h b is =
    let all : take (count - past) (drop head places) ≡ drop head places = take_all (count - past) (drop head places) (omega (arith, length-drop head places)) in
    let all' : take count (drop head places) ≡ drop head places = take_all count (drop head places) (omega (arith, length-drop head places)) in
    let n1 : head + (count - past) - length places ≡ 0 = omega arith in
    let n2 : head + count - length places ≡ past = omega arith in
    rw (n1, n2, all, all', append-nil) (simp append_assoc)

-- if there is room for it, the places from the beginning on are put after the items of a ring, and one after them
pub taken : (head count past x r : ℕ) (places : List ℕ) (a b c : Buffer ℕ) → head ≤ length places → past + length places ≡ head + count → count ≤ length places → count + length a.items < a.capacity →
    r ≡ min (length (take past places)) (a.capacity - length a.items) → b ≡ buffer (a.items ++ take r (take past places)) a.capacity → (length b.items < b.capacity → c ≡ buffer (b.items ++ x ∷ []) b.capacity) →
    waiting head (count - past) places c.items ≡ take a.capacity (waiting head count places a.items ++ x ∷ [])
taken head count past x r places a b c h is k room r_is b_is pushed =
    let all : take r (take past places) ≡ take past places = take_all r (take past places) (omega (arith, length-take past places)) in
    let b_is' : b ≡ buffer (a.items ++ take past places) a.capacity = b_is ∙ ap (λ xs. buffer (a.items ++ xs) a.capacity) all in
    let size : length b.items ≡ length a.items + length (take past places) = ap (λ (b : Buffer ℕ). length b.items) b_is' ∙ length-append a.items (take past places) in
    let capacity : b.capacity ≡ a.capacity = ap (λ (b : Buffer ℕ). b.capacity) b_is' in
    let c_is : c.items ≡ a.items ++ (take past places ++ x ∷ []) =
    ap (λ (c : Buffer ℕ). c.items) (pushed (omega (arith, length-take past places))) ∙ (ap (λ (b : Buffer ℕ). b.items ++ x ∷ []) b_is' ∙ append_assoc a.items (take past places) (x ∷ [])) in
    let whole : length (waiting head count places a.items ++ x ∷ []) ≤ a.capacity =
    omega (arith, length-append (waiting head count places a.items) (x ∷ []), waiting-length head count places a.items h k) in
    ap (waiting head (count - past) places) c_is
    ∙ (waiting-queued head count past x places a.items h (omega arith) is ∙ sym (take_all a.capacity (waiting head count places a.items ++ x ∷ []) whole))

-- if there is none, nothing changes
pub full : (head count x limit : ℕ) (places queue : List ℕ) → head ≤ length places → count ≤ length places → count + length queue ≡ limit → waiting head count places queue ≡ take limit (waiting head count places queue ++ x ∷ [])
full head count x limit places queue h k is = sym (take_at (waiting head count places queue) (x ∷ []) limit (waiting-length head count places queue h k ∙ is))

-- the last places are put after the items of a ring, and the first ones before them
pub closed : (head count end r : ℕ) (places : List ℕ) (a b c : Buffer ℕ) → head ≤ length places → end ≡ min (head + count) (length places) → count + length a.items ≤ a.capacity →
    r ≡ min (length (take (head + count - end) places)) (a.capacity - length a.items) → b ≡ buffer (a.items ++ take r (take (head + count - end) places)) a.capacity →
    c ≡ buffer (mid_of head (end - head) places ++ b.items) b.capacity → c ≡ buffer (waiting head count places a.items) a.capacity
unfolding waiting
closed head count end r places a b c h end_is room r_is b_is c_is =
    let last = head + count - end in
    let all : take r (take last places) ≡ take last places = take_all r (take last places) (omega (arith, length-take last places)) in
    let same : last ≡ head + count - length places = omega arith in
    let b_is' : b ≡ buffer (a.items ++ take (head + count - length places) places) a.capacity =
    b_is ∙ (ap (λ xs. buffer (a.items ++ xs) a.capacity) all ∙ ap (λ n. buffer (a.items ++ take n places) a.capacity) same) in
    let first : take (end - head) (drop head places) ≡ take count (drop head places) =
    by_order (head + count) (length places)
    (λ (b : head + count < length places). ap (λ n. take n (drop head places)) (omega arith))
    (λ (b : length places ≤ head + count). take_all (end - head) (drop head places) (omega (arith, length-drop head places)) ∙ sym (take_all count (drop head places) (omega (arith, length-drop head places)))) in
    c_is ∙ ap₂ (λ xs (b : Buffer ℕ). buffer (xs ++ b.items) b.capacity) first b_is'

-- what the parts of a queue that has a front process say, and after one of their steps
pub parts-live : (has_front : Bool) (front : ℕ) (rest : Buffer ℕ) (q : Processes) → processes_in has_front front rest ≡ q → is_empty q.addresses ≡ false →
    (has_front ≡ true) × (behind_front q.addresses ≡ rest.items) × (q.limit ≡ rest.capacity + 1) × (length q.addresses ≡ length rest.items + 1)
parts-live true front rest q e live =
    (refl, ap (λ (q : Processes). behind_front q.addresses) (sym e), ap (λ (q : Processes). q.limit) (sym e), ap (λ (q : Processes). length q.addresses) (sym e) ∙ omega arith)
parts-live false front rest q e live = cc (ap (λ (q : Processes). is_empty q.addresses) e)

pub behind-parts : (has_front : Bool) (front : ℕ) (rest : Buffer ℕ) → has_front ≡ true → behind_front (processes_in has_front front rest).addresses ≡ rest.items
behind-parts has_front front rest e = ap (λ (b : Bool). behind_front (processes_in b front rest).addresses) e
