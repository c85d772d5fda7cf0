-- Counts that stay until a counter or CURLINE changes: what is kept of them, and how a block begins by one.
use Rattle.std.proofs.Common.{◌≡◌, ℕ, zero, suc, ◌+◌, ◌<◌, ◌≤◌, ◌^◌, Bool, true, false, nat_eq, if◌then◌else◌, List, [], ◌∷◌, length, map, drop, replicate, Option, Some, None, Result, Ok, Err, refl, sym, ap, ◌∙◌, arith, subst}
use Rattle.{std.specs.{Prelude.{All, slice_set}}, std.proofs.lemmas.{Bool.{eq-eqb, eqb-false, eqb-true}, Bool.Decides.nat_tests, List.Elements.{All-head, All-tail, All-replicate}}}
use Rattle.std.proofs.{lemmas.List.{get_or-replicate, get_or-set_same, get_or-set_other, length-map, length-replicate, length-set, map-set}}
use Rattle.{redcode_names.specs.Gives.{◌>>=◌}, redcode_names.proofs.Unchanged.replaced-left, redcode_text.specs.Value.value_of, redcode_expand.specs.{declared.counts.Stamped.Stamped, Marks.{line_in, IsSameCount, ReadSame}}}
use Rattle.redcode_expand.specs.Kept.{counter_before, kept_at, latest_of, AreKept, IsLatest, IsStamped}
use Rattle.redcode_expand.specs.Walk.{Begun, WalkState, begun, begun_as, copies_of, count_by, walk_begin}
use Rattle.redcode_expand.proofs.{Words.{AsmFault, RawSettings, Piece, SourceLine, labels_of, names_among, Counter, in_copies, in_copy, EquList, replaced, left_over, after_rounds, is_name, Names, for_labels, predefined, Word}}
use Rattle.redcode_expand.proofs.Marks.{copies-word}
use Rattle.redcode_text.specs.declared.vocabulary.Word.TheVariants as words

-- ---- epochs

other-epoch : (a b : ℕ) → a ≤ b → nat_eq a (b + 1) ≡ false
other-epoch a b h = grind (arith, nat_tests)

-- in the next epoch none is kept
pub forgotten : (epoch : ℕ) (xs : List Stamped) → All (IsStamped epoch) xs → map (latest_of (epoch + 1)) xs ≡ replicate (length xs) None
forgotten epoch [] are = refl
forgotten epoch (x ∷ xs) are =
    rw (other-epoch x.epoch epoch (All-head (IsStamped epoch) x xs are), forgotten epoch xs (All-tail (IsStamped epoch) x xs are)) refl

pub forgotten-all : (epoch : ℕ) (xs : List Stamped) (latest : List (Option ℕ)) → map (latest_of epoch) xs ≡ latest → All (IsStamped epoch) xs
    → map (latest_of (epoch + 1)) xs ≡ replicate (length latest) None
forgotten-all epoch xs latest is are =
    let room : length xs ≡ length latest = sym (length-map xs (latest_of epoch)) ∙ ap length is in
    forgotten epoch xs are ∙ ap (λ (n : ℕ). replicate {A = Option ℕ} n None) room

this-epoch : (epoch n : ℕ) → latest_of epoch (record { epoch = epoch; copies = n }) ≡ Some n
this-epoch epoch n = ap (λ (b : Bool). if b then Some n else None) (eq-eqb epoch epoch refl)

pub learned : (epoch n place : ℕ) (xs : List Stamped) (latest : List (Option ℕ)) → map (latest_of epoch) xs ≡ latest
    → map (latest_of epoch) (slice_set xs place (record { epoch = epoch; copies = n })) ≡ slice_set latest place (Some n)
learned epoch n place xs latest is =
    map-set (latest_of epoch) xs place (record { epoch = epoch; copies = n }) ∙ ap (λ (os : List (Option ℕ)). slice_set os place (latest_of epoch (record { epoch = epoch; copies = n }))) is
    ∙ ap (λ (o : Option ℕ). slice_set latest place o) (this-epoch epoch n)

abbrev no-stamp : Stamped
no-stamp = record { epoch = 0; copies = 0 }

none-of : (n : ℕ) → map (latest_of 1) (replicate n no-stamp) ≡ replicate n None
none-of zero = refl
none-of (suc n) = ap (λ (os : List (Option ℕ)). None ∷ os) (none-of n)

pub none-stamped : (n : ℕ) (xs : List Stamped) → xs ≡ replicate n no-stamp → map (latest_of 1) xs ≡ replicate n None
none-stamped n xs is = ap (map (latest_of 1)) is ∙ none-of n

pub all-stamped : (n : ℕ) (xs : List Stamped) → xs ≡ replicate n no-stamp → All (IsStamped 1) xs
all-stamped n xs is = subst (All (IsStamped 1)) (sym is) (All-replicate (IsStamped 1) n no-stamp (omega arith))

-- ---- the number of a line

left-line : (a c : ℕ) (equs : EquList) (xs ys : List Piece) → left_over a equs xs ≡ Ok ys → left_over c equs xs ≡ Ok ys
left-line a c equs xs ys is = grind arith

replaced-line : (a c : ℕ) (equs : EquList) (xs ys : List Piece) → replaced a equs xs ≡ Ok ys → replaced c equs xs ≡ Ok ys
replaced-line a c equs xs ys is = replaced-left c equs xs ∙ left-line a c equs (after_rounds 16 equs xs) ys (sym (replaced-left a equs xs) ∙ is)

count-line : (s : RawSettings) (a c before n : ℕ) (equs : EquList) (xs : List Piece) (r : Result (List Piece) AsmFault) → replaced a equs xs ≡ r
    → (r >>= λ count. count_by a (value_of (predefined s before) count)) ≡ Ok n → copies_of s c before equs xs ≡ Ok n
count-line s a c before n equs xs (Ok ys) is counts = rw (replaced-line a c equs xs ys is) (grind arith)
count-line s a c before n equs xs (Err fault) is counts = absurd cc

-- the copies that a count asks for, whatever its line's number
pub any-line : (s : RawSettings) (a c before n : ℕ) (equs : EquList) (xs : List Piece) → copies_of s a before equs xs ≡ Ok n → copies_of s c before equs xs ≡ Ok n
any-line s a c before n equs xs counts = count-line s a c before n equs xs (replaced a equs xs) refl counts

-- ---- lines that read the same

pub copies-same : (cs : List Counter) (line other : SourceLine) → ReadSame line other → (in_copies cs line).tokens ≡ (in_copies cs other).tokens
copies-same [] line other same = same.tokens
copies-same (c ∷ cs) line other same =
    copies-same cs (in_copy c line) (in_copy c other) (record { form = same.form; word = same.word; tokens = rw (same.form, same.word, same.tokens) refl })

copies-number : (cs : List Counter) (line : SourceLine) → (in_copies cs line).number ≡ line.number
copies-number [] line = refl
copies-number (c ∷ cs) line = copies-number cs (in_copy c line)

alone-copy : (c : Counter) (line : SourceLine) → length line.front ≤ 1 → (in_copy c line).front ≡ line.front
alone-copy c line short = grind arith

copies-alone : (cs : List Counter) (line : SourceLine) → length line.front ≤ 1 → (in_copies cs line).front ≡ line.front
copies-alone [] line short = refl
copies-alone (c ∷ cs) line short =
    let same : (in_copy c line).front ≡ line.front = alone-copy c line short in
    copies-alone cs (in_copy c line) (omega (arith, ap length same, short)) ∙ same

-- ---- a block without labels

counter-named : (s : RawSettings) (line address : ℕ) (name : List ℕ) (names : Names) (b : Bool)
    → for_labels s line address (if b then name ∷ [] else []) names ≡ Ok (names, if b then name else [])
counter-named s line address name names true = refl
counter-named s line address name names false = refl

-- its counter is the name before its FOR
counter-alone : (s : RawSettings) (line address : ℕ) (front : List Piece) (names : Names) → length front ≤ 1
    → for_labels s line address (names_among front) names ≡ Ok (names, counter_before front)
counter-alone s line address [] names short = refl
counter-alone s line address (t ∷ []) names short = counter-named s line address t.text names (is_name t.kind)
counter-alone s line address (t ∷ u ∷ ts) names short = absurd (omega (arith, short))

word-labels : (line : SourceLine) (w : Word) → line.word ≡ Some w → labels_of line ≡ names_among line.front
word-labels line w is = rw is refl

begun-alone : (s : RawSettings) (cs : List Counter) (line : SourceLine) (st : WalkState) → line.word ≡ Some words.For → length line.front ≤ 1
    → begun s cs line st ≡ copies_of s line.number st.before st.names.equs (drop 1 (in_copies cs line).tokens) >>= λ n. Ok (begun_as st (counter_before line.front) n)
begun-alone s cs line st word short =
    let copy : SourceLine = in_copies cs line in
    let counts : ℕ → Names × List ℕ → Result Begun AsmFault =
    λ number found. copies_of s number st.before found.0.equs (drop 1 copy.tokens) >>= λ n. Ok (begun_as (record st { names = found.0 }) found.1 n) in
    let labels : labels_of copy ≡ names_among line.front = word-labels copy words.For (copies-word cs line ∙ word) ∙ ap names_among (copies-alone cs line short) in
    ap (λ (ls : List (List ℕ)). for_labels s copy.number st.before ls st.names >>= counts copy.number) labels
    ∙ ap (λ (r : Result (Names × List ℕ) AsmFault). r >>= counts copy.number) (counter-alone s copy.number st.before line.front st.names short)
    ∙ ap (λ (number : ℕ). counts number (st.names, counter_before line.front)) (copies-number cs line)

-- it begins by a count that is kept
pub begun-latest : (s : RawSettings) (cs : List Counter) (line : SourceLine) (st : WalkState) (n : ℕ) → line.word ≡ Some words.For → length line.front ≤ 1
    → copies_of s 0 st.before st.names.equs (drop 1 (in_copies cs line).tokens) ≡ Ok n → begun s cs line st ≡ Ok (begun_as st (counter_before line.front) n)
begun-latest s cs line st n word short counts =
    begun-alone s cs line st word short
    ∙ ap (λ (r : Result ℕ AsmFault). r >>= λ n. Ok (begun_as st (counter_before line.front) n)) (any-line s 0 line.number st.before n st.names.equs (drop 1 (in_copies cs line).tokens) counts)

-- what a block that began says of the state and of its count
pub record BeganAlone (s : RawSettings) (cs : List Counter) (line : SourceLine) (st new : WalkState) (n : ℕ) : Type 0 where
  pub state : new ≡ st
  pub count : copies_of s 0 st.before st.names.equs (drop 1 (in_copies cs line).tokens) ≡ Ok n

began-by : (st new : WalkState) (name counter : List ℕ) (n : ℕ) (r : Result ℕ AsmFault) → r >>= (λ n. Ok (begun_as st name n)) ≡ Ok (begun_as new counter n) → (new ≡ st) × (r ≡ Ok n)
began-by st new name counter n (Ok m) is = grind arith
began-by st new name counter n (Err fault) is = absurd cc

pub began-alone : (s : RawSettings) (cs : List Counter) (line : SourceLine) (st new : WalkState) (counter : List ℕ) (n : ℕ) → line.word ≡ Some words.For → length line.front ≤ 1
    → begun s cs line st ≡ Ok (begun_as new counter n) → BeganAlone s cs line st new n
began-alone s cs line st new counter n word short is =
    let count : List Piece = drop 1 (in_copies cs line).tokens in
    let found = began-by st new (counter_before line.front) counter n (copies_of s line.number st.before st.names.equs count) (sym (begun-alone s cs line st word short) ∙ is) in
    record { state = found.0; count = any-line s line.number 0 st.before n st.names.equs count found.1 }

-- ---- what is kept

latest-none : (s : RawSettings) (lines : List SourceLine) (cs : List Counter) (st : WalkState) (n : ℕ) → n ≡ length lines → AreKept s lines cs st (replicate n None)
latest-none s lines cs st n is = record {
  room = length-replicate n None ∙ is;
  kept = λ at m some read. let none : kept_at (replicate n None) at ≡ None = get_or-replicate n at None None (omega (arith, is, some)) in absurd cc;
}

-- at first there is none
pub kept-none : (s : RawSettings) (lines : List SourceLine) (counts : List (Option ℕ)) (n : ℕ) → n ≡ length lines → counts ≡ replicate n None → AreKept s lines [] walk_begin counts
kept-none s lines counts n room is = subst (AreKept s lines [] walk_begin) (sym is) (latest-none s lines [] walk_begin n room)

-- nor after a line, or in another copy
pub kept-later : (s : RawSettings) (lines : List SourceLine) (cs after : List Counter) (st new : WalkState) (counts risen : List (Option ℕ)) → risen ≡ replicate (length counts) None
    → AreKept s lines cs st counts → AreKept s lines after new risen
kept-later s lines cs after st new counts risen is are = subst (AreKept s lines after new) (sym is) (latest-none s lines after new (length counts) are.room)

-- all are, while EQUs and CURLINE stay
pub kept-same : (s : RawSettings) (lines : List SourceLine) (cs : List Counter) (st new : WalkState) (counts : List (Option ℕ)) → new.names.equs ≡ st.names.equs → new.before ≡ st.before
    → AreKept s lines cs st counts → AreKept s lines cs new counts
kept-same s lines cs st new counts equs before are = record {
  room = are.room;
  kept = λ at n some read.
      let was = are.kept at n some read in
      record { count = rw (equs, before) was.count; few = was.few };
}

latest-at : (s : RawSettings) (lines : List SourceLine) (cs : List Counter) (st : WalkState) (counts : List (Option ℕ)) (at place n m : ℕ) (b : Bool) → nat_eq place at ≡ b → at < length counts
    → place < length lines → kept_at (slice_set counts at (Some n)) place ≡ Some m → IsLatest s cs st (line_in lines at) n → AreKept s lines cs st counts → IsLatest s cs st (line_in lines place) m
latest-at s lines cs st counts at place n m true same within some read is are =
    let here : place ≡ at = eqb-true place at same in
    let value : Some n ≡ Some m = sym (get_or-set_same counts at (Some n) None within) ∙ ap (λ (k : ℕ). kept_at (slice_set counts at (Some n)) k) (sym here) ∙ read in
    let same-count : n ≡ m = cc in
    rw here (subst (IsLatest s cs st (line_in lines at)) same-count is)
latest-at s lines cs st counts at place n m false other within some read is are =
    are.kept place m some (sym (get_or-set_other counts at place (Some n) None (eqb-false place at other)) ∙ read)

-- one more is kept: that of a line which reads the same
pub kept-with : (s : RawSettings) (lines : List SourceLine) (cs : List Counter) (st : WalkState) (counts after : List (Option ℕ)) (at count n : ℕ) → IsSameCount lines at count
    → copies_of s 0 st.before st.names.equs (drop 1 (in_copies cs (line_in lines at)).tokens) ≡ Ok n → n < 2 ^ 63 → AreKept s lines cs st counts
    → after ≡ slice_set counts count (Some n) → AreKept s lines cs st after
kept-with s lines cs st counts after at count n same counted few are is =
    let tokens : (in_copies cs (line_in lines at)).tokens ≡ (in_copies cs (line_in lines count)).tokens = copies-same cs (line_in lines at) (line_in lines count) same.same in
    let now : IsLatest s cs st (line_in lines count) n =
    record { count = ap (λ (ts : List Piece). copies_of s 0 st.before st.names.equs (drop 1 ts)) (sym tokens) ∙ counted; few = few } in
    let within : count < length counts = omega (arith, are.room, same.some) in
    subst (AreKept s lines cs st) (sym is) (record {
      room = length-set counts count (Some n) ∙ are.room;
      kept = λ place m some read. latest-at s lines cs st counts count place n m (nat_eq place count) refl within some read now are;
    })

-- a count that is kept of a line that reads the same
pub latest-count : (s : RawSettings) (lines : List SourceLine) (cs : List Counter) (st : WalkState) (counts : List (Option ℕ)) (at count n : ℕ) → IsSameCount lines at count
    → kept_at counts count ≡ Some n → AreKept s lines cs st counts → IsLatest s cs st (line_in lines at) n
latest-count s lines cs st counts at count n same read are =
    let kept = are.kept count n same.some read in
    record {
      count = ap (λ (ts : List Piece). copies_of s 0 st.before st.names.equs (drop 1 ts)) (copies-same cs (line_in lines at) (line_in lines count) same.same) ∙ kept.count;
      few = kept.few;
    }

-- one more is kept after a block began without labels
pub kept-learned : (s : RawSettings) (lines : List SourceLine) (cs : List Counter) (st new : WalkState) (counts after : List (Option ℕ)) (at count n : ℕ) (counter : List ℕ)
    → (line_in lines at).word ≡ Some words.For → length (line_in lines at).front ≤ 1 → begun s cs (line_in lines at) st ≡ Ok (begun_as new counter n) → n < 2 ^ 63 → IsSameCount lines at count
    → AreKept s lines cs st counts → after ≡ slice_set counts count (Some n) → AreKept s lines cs new after
kept-learned s lines cs st new counts after at count n counter word short is few same are learns =
    let began = began-alone s cs (line_in lines at) st new counter n word short is in
    subst (λ (w : WalkState). AreKept s lines cs w after) (sym began.state) (kept-with s lines cs st counts after at count n same began.count few are learns)
