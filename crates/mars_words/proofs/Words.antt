-- The bits of a word, for the functions of src/word.rt: how its parts are read back from them, and which word the bits are that each function makes.
use Rattle.std.proofs.Common.{◌≡◌, ℕ, zero, suc, ◌+◌, ◌-◌, ◌*◌, ◌/◌, ◌%◌, ◌^◌, ◌<◌, ◌≤◌, ◌==◌, Bool, true, false, ◌&&◌, bit_and, bit_or, Decides, refl, sym, ap, ap₂, subst, subst₂, ◌∙◌}
use Rattle.std.proofs.{Common.arith, lemmas.Nat.{and_comm, and_mask, and-not, or_comm, or_block, or_shifted, shl_whole, field_of}, lemmas.Nat.Bits.{and_high, and_high_mask}}
use Rattle.std.proofs.{lemmas.Bool.agree_below_at, lemmas.Bool.Decides.{same_from_decides, Decides-eqb, Decides-and, Decides-like}}
use Rattle.war_types.specs.{declared.instr.Op.Op, declared.instr.Modifier.Modifier, declared.instr.Mode.Mode, declared.instr.Instr.Instr, Bytes.{op_code, modifier_code, mode_code}}
use Rattle.mars_words.proofs.Places.{handler-below}
use Rattle.mars_words.specs.{Numbers.{Field, with_number}, Equal.are_equal, Words.{Word, mark, kind_code, operation_code, modes_code, handler_at, handler_of, bits_of, word_in, IsWord, mode_at, modifier_at, op_at, is_plain}}

-- ---- codes

pub mode_is_read : (m : Mode) → (mode_at (mode_code m) ≡ m) × (mode_code m < 8)
mode_is_read Mode.Immediate = (refl, omega arith)
mode_is_read m = (refl, omega arith)

pub modifier_is_read : (m : Modifier) → (modifier_at (modifier_code m) ≡ m) × (modifier_code m < 8)
modifier_is_read Modifier.A = (refl, omega arith)
modifier_is_read m = (refl, omega arith)

pub op_is_read : (op : Op) → (op_at (op_code op) ≡ op) × (op_code op < 16)
op_is_read Op.Dat = (refl, omega arith)
op_is_read op = (refl, omega arith)

-- the operation with the number of the handler above it
abbrev head : Instr → ℕ
head i = op_code i.op + handler_of i * 2 ^ 16

head_is_read : (i : Instr) → (op_at (head i % 16) ≡ i.op) × (head i < 2 ^ 22)
head_is_read i =
    let below = (op_is_read i.op).1 in
    let part : head i % 16 ≡ op_code i.op = omega (arith, below) in
    (ap op_at part ∙ (op_is_read i.op).0, omega (arith, below, handler-below i))

mark_is_read : (m : Bool) → ((mark m == 1) ≡ m) × (mark m < 2)
mark_is_read true = (refl, omega arith)
mark_is_read false = (refl, omega arith)

-- ---- the parts of a sum of shifted parts

-- a number by seven parts, from the lowest on
abbrev sum_of_parts : ℕ → ℕ → ℕ → ℕ → ℕ → ℕ → ℕ → ℕ
sum_of_parts b a b_mode a_mode modifier op marked =
    b + a * 2 ^ 16 + b_mode * 2 ^ 32 + a_mode * 2 ^ 35 + modifier * 2 ^ 38 + op * 2 ^ 41 + marked * 2 ^ 63

record HasParts (n p q r s t u v : ℕ) : Type 0 where
  pub b : n % 2 ^ 16 ≡ p
  pub a : n / 2 ^ 16 % 2 ^ 16 ≡ q
  pub b_mode : n / 2 ^ 32 % 8 ≡ r
  pub a_mode : n / 2 ^ 35 % 8 ≡ s
  pub modifier : n / 2 ^ 38 % 8 ≡ t
  pub op : n / 2 ^ 41 % 16 ≡ u % 16
  pub handler : n / 2 ^ 57 % 64 ≡ u / 2 ^ 16
  pub marked : n / 2 ^ 63 ≡ v

parts_are_read : (b a c d e f g : ℕ) → b < 2 ^ 16 → a < 2 ^ 16 → c < 8 → d < 8 → e < 8 → f < 2 ^ 22 → g < 2 → HasParts (sum_of_parts b a c d e f g) b a c d e f g
parts_are_read b a c d e f g hb ha hc hd he hf hg = omega arith

-- ---- the word in the bits of a word

pub word_in-bits_of : (w : Word) → w.instr.a < 2 ^ 16 → w.instr.b < 2 ^ 16 → word_in (bits_of w) ≡ w
word_in-bits_of w ha hb =
    let i : Instr = w.instr in
    let op = head_is_read i in
    let modifier = modifier_is_read i.modifier in
    let a_mode = mode_is_read i.a_mode in
    let b_mode = mode_is_read i.b_mode in
    let marked = mark_is_read w.is_marked in
    let parts = parts_are_read i.b i.a _ _ _ _ _ hb ha b_mode.1 a_mode.1 modifier.1 op.1 marked.1 in
    let op_is : op_at (bits_of w / 2 ^ 41 % 16) ≡ i.op = ap op_at parts.op ∙ op.0 in
    let modifier_is : modifier_at (bits_of w / 2 ^ 38 % 8) ≡ i.modifier = ap modifier_at parts.modifier ∙ modifier.0 in
    let a_mode_is : mode_at (bits_of w / 2 ^ 35 % 8) ≡ i.a_mode = ap mode_at parts.a_mode ∙ a_mode.0 in
    let b_mode_is : mode_at (bits_of w / 2 ^ 32 % 8) ≡ i.b_mode = ap mode_at parts.b_mode ∙ b_mode.0 in
    let mark_is : (bits_of w / 2 ^ 63 == 1) ≡ w.is_marked = ap (λ (x : ℕ). x == 1) parts.marked ∙ marked.0 in
    λ t. record {
      instr = record { op = op_is t; modifier = modifier_is t; a_mode = a_mode_is t; a = parts.a t; b_mode = b_mode_is t; b = parts.b t };
      is_marked = mark_is t;
    }

-- the bits that a number is shown to be
pub record IsWordOf (w : Word) (n : ℕ) : Type 0 where
  pub word : IsWord n
  pub is : word_in n ≡ w

pub IsWordOf-bits : (n : ℕ) (w : Word) → w.instr.a < 2 ^ 16 → w.instr.b < 2 ^ 16 → n ≡ bits_of w → IsWordOf w n
IsWordOf-bits n w ha hb e =
    let back : word_in n ≡ w = ap word_in e ∙ word_in-bits_of w ha hb in
    record { word = ap bits_of back ∙ sym e; is = back }

sum-below : (n b a c d e f g : ℕ) → b < 2 ^ 16 → a < 2 ^ 16 → c < 8 → d < 8 → e < 8 → f < 2 ^ 22 → g < 2 → sum_of_parts b a c d e f g ≡ n → n < 2 ^ 64
sum-below n b a c d e f g hb ha hc hd he hf hg is = omega arith

pub IsWord-below : (n : ℕ) → IsWord n → n < 2 ^ 64
IsWord-below n is =
    let w : Word = word_in n in
    sum-below n _ _ _ _ _ _ _ (omega arith) (omega arith) (mode_is_read w.instr.b_mode).1 (mode_is_read w.instr.a_mode).1 (modifier_is_read w.instr.modifier).1 (head_is_read w.instr).1 (mark_is_read w.is_marked).1 is

sum-handler : (n b a c d e o h g : ℕ) → b < 2 ^ 16 → a < 2 ^ 16 → c < 8 → d < 8 → e < 8 → o < 16 → h < 64 → sum_of_parts b a c d e (o + h * 2 ^ 16) g ≡ n → n / 2 ^ 57 % 64 ≡ h
sum-handler n b a c d e o h g hb ha hc hd he ho hh is = omega arith

pub handler_is_read : (n : ℕ) (w : Word) → IsWord n → word_in n ≡ w → n / 2 ^ 57 % 64 ≡ handler_of w.instr
handler_is_read n w is e =
    let i : Instr = (word_in n).instr in
    sum-handler n _ _ _ _ _ _ _ _ (omega arith) (omega arith) (mode_is_read i.b_mode).1 (mode_is_read i.a_mode).1 (modifier_is_read i.modifier).1 (op_is_read i.op).1 (handler-below i) is
    ∙ ap (λ (w : Word). handler_of w.instr) e

sum-operation : (n b a c d e o h g : ℕ) → b < 2 ^ 16 → a < 2 ^ 16 → c < 8 → d < 8 → e < 8 → o < 16 → sum_of_parts b a c d e (o + h * 2 ^ 16) g ≡ n → n / 2 ^ 38 % 128 ≡ e + o * 8
sum-operation n b a c d e o h g hb ha hc hd he ho is = omega arith

pub operation_is_read : (n : ℕ) (w : Word) → IsWord n → word_in n ≡ w → n / 2 ^ 38 % 128 ≡ operation_code w.instr
operation_is_read n w is e =
    let i : Instr = (word_in n).instr in
    sum-operation n _ _ _ _ _ _ _ _ (omega arith) (omega arith) (mode_is_read i.b_mode).1 (mode_is_read i.a_mode).1 (modifier_is_read i.modifier).1 (op_is_read i.op).1 is
    ∙ ap (λ (w : Word). operation_code w.instr) e

sum-modes : (n b a c d e f g : ℕ) → b < 2 ^ 16 → a < 2 ^ 16 → c < 8 → d < 8 → sum_of_parts b a c d e f g ≡ n → n / 2 ^ 32 % 64 ≡ c + d * 8
sum-modes n b a c d e f g hb ha hc hd is = omega arith

pub modes_are_read : (n : ℕ) (w : Word) → IsWord n → word_in n ≡ w → n / 2 ^ 32 % 64 ≡ modes_code w.instr
modes_are_read n w is e =
    let i : Instr = (word_in n).instr in
    sum-modes n _ _ _ _ _ _ _ (omega arith) (omega arith) (mode_is_read i.b_mode).1 (mode_is_read i.a_mode).1 is
    ∙ ap (λ (w : Word). modes_code w.instr) e

-- ---- a part put above others

or_is_sum : (low part k j : ℕ) → low < 2 ^ k → part < 2 ^ j → j + k ≤ 64 → bit_or low (part * 2 ^ k % 2 ^ 64) ≡ low + part * 2 ^ k
or_is_sum low part k j below small inside =
    let sum : bit_or (part * 2 ^ k) low ≡ part * 2 ^ k + low = or_shifted part k low below in
    ap (bit_or low) (shl_whole part j k 64 small inside) ∙ or_comm low (part * 2 ^ k) ∙ omega (arith, sum)

abbrev pub packed : ℕ → ℕ → ℕ → ℕ → ℕ
packed b a kind handler = bit_or (bit_or (bit_or b (a * 2 ^ 16 % 2 ^ 64)) (kind * 2 ^ 32 % 2 ^ 64)) (handler * 2 ^ 57 % 2 ^ 64)

packed_is_sum : (b a k h : ℕ) → b < 2 ^ 16 → a < 2 ^ 16 → k < 2 ^ 13 → h < 2 ^ 6 → packed b a k h ≡ b + a * 2 ^ 16 + k * 2 ^ 32 + h * 2 ^ 57
packed_is_sum b a k h hb ha hk hh =
    let with_a : ℕ = b + a * 2 ^ 16 in
    let with_k : ℕ = with_a + k * 2 ^ 32 in
    let put : (low part : ℕ) → ℕ → ℕ = λ low part k. bit_or low (part * 2 ^ k % 2 ^ 64) in
    ap (λ (x : ℕ). put (put x k 32) h 57) (or_is_sum b a 16 16 hb ha (omega arith))
    ∙ ap (λ (x : ℕ). put x h 57) (or_is_sum with_a k 32 13 (omega arith) hk (omega arith))
    ∙ or_is_sum with_k h 57 6 (omega arith) hh (omega arith)

pub kind-small : (i : Instr) → kind_code i < 8192
kind-small i = omega (arith, (mode_is_read i.b_mode).1, (mode_is_read i.a_mode).1, (modifier_is_read i.modifier).1, (op_is_read i.op).1)

abbrev pub unmarked : Instr → Word
unmarked i = record { instr = i; is_marked = false }

pub IsWordOf-packed : (i : Instr) (b a k h : ℕ) → b ≡ i.b → a ≡ i.a → k ≡ kind_code i → h ≡ handler_at k → b ≤ 65535 → a ≤ 65535 → IsWordOf (unmarked i) (packed b a k h)
IsWordOf-packed i b a k h b_is a_is k_is h_is hb ha =
    let handler : h ≡ handler_of i = h_is ∙ ap handler_at k_is in
    let small : h < 2 ^ 6 = omega (arith, handler-below i, handler) in
    IsWordOf-bits _ (unmarked i) (omega arith) (omega arith)
    (packed_is_sum b a k h (omega arith) (omega arith) (omega (arith, kind-small i, k_is)) small ∙ omega (arith, b_is, a_is, k_is, handler))

-- ---- another number

-- what `n & !0xffff_0000` leaves
without_a : (n : ℕ) → n < 2 ^ 64 → bit_and n (2 ^ 64 - 1 - 0xffff_0000) ≡ n / 2 ^ 32 * 2 ^ 32 + n % 2 ^ 16
without_a n fits =
    let rest : bit_and (2 ^ 64 - 1 - 0xffff_0000) n + bit_and 0xffff_0000 n ≡ n = and-not 64 0xffff_0000 n (omega arith) fits in
    let part : bit_and n 0xffff_0000 ≡ n / 2 ^ 16 % 2 ^ 16 * 2 ^ 16 = and_high n 16 16 in
    omega (arith, rest, part, and_comm n (2 ^ 64 - 1 - 0xffff_0000), and_comm n 0xffff_0000)

another_a : (n a : ℕ) → n < 2 ^ 64 → a < 2 ^ 16 → bit_or (bit_and n (2 ^ 64 - 1 - 0xffff_0000)) (a * 2 ^ 16 % 2 ^ 64) ≡ n / 2 ^ 32 * 2 ^ 32 + a * 2 ^ 16 + n % 2 ^ 16
another_a n a fits small =
    let high : ℕ = n / 2 ^ 32 in
    let low : ℕ = n % 2 ^ 16 in
    let left : bit_and n (2 ^ 64 - 1 - 0xffff_0000) ≡ high * 2 ^ 16 * 2 ^ 16 + low = omega (arith, without_a n fits) in
    let right : a * 2 ^ 16 % 2 ^ 64 ≡ a * 2 ^ 16 + 0 = omega arith in
    let parts = or_block 16 (high * 2 ^ 16) a low 0 (omega arith) (omega arith) in
    let above : bit_or (high * 2 ^ 16) a ≡ high * 2 ^ 16 + a = or_shifted high 16 a small in
    (λ t. bit_or (left t) (right t)) ∙ parts ∙ omega (arith, above, or_comm low 0)

-- what `n & !0xffff` leaves, and a number put there
another_b : (n b : ℕ) → n < 2 ^ 64 → b < 2 ^ 16 → bit_or (bit_and n (2 ^ 64 - 2 ^ 16)) b ≡ n / 2 ^ 16 * 2 ^ 16 + b
another_b n b fits small = ap (λ (x : ℕ). bit_or x b) (and_high_mask 64 16 (omega arith) n fits) ∙ or_shifted (n / 2 ^ 16) 16 b small

abbrev pub with_instr : (Instr → Instr) → Word → Word
with_instr f w = record { instr = f w.instr; is_marked = w.is_marked }

sum-another_a : (n a c d e f g : ℕ) → sum_of_parts (n % 2 ^ 16) (n / 2 ^ 16 % 2 ^ 16) c d e f g ≡ n →
    n / 2 ^ 32 * 2 ^ 32 + a * 2 ^ 16 + n % 2 ^ 16 ≡ sum_of_parts (n % 2 ^ 16) a c d e f g
sum-another_a n a c d e f g is = omega arith

sum-another_b : (n b c d e f g : ℕ) → sum_of_parts (n % 2 ^ 16) (n / 2 ^ 16 % 2 ^ 16) c d e f g ≡ n →
    n / 2 ^ 16 * 2 ^ 16 + b ≡ sum_of_parts b (n / 2 ^ 16 % 2 ^ 16) c d e f g
sum-another_b n b c d e f g is = omega arith

another_a_of : (n a : ℕ) → a ≤ 65535 → IsWord n → IsWordOf (with_instr (with_number Field.A a) (word_in n)) (bit_or (bit_and n (2 ^ 64 - 1 - 0xffff_0000)) (a * 2 ^ 16 % 2 ^ 64))
another_a_of n a small is =
    let w : Word = word_in n in
    let sum = sum-another_a n a (mode_code w.instr.b_mode) (mode_code w.instr.a_mode) (modifier_code w.instr.modifier) (head w.instr) (mark w.is_marked) is in
    IsWordOf-bits _ (with_instr (with_number Field.A a) w) (omega arith) (omega arith) (another_a n a (IsWord-below n is) (omega arith) ∙ sum)

another_b_of : (n b : ℕ) → b ≤ 65535 → IsWord n → IsWordOf (with_instr (with_number Field.B b) (word_in n)) (bit_or (bit_and n (2 ^ 64 - 2 ^ 16)) b)
another_b_of n b small is =
    let w : Word = word_in n in
    let sum = sum-another_b n b (mode_code w.instr.b_mode) (mode_code w.instr.a_mode) (modifier_code w.instr.modifier) (head w.instr) (mark w.is_marked) is in
    IsWordOf-bits _ (with_instr (with_number Field.B b) w) (omega arith) (omega arith) (another_b n b (IsWord-below n is) (omega arith) ∙ sum)

pub IsWordOf-another_a : (w : Word) (n a x : ℕ) → IsWord n → word_in n ≡ w → x ≡ a → a ≤ 65535 →
    IsWordOf (with_instr (with_number Field.A a) w) (bit_or (bit_and n (2 ^ 64 - 1 - 0xffff_0000)) (x * 2 ^ 16 % 2 ^ 64))
IsWordOf-another_a w n a x word is same small =
    subst₂ (λ (v : Word) (y : ℕ). IsWordOf (with_instr (with_number Field.A a) v) (bit_or (bit_and n (2 ^ 64 - 1 - 0xffff_0000)) (y * 2 ^ 16 % 2 ^ 64))) is (sym same) (another_a_of n a small word)

pub IsWordOf-another_b : (w : Word) (n b x : ℕ) → IsWord n → word_in n ≡ w → x ≡ b → b ≤ 65535 →
    IsWordOf (with_instr (with_number Field.B b) w) (bit_or (bit_and n (2 ^ 64 - 2 ^ 16)) x)
IsWordOf-another_b w n b x word is same small =
    subst₂ (λ (v : Word) (y : ℕ). IsWordOf (with_instr (with_number Field.B b) v) (bit_or (bit_and n (2 ^ 64 - 2 ^ 16)) y)) is (sym same) (another_b_of n b small word)

-- ---- the mark

or_one : (n : ℕ) → n < 2 → bit_or n 1 ≡ 1
or_one zero below = refl
or_one (suc zero) below = refl
or_one (suc (suc n)) below = absurd (omega arith)

-- what `n | 1 << 63` makes
or_mark : (n : ℕ) → n < 2 ^ 64 → bit_or n (2 ^ 63) ≡ n % 2 ^ 63 + 2 ^ 63
or_mark n fits =
    let split : n ≡ n / 2 ^ 63 * 2 ^ 63 + n % 2 ^ 63 = omega arith in
    let parts = or_block 63 (n / 2 ^ 63) 1 (n % 2 ^ 63) 0 (omega arith) (omega arith) in
    ap (λ (x : ℕ). bit_or x (2 ^ 63)) split ∙ parts ∙ omega (arith, or_one (n / 2 ^ 63) (omega arith), or_comm (n % 2 ^ 63) 0)

abbrev pub with_mark : Word → Word
with_mark w = record { instr = w.instr; is_marked = true }

sum-mark : (n c d e f g : ℕ) → c < 8 → d < 8 → e < 8 → f < 2 ^ 22 → sum_of_parts (n % 2 ^ 16) (n / 2 ^ 16 % 2 ^ 16) c d e f g ≡ n →
    n % 2 ^ 63 + 2 ^ 63 ≡ sum_of_parts (n % 2 ^ 16) (n / 2 ^ 16 % 2 ^ 16) c d e f 1
sum-mark n c d e f g hc hd he hf is = omega arith

mark_of : (n : ℕ) → IsWord n → IsWordOf (with_mark (word_in n)) (bit_or n (2 ^ 63))
mark_of n is =
    let w : Word = word_in n in
    let sum = sum-mark n _ _ _ _ (mark w.is_marked) (mode_is_read w.instr.b_mode).1 (mode_is_read w.instr.a_mode).1 (modifier_is_read w.instr.modifier).1 (head_is_read w.instr).1 is in
    IsWordOf-bits _ (with_mark w) (omega arith) (omega arith) (or_mark n (IsWord-below n is) ∙ sum)

pub IsWordOf-mark : (w : Word) (n : ℕ) → IsWord n → word_in n ≡ w → IsWordOf (with_mark w) (bit_or n (2 ^ 63))
IsWordOf-mark w n word is = subst (λ (v : Word). IsWordOf (with_mark v) (bit_or n (2 ^ 63))) is (mark_of n word)

-- ---- the same but for their marks

same_part : (m n j k : ℕ) → m % 2 ^ (j + k) ≡ n % 2 ^ (j + k) → m / 2 ^ k % 2 ^ j ≡ n / 2 ^ k % 2 ^ j
same_part m n j k e = sym (field_of m j k) ∙ ap (λ (x : ℕ). x / 2 ^ k) e ∙ field_of n j k

same_but_mark : (m n s t g h : ℕ) → s + g * 2 ^ 63 ≡ m → t + h * 2 ^ 63 ≡ n → s ≡ t → m * 2 % 2 ^ 64 ≡ n * 2 % 2 ^ 64
same_but_mark m n s t g h left right same = omega arith

abbrev HaveSameKinds : Instr → Instr → Type 0
HaveSameKinds i j =
    (((op_code i.op ≡ op_code j.op) × (modifier_code i.modifier ≡ modifier_code j.modifier)) × (mode_code i.a_mode ≡ mode_code j.a_mode)) × (mode_code i.b_mode ≡ mode_code j.b_mode)

abbrev HaveSameParts : Instr → Instr → Type 0
HaveSameParts i j = HaveSameKinds i j × ((i.a ≡ j.a) × ((i.b ≡ j.b) × Unit {0}))

same_parts : (m n : ℕ) → m * 2 % 2 ^ 64 ≡ n * 2 % 2 ^ 64 → HaveSameParts (word_in m).instr (word_in n).instr
same_parts m n e =
    let op = ap (λ (x : ℕ). op_code (op_at x)) (same_part m n 4 41 (omega arith)) in
    let modifier = ap (λ (x : ℕ). modifier_code (modifier_at x)) (same_part m n 3 38 (omega arith)) in
    let a_mode = ap (λ (x : ℕ). mode_code (mode_at x)) (same_part m n 3 35 (omega arith)) in
    let b_mode = ap (λ (x : ℕ). mode_code (mode_at x)) (same_part m n 3 32 (omega arith)) in
    ((((op, modifier), a_mode), b_mode), (same_part m n 16 16 (omega arith), (omega arith, tt)))

same_bits : (m n : ℕ) → IsWord m → IsWord n → HaveSameParts (word_in m).instr (word_in n).instr → m * 2 % 2 ^ 64 ≡ n * 2 % 2 ^ 64
same_bits m n left right same =
    let kinds_same : kind_code (word_in m).instr ≡ kind_code (word_in n).instr = omega (arith, same.0.0.0.0, same.0.0.0.1, same.0.0.1, same.0.1) in
    let handlers : handler_of (word_in m).instr ≡ handler_of (word_in n).instr = ap handler_at kinds_same in
    same_but_mark m n _ _ (mark (word_in m).is_marked) (mark (word_in n).is_marked) left right (omega (arith, handlers))

are_equal_decides : (i j : Instr) → Decides (are_equal Modifier.I i j) (HaveSameParts i j)
are_equal_decides i j =
    let op = Decides-eqb (op_code i.op) (op_code j.op) in
    let modifier = Decides-eqb (modifier_code i.modifier) (modifier_code j.modifier) in
    let a_mode = Decides-eqb (mode_code i.a_mode) (mode_code j.a_mode) in
    let b_mode = Decides-eqb (mode_code i.b_mode) (mode_code j.b_mode) in
    let kinds = Decides-and _ _ (Decides-and _ _ (Decides-and _ _ op modifier) a_mode) b_mode in
    Decides-and _ _ kinds (Decides-and _ _ (Decides-eqb _ _) (Decides-and _ _ (Decides-eqb _ _) (λ _. tt, λ _. refl)))

same_are_equal : (m n : ℕ) → IsWord m → IsWord n → (m * 2 % 2 ^ 64 == n * 2 % 2 ^ 64) ≡ are_equal Modifier.I (word_in m).instr (word_in n).instr
same_are_equal m n left right =
    let shifted = Decides-eqb (m * 2 % 2 ^ 64) (n * 2 % 2 ^ 64) in
    same_from_decides _ _ (Decides-like _ (same_parts m n) (same_bits m n left right) shifted) (are_equal_decides (word_in m).instr (word_in n).instr)

pub are_equal-shifted : (v w : Word) (m n : ℕ) → IsWord m → IsWord n → word_in m ≡ v → word_in n ≡ w → (m * 2 % 2 ^ 64 == n * 2 % 2 ^ 64) ≡ are_equal Modifier.I v.instr w.instr
are_equal-shifted v w m n left right v_is w_is = same_are_equal m n left right ∙ ap₂ (λ (x y : Word). are_equal Modifier.I x.instr y.instr) v_is w_is

-- ---- plain modes

plain_is_shifted : (n k : ℕ) → n / 2 ^ (k + 1) % 4 ≡ n / 2 ^ k % 8 / 2 → is_plain (mode_at (n / 2 ^ k % 8)) ≡ (bit_and (n / 2 ^ (k + 1)) 3 == 0)
plain_is_shifted n k halved =
    let plain = agree_below_at (λ (x : ℕ). is_plain (mode_at x)) (λ (x : ℕ). x / 2 == 0) 8 (n / 2 ^ k % 8) refl (omega arith) in
    plain ∙ ap (λ (x : ℕ). x == 0) (sym halved ∙ sym (and_mask (n / 2 ^ (k + 1)) 2))

pub are_plain-shifted : (w : Word) (n : ℕ) → word_in n ≡ w → ((bit_and (n / 2 ^ 36) 3 == 0) && (bit_and (n / 2 ^ 33) 3 == 0)) ≡ (is_plain w.instr.a_mode && is_plain w.instr.b_mode)
are_plain-shifted w n is =
    let a : is_plain (mode_at (n / 2 ^ 35 % 8)) ≡ (bit_and (n / 2 ^ 36) 3 == 0) = plain_is_shifted n 35 (omega arith) in
    let b : is_plain (mode_at (n / 2 ^ 32 % 8)) ≡ (bit_and (n / 2 ^ 33) 3 == 0) = plain_is_shifted n 32 (omega arith) in
    ap₂ ◌&&◌ (sym a) (sym b) ∙ ap (λ (v : Word). is_plain v.instr.a_mode && is_plain v.instr.b_mode) is
