-- A number is read back from how it is written, and from nothing else.
use Rattle.std.proofs.Common.{◌≡◌, ℕ, ◌<◌, ◌≤◌, ◌^◌, ◌&&◌, nat_lt, if◌then◌else◌, List, true, false, refl, sym, ap, ◌∙◌, Option, Some, None, decimal, arith}
use Rattle.{std.specs.{Str.bytes_eq, Str.Parse.digits_value}, std.proofs.{lemmas.Bool.{and_parts, and_from, both_ways, ltb-true, lt-ltb}, lemmas.Option.{cond_some, none-some, same_Some}}}
use Rattle.{std.proofs.{lemmas.Slice.Eq.bytes_eq-Decides, lemmas.Fmt.decimal_is_IsNumeral}, koth_http.specs.Target.number_of}

pub number-reads : (limit n : ℕ) (text : List ℕ) → number_of limit text ≡ Some n → (n < limit) × (text ≡ decimal n)
unfolding number_of
number-reads limit n text is =
    let m = digits_value 10 text in
    let (passes, same) = cond_some (nat_lt m limit && bytes_eq (decimal m) text) m n is in
    let (below, written) = and_parts (nat_lt m limit) (bytes_eq (decimal m) text) passes in
    let less : m < limit = ltb-true m limit below in
    (omega (arith, less, same), sym ((bytes_eq-Decides (decimal m) text).0 written) ∙ ap decimal same)

pub number-found : (limit n : ℕ) (text : List ℕ) → n < limit → n < 2 ^ 64 → text ≡ decimal n → number_of limit text ≡ Some n
unfolding number_of
number-found limit n text below fits is =
    let m = digits_value 10 text in
    let same : m ≡ n = ap (digits_value 10) is ∙ (decimal_is_IsNumeral n fits).1 in
    let passes : (nat_lt m limit && bytes_eq (decimal m) text) ≡ true =
    and_from (nat_lt m limit) (bytes_eq (decimal m) text) (lt-ltb m limit (omega (arith, below, same)))
    ((bytes_eq-Decides (decimal m) text).1 (ap decimal same ∙ sym is)) in
    ap (λ b. if b then Some m else None) passes ∙ ap Some same

pub number-none : (limit : ℕ) (text : List ℕ) → ((n : ℕ) → n < limit → text ≡ decimal n → ⊥) → number_of limit text ≡ None
number-none limit text none = elim (number_of limit text) as (λ o. number_of limit text ≡ o → number_of limit text ≡ None) [
  | None ↦ λ is. is
  | Some n ↦ λ is. let (below, written) = number-reads limit n text is in absurd (none n below written)
] refl

-- ---- a reading that is right on decimal digits, for `number`

pub number-same : (k : ℕ) (text : List ℕ) → k < 2 ^ 64 → bytes_eq (decimal k) text ≡ true → number_of (2 ^ 64) text ≡ Some k
number-same k text fits same = number-found (2 ^ 64) k text fits fits (sym ((bytes_eq-Decides (decimal k) text).0 same))

pub number-other : (r : Option ℕ) (k : ℕ) (text : List ℕ) → ((n : ℕ) → n < 2 ^ 64 → text ≡ decimal n → r ≡ Some n) → r ≡ Some k
    → bytes_eq (decimal k) text ≡ false → number_of (2 ^ 64) text ≡ None
number-other r k text reads is other = number-none (2 ^ 64) text (λ n below written.
    let same : k ≡ n = same_Some k n (sym is ∙ reads n below written) in
    both_ways (bytes_eq (decimal k) text) other ((bytes_eq-Decides (decimal k) text).1 (ap decimal same ∙ sym written)))

pub number-unread : (r : Option ℕ) (text : List ℕ) → ((n : ℕ) → n < 2 ^ 64 → text ≡ decimal n → r ≡ Some n) → r ≡ None → number_of (2 ^ 64) text ≡ None
number-unread r text reads none = number-none (2 ^ 64) text (λ n below written. none-some n (sym none ∙ reads n below written))

-- ---- and below a smaller limit, for `small_number`

pub small-found : (k : ℕ) (text : List ℕ) → number_of (2 ^ 64) text ≡ Some k → k < 2 ^ 32 → number_of (2 ^ 32) text ≡ Some k
small-found k text is below =
    let (fits, written) = number-reads (2 ^ 64) k text is in
    number-found (2 ^ 32) k text below fits written

pub small-large : (k : ℕ) (text : List ℕ) → number_of (2 ^ 64) text ≡ Some k → 2 ^ 32 ≤ k → number_of (2 ^ 32) text ≡ None
small-large k text is large = number-none (2 ^ 32) text (λ n below written.
    let same : k ≡ n = same_Some k n (sym is ∙ number-found (2 ^ 64) n text (omega (arith, below)) (omega (arith, below)) written) in
    omega (arith, same, below, large))

pub small-none : (text : List ℕ) → number_of (2 ^ 64) text ≡ None → number_of (2 ^ 32) text ≡ None
small-none text none = number-none (2 ^ 32) text (λ n below written.
    none-some n (sym none ∙ number-found (2 ^ 64) n text (omega (arith, below)) (omega (arith, below)) written))
