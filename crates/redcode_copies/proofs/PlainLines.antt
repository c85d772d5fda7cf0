-- For `plain_copy`: a line in which no counter follows an &, within copies.
use Rattle.std.proofs.Common.{◌≡◌, ℕ, zero, suc, ◌+◌, ◌/◌, ◌%◌, ◌<◌, ◌≤◌, Bool, ◌||◌, ◌&&◌, true, false, if◌then◌else◌, List, [], ◌∷◌, ◌++◌, length, map, is_some, Option, Some, None, codes, refl, sym}
use Rattle.{std.proofs.Common.{ap, subst, ◌∙◌, arith, inl, inr}, std.specs.{Prelude.{◌==◌, decimal}, Fmt.{digits, digits_onto, digit_glyph}, Str.bytes_eq}}
use Rattle.{std.proofs.{lemmas.Bool.{cases_Bool, or_parts}, lemmas.Slice.Eq.bytes_eq-Decides}, redcode_text.specs.{Tokens.Piece, declared.vocabulary.Word.Word}}
use Rattle.redcode_lines.specs.{declared.reading.LineForm.LineForm, Line.{SourceLine, has_and, has_text, is_name, is_name_token, taken_while, dropped_while}}
use Rattle.redcode_copies.specs.Counter.{Counter, number_token, is_counter, joined, joined_from, kept, numbered, is_label, behind_operation, behind_word, without_word, copied_tokens, in_copy}
use Rattle.redcode_copies.specs.{Counter.in_copies, Plain.{has_join, has_number, is_numbered, number_of, number_or_token, number_by, modifier_count, kept_behind, kept_count, changed_from, plain_copy}}

-- ---- a number is no sign

-- the first byte is a digit or above the digits
abbrev IsHigh : List ℕ → Type 0
IsHigh [] = ⊥
IsHigh (b ∷ bs) = 47 < b

glyph-by : (t : Bool) (d : ℕ) → 47 < (if t then 48 + d else 87 + d)
glyph-by t d = grind arith

high-by : (t : Bool) (xs ys : List ℕ) → IsHigh xs → IsHigh ys → IsHigh (if t then xs else ys)
high-by true xs ys x y = x
high-by false xs ys x y = y

digits-high : (k n x : ℕ) (acc : List ℕ) → 47 < x → IsHigh (digits_onto k 10 false n (x ∷ acc))
digits-high zero n x acc h = h
digits-high (suc k) n x acc h =
    let d = digit_glyph false (n % 10) in
    let high : 47 < d = glyph-by _ (n % 10) in
    high-by (n / 10 == 0) (d ∷ x ∷ acc) _ high (digits-high k (n / 10) d (x ∷ acc) high)

decimal-high : (n : ℕ) → IsHigh (decimal n)
unfolding digits
decimal-high n =
    let d = digit_glyph false (n % 10) in
    let high : 47 < d = glyph-by _ (n % 10) in
    high-by (n / 10 == 0) (d ∷ []) _ high (digits-high 63 (n / 10) d [] high)

no-sign : (xs : List ℕ) (s : ℕ) → IsHigh xs → s ≤ 47 → bytes_eq xs (s ∷ []) ≡ false
no-sign xs s h low = elim (cases_Bool (bytes_eq xs (s ∷ []))) [
  | inl is ↦
      let high : 47 < s = subst IsHigh ((bytes_eq-Decides xs (s ∷ [])).0 is) h in
      absurd (omega arith)
  | inr is ↦ is
]

-- ---- what a change to a number does

-- the number in place of the counter if nothing was joined
abbrev plain_number : Counter → Piece → Piece
plain_number c token = if is_counter c token then number_token c.number else token

-- a token that is not this sign becomes none
number-none : (c : Counter) (x : Piece) (s : ℕ) → s ≤ 47 → has_text (s ∷ []) x ≡ false → has_text (s ∷ []) (plain_number c x) ≡ false
number-none c x s low none = elim (is_counter c x) as (λ b. has_text (s ∷ []) (if b then number_token c.number else x) ≡ false) [
  | true ↦ no-sign (decimal c.number) s (decimal-high c.number) low
  | false ↦ none
]

number-by : (b d same : Bool) (n : ℕ) (cs : List Counter) (x : Piece) → (b ≡ false → d ≡ false) → (b && is_numbered cs x) ≡ false
    → (d && is_numbered cs (if same then number_token n else x)) ≡ false
number-by b d same n cs x less none = grind arith

-- an & before a token joins it to a counter no more than before
number-apart : (c : Counter) (cs : List Counter) (x : Piece) (b d : Bool) → (b ≡ false → d ≡ false) → (b && is_numbered cs x) ≡ false → (d && is_numbered cs (plain_number c x)) ≡ false
number-apart c cs x b d less none = number-by b d (is_counter c x) c.number cs x less none

less-and : (b d t : Bool) → (b ≡ false → d ≡ false) → (b && t) ≡ false → (d && t) ≡ false
less-and b d t less none = grind arith

-- a token that is no name stays
other-stays : (c : Counter) (x : Piece) → is_name x.kind ≡ false → plain_number c x ≡ x
other-stays c x other = rw other refl

-- no counter follows an & if none did before
numbers-apart : (c : Counter) (cs : List Counter) (b d : Bool) (n : ℕ) (xs : List Piece) → (b ≡ false → d ≡ false) → has_join cs b xs ≡ false
    → has_join cs d (changed_from (plain_number c) n xs) ≡ false
numbers-apart c cs b d zero [] less none = refl
numbers-apart c cs b d zero (x ∷ xs) less none =
    let parts = or_parts (b && is_numbered cs x) (has_join cs (has_text (codes "&") x) xs) none in
    rw (number-apart c cs x b d less parts.0) (numbers-apart c cs (has_text (codes "&") x) (has_text (codes "&") (plain_number c x)) 0 xs (number-none c x 38 (omega arith)) parts.1)
numbers-apart c cs b d (suc n) [] less none = refl
numbers-apart c cs b d (suc n) (x ∷ xs) less none =
    let parts = or_parts (b && is_numbered cs x) (has_join cs (has_text (codes "&") x) xs) none in
    rw (less-and b d (is_numbered cs x) less parts.0) (numbers-apart c cs (has_text (codes "&") x) (has_text (codes "&") x) n xs (λ none. none) parts.1)

-- ---- nothing is joined

-- a token that was not joined
abbrev plain : Piece → Bool × Piece
plain token = (false, token)

join-within : (cs : List Counter) (b : Bool) (xs : List Piece) → has_join cs b xs ≡ false → has_join cs false xs ≡ false
join-within cs b [] none = refl
join-within cs b (x ∷ xs) none = (or_parts (b && is_numbered cs x) (has_join cs (has_text (codes "&") x) xs) none).1

-- without an & none follows one
pub without-and : (cs : List Counter) (xs : List Piece) → has_and xs ≡ false → has_join cs false xs ≡ false
without-and cs [] none = refl
without-and cs (x ∷ xs) none =
    let parts = or_parts (has_text (codes "&") x) (has_and xs) none in
    rw (parts.0) (without-and cs xs parts.1)

first-by : (b named same : Bool) (n : ℕ) (o : Option ℕ) → (b && (named && is_some (if same then Some n else o))) ≡ false
    → ((b && (named && is_some (if same then Some n else None))) ≡ false) × ((b && (named && is_some o)) ≡ false)
first-by b named same n o none = grind arith

join-parts : (c : Counter) (cs : List Counter) (b : Bool) (xs : List Piece) → has_join (c ∷ cs) b xs ≡ false → (has_join (c ∷ []) b xs ≡ false) × (has_join cs b xs ≡ false)
join-parts c cs b [] none = (refl, refl)
join-parts c cs b (x ∷ xs) none =
    let parts = or_parts (b && is_numbered (c ∷ cs) x) (has_join (c ∷ cs) (has_text (codes "&") x) xs) none in
    let first = first-by b (is_name x.kind) (bytes_eq x.text c.name) c.number (number_of cs x.text) parts.0 in
    let rest = join-parts c cs (has_text (codes "&") x) xs parts.1 in
    (rw (first.0, rest.0) refl, rw (first.1, rest.1) refl)

no-join : (t a named same : Bool) (n : ℕ) → (a && (named && is_some (if same then Some n else None))) ≡ false → (t && (a && (named && same))) ≡ false
no-join t a named same n none = grind arith

-- so no name is joined
joined-from-plain : (c : Counter) (token : Piece) (tokens : List Piece) → has_join (c ∷ []) false tokens ≡ false → joined_from c false token tokens ≡ plain token ∷ map plain tokens
joined-from-plain c token [] none = refl
joined-from-plain c token (next ∷ []) none = refl
joined-from-plain c token (next ∷ after ∷ tokens) none =
    let parts = or_parts (has_text (codes "&") next && is_numbered (c ∷ []) after) (has_join (c ∷ []) (has_text (codes "&") after) tokens) none in
    rw (no-join (is_name token.kind) (has_text (codes "&") next) (is_name after.kind) (bytes_eq after.text c.name) c.number parts.0)
    (ap (λ (ts : List (Bool × Piece)). plain token ∷ ts) (joined-from-plain c next (after ∷ tokens) parts.1))

joined-plain : (c : Counter) (b : Bool) (tokens : List Piece) → has_join (c ∷ []) b tokens ≡ false → joined c tokens ≡ map plain tokens
joined-plain c b [] none = refl
joined-plain c b (token ∷ tokens) none = joined-from-plain c token tokens (join-within (c ∷ []) _ tokens (join-within (c ∷ []) b (token ∷ tokens) none))

kept-plain : (tokens : List Piece) → kept (map plain tokens) ≡ tokens
kept-plain [] = refl
kept-plain (token ∷ tokens) = ap (λ (ts : List Piece). token ∷ ts) (kept-plain tokens)

numbered-plain : (c : Counter) (tokens : List Piece) → numbered c (map plain tokens) ≡ map (plain_number c) tokens
numbered-plain c [] = refl
numbered-plain c (token ∷ tokens) = ap (λ (ts : List Piece). plain_number c token ∷ ts) (numbered-plain c tokens)

-- ---- one counter

-- labels stay, and what follows them is numbered
labels-by : (c : Counter) (x : Piece) (xs : List Piece) (b : Bool) (front back : List (Bool × Piece)) (n : ℕ) → kept front ++ numbered c back ≡ changed_from (plain_number c) n xs
    → is_name x.kind ≡ b → kept (if b then plain x ∷ front else []) ++ numbered c (if b then back else plain x ∷ map plain xs) ≡ changed_from (plain_number c) (if b then suc n else 0) (x ∷ xs)
labels-by c x xs true front back n h is = ap (λ (ts : List Piece). x ∷ ts) h
labels-by c x xs false front back n h is = ap (λ (ts : List Piece). plain_number c x ∷ ts) (numbered-plain c xs)

length-by : (x : Piece) (front : List Piece) (b : Bool) → length (if b then x ∷ front else []) ≡ (if b then suc (length front) else 0)
length-by x front b = grind arith

labels-plain : (c : Counter) (xs : List Piece) → without_word c (map plain xs) ≡ changed_from (plain_number c) (length (taken_while is_name_token xs)) xs
labels-plain c [] = refl
labels-plain c (x ∷ xs) =
    rw (length-by x (taken_while is_name_token xs) (is_name x.kind))
    (labels-by c x xs (is_name x.kind) (taken_while is_label (map plain xs)) (dropped_while is_label (map plain xs)) (length (taken_while is_name_token xs)) (labels-plain c xs) refl)

dot-plain : (c : Counter) (x y : Piece) (xs : List Piece) (b : Bool)
    → (if b then x ∷ y ∷ numbered c (map plain xs) else numbered c (map plain (x ∷ y ∷ xs))) ≡ changed_from (plain_number c) (if b then 2 else 0) (x ∷ y ∷ xs)
dot-plain c x y xs true = ap (λ (ts : List Piece). x ∷ y ∷ ts) (numbered-plain c xs)
dot-plain c x y xs false = numbered-plain c (x ∷ y ∷ xs)

operation-plain : (c : Counter) (xs : List Piece) → behind_operation c (map plain xs) ≡ changed_from (plain_number c) (modifier_count xs) xs
operation-plain c [] = refl
operation-plain c (x ∷ []) = refl
operation-plain c (x ∷ y ∷ xs) = dot-plain c x y xs (has_text (codes ".") x)

behind-plain : (c : Counter) (word : Word) (xs : List Piece) → behind_word c word (map plain xs) ≡ changed_from (plain_number c) (kept_behind word xs) xs
behind-plain c (Word.Operation op) xs = operation-plain c xs
behind-plain c Word.Pspace xs = operation-plain c xs
behind-plain c _ xs = numbered-plain c xs

copied-plain : (c : Counter) (form : LineForm) (word : Option Word) (xs : List Piece) → has_join (c ∷ []) false xs ≡ false
    → copied_tokens c form word xs ≡ changed_from (plain_number c) (kept_count form word xs) xs
copied-plain c LineForm.Statement None xs none = rw (joined-plain c false xs none) (labels-plain c xs)
copied-plain c LineForm.Statement (Some word) [] none = refl
copied-plain c LineForm.Statement (Some word) (x ∷ xs) none = rw (joined-plain c (has_text (codes "&") x) xs none) (ap (λ (ts : List Piece). x ∷ ts) (behind-plain c word xs))
copied-plain c _ word xs none = rw (joined-plain c false xs none) (numbered-plain c xs)

-- ---- as many tokens stay in each copy

modifier-same : (c : Counter) (xs : List Piece) → modifier_count (changed_from (plain_number c) (modifier_count xs) xs) ≡ modifier_count xs
modifier-same c [] = refl
modifier-same c (x ∷ []) = refl
modifier-same c (x ∷ y ∷ xs) = elim (cases_Bool (has_text (codes ".") x)) [
  | inl dot ↦ rw dot (rw dot refl)
  | inr other ↦ rw other (rw (number-none c x 46 (omega arith) other) refl)
]

behind-same : (c : Counter) (word : Word) (xs : List Piece) → kept_behind word (changed_from (plain_number c) (kept_behind word xs) xs) ≡ kept_behind word xs
behind-same c (Word.Operation op) xs = modifier-same c xs
behind-same c Word.Pspace xs = modifier-same c xs
behind-same c _ xs = refl

names-by : (c : Counter) (x : Piece) (xs front : List Piece) (b : Bool) → is_name x.kind ≡ b → length (taken_while is_name_token (changed_from (plain_number c) (length front) xs)) ≡ length front
    → length (taken_while is_name_token (changed_from (plain_number c) (length (if b then x ∷ front else [])) (x ∷ xs))) ≡ length (if b then x ∷ front else [])
names-by c x xs front true is h = rw is (ap suc h)
names-by c x xs front false is h = rw (other-stays c x is, is) refl

names-same : (c : Counter) (xs : List Piece) → length (taken_while is_name_token (changed_from (plain_number c) (length (taken_while is_name_token xs)) xs)) ≡ length (taken_while is_name_token xs)
names-same c [] = refl
names-same c (x ∷ xs) = names-by c x xs (taken_while is_name_token xs) (is_name x.kind) refl (names-same c xs)

count-same : (c : Counter) (form : LineForm) (word : Option Word) (xs : List Piece)
    → kept_count form word (changed_from (plain_number c) (kept_count form word xs) xs) ≡ kept_count form word xs
count-same c LineForm.Statement None xs = names-same c xs
count-same c LineForm.Statement (Some word) [] = refl
count-same c LineForm.Statement (Some word) (x ∷ xs) = ap suc (behind-same c word xs)
count-same c _ word xs = refl

-- ---- all counters

changed-twice : (f g h : Piece → Piece) (n : ℕ) (xs : List Piece) → ((x : Piece) → g (f x) ≡ h x) → changed_from g n (changed_from f n xs) ≡ changed_from h n xs
changed-twice f g h zero [] same = refl
changed-twice f g h zero (x ∷ xs) same = rw (same x, changed-twice f g h zero xs same) refl
changed-twice f g h (suc n) [] same = refl
changed-twice f g h (suc n) (x ∷ xs) same = ap (λ (ts : List Piece). x ∷ ts) (changed-twice f g h n xs same)

none-found : (x : Piece) (named : Bool) (found : Option ℕ) → (named && is_some found) ≡ false → (if named then number_or_token found x else x) ≡ x
none-found x named found none = grind arith

-- if no counter is named nothing changes
pub none-changed : (cs : List Counter) (n : ℕ) (xs : List Piece) → has_number cs xs ≡ false → changed_from (number_by cs) n xs ≡ xs
none-changed cs zero [] none = refl
none-changed cs zero (x ∷ xs) none =
    let parts = or_parts (is_numbered cs x) (has_number cs xs) none in
    rw (none-found x (is_name x.kind) (number_of cs x.text) parts.0, none-changed cs zero xs parts.1) refl
none-changed cs (suc n) [] none = refl
none-changed cs (suc n) (x ∷ xs) none =
    let parts = or_parts (is_numbered cs x) (has_number cs xs) none in
    ap (λ (ts : List Piece). x ∷ ts) (none-changed cs n xs parts.1)

no-number : (xs : List Piece) → has_number [] xs ≡ false
no-number [] = refl
no-number (x ∷ xs) = elim (is_name x.kind) as (λ b. ((b && false) || has_number [] xs) ≡ false) [
  | true ↦ no-number xs
  | false ↦ no-number xs
]

next-by : (c : Counter) (cs : List Counter) (x : Piece) (named same : Bool) → is_name x.kind ≡ named
    → number_by cs (if named && same then number_token c.number else x) ≡ (if named then number_or_token (if same then Some c.number else number_of cs x.text) x else x)
next-by c cs x named same is = grind arith

-- the first counter comes first
number-next : (c : Counter) (cs : List Counter) (x : Piece) → number_by cs (plain_number c x) ≡ number_by (c ∷ cs) x
number-next c cs x = next-by c cs x (is_name x.kind) (bytes_eq x.text c.name) refl

-- a line in which no counter follows an &, within copies
pub copies-plain : (cs : List Counter) (line : SourceLine) → has_join cs false line.front ≡ false → has_join cs false line.tokens ≡ false → in_copies cs line ≡ plain_copy cs line
copies-plain [] line labels none =
    ap (λ (ts : List Piece). record line { tokens = ts }) (sym (none-changed [] (kept_count line.form line.word line.tokens) line.tokens (no-number line.tokens)))
copies-plain (c ∷ cs) line labels none =
    let n = kept_count line.form line.word line.tokens in
    let new : List Piece = changed_from (plain_number c) n line.tokens in
    let parts = join-parts c cs false line.front labels in
    let apart = join-parts c cs false line.tokens none in
    let front : kept (joined c line.front) ≡ line.front = ap kept (joined-plain c false line.front parts.0) ∙ kept-plain line.front in
    let tokens : copied_tokens c line.form line.word line.tokens ≡ new = copied-plain c line.form line.word line.tokens apart.0 in
    let here : in_copy c line ≡ record line { tokens = new } = rw (front, tokens) refl in
    let behind : in_copies cs (record line { tokens = new }) ≡ plain_copy cs (record line { tokens = new }) =
    copies-plain cs (record line { tokens = new }) parts.1 (numbers-apart c cs false false n line.tokens (λ none. none) apart.1) in
    let same : changed_from (number_by cs) (kept_count line.form line.word new) new ≡ changed_from (number_by (c ∷ cs)) n line.tokens =
    ap (λ (m : ℕ). changed_from (number_by cs) m new) (count-same c line.form line.word line.tokens)
    ∙ changed-twice (plain_number c) (number_by cs) (number_by (c ∷ cs)) n line.tokens (number-next c cs) in
    ap (in_copies cs) here ∙ behind ∙ ap (λ (ts : List Piece). record line { tokens = ts }) same
