-- A line with too many operands is walked over without those that can't matter: what is kept of it is the same.
use Rattle.std.proofs.Common.{◌≡◌, ℕ, zero, suc, ◌+◌, ◌<◌, Bool, true, false, not, ◌&&◌, nat_lt, List, [], ◌∷◌, length, take, Option, Some, None, Ok, Err, refl, sym, ap, ◌∙◌, subst, arith}
use Rattle.std.proofs.{Common.{inl, inr}, lemmas.Bool.{true≢false, and_parts, cases_Bool, ltb-true, or_parts}, lemmas.List.{map-append, take-map, take-take}}
use Rattle.{redcode_copies.proofs.PlainLines.{copies-plain, without-and}, redcode_copies.specs.Plain.modifier_count, redcode_names.specs.Gives.{◌>>=◌, Fails}}
use Rattle.redcode_expand.specs.Walk.{ExpandedLine, WalkState, counted, labelled, step, step_as, with_line, with_word, worded, is_equ_word}
use Rattle.redcode_expand.specs.{Cut.{cut_line, cut_walk, is_limited, kept_tokens, with_cut}, Marks.{has_operands, is_long, shortened}}
use Rattle.redcode_expand.proofs.Words.{AsmFault, RawSettings, Walked, Piece, SourceLine, label_tokens, names_among, Counter, in_copies, changed_from, kept_count, number_by, plain_copy, Word, LineKind, LineForm, has_and}
use Rattle.redcode_text.specs.declared.vocabulary.Word.TheVariants as words
use Rattle.redcode_lines.specs.declared.line.LineKind.TheVariants as lines
use Rattle.redcode_lines.specs.declared.reading.LineForm.TheVariants as forms

-- ---- the tokens of a copy

abbrev with_pieces : SourceLine → List Piece → SourceLine
with_pieces line ts = record line { tokens = ts }

none-taken : (n : ℕ) (ts : List Piece) → has_and ts ≡ false → has_and (take n ts) ≡ false
none-taken zero ts none = refl
none-taken (suc n) [] none = refl
none-taken (suc n) (t ∷ ts) none = grind (arith, or_parts, none-taken n ts)

changed-taken : (f : Piece → Piece) (k n : ℕ) (ts : List Piece) → changed_from f k (take n ts) ≡ take n (changed_from f k ts)
changed-taken f zero n ts = sym (take-map f n ts)
changed-taken f (suc k) zero ts = refl
changed-taken f (suc k) (suc n) [] = refl
changed-taken f (suc k) (suc n) (t ∷ ts) = ap (λ (us : List Piece). t ∷ us) (changed-taken f k n ts)

modifier-taken : (n : ℕ) (ts : List Piece) → modifier_count (take (suc (suc n)) ts) ≡ modifier_count ts
modifier-taken n [] = refl
modifier-taken n (t ∷ []) = refl
modifier-taken n (t ∷ u ∷ ts) = refl

-- without more than its first tokens the same ones stay in a copy
count-taken : (n : ℕ) (form : LineForm) (word : Option Word) (ts : List Piece) → has_operands form word ≡ true → kept_count form word (take (suc (suc (suc n))) ts) ≡ kept_count form word ts
count-taken n forms.Statement None ts is = absurd (true≢false (sym is))
count-taken n forms.Statement (Some word) [] is = refl
count-taken n forms.Statement (Some (words.Operation op)) (t ∷ ts) is = ap suc (modifier-taken n ts)
count-taken n forms.Statement (Some words.Pspace) (t ∷ ts) is = ap suc (modifier-taken n ts)
count-taken n forms.Statement (Some words.Org) (t ∷ ts) is = refl
count-taken n forms.Statement (Some words.End) (t ∷ ts) is = refl
count-taken n forms.Statement (Some word) (t ∷ ts) is = absurd (true≢false (sym is))
count-taken n forms.Assert word ts is = refl
count-taken n forms.Name word ts is = absurd (true≢false (sym is))
count-taken n forms.Author word ts is = absurd (true≢false (sym is))

-- ---- a line with other tokens of which the same is kept

line-same : (line : ℕ) (kind : LineKind) (word : Option Word) (title : List ℕ) (ts us : List Piece) (st : WalkState) → kept_tokens kind us ≡ kept_tokens kind ts
    → cut_walk (with_line line kind word title us st) ≡ cut_walk (with_line line kind word title ts st)
line-same line kind word title ts us st same =
    let new : List Piece → ExpandedLine = λ ts. record { source_line = line; kind = kind; word = word; before = st.before; title = title; tokens = ts } in
    rw (map-append cut_line st.lines (new us ∷ []), map-append cut_line st.lines (new ts ∷ []), same) refl

limited-same : (kind : LineKind) (ts us : List Piece) → is_limited kind ≡ true → take 516 us ≡ take 516 ts → kept_tokens kind us ≡ kept_tokens kind ts
unfolding kept_tokens
limited-same kind ts us limited same = rw limited same

word-same : (line : ℕ) (word : Word) (ts us : List Piece) (st : WalkState) → has_operands forms.Statement (Some word) ≡ true → take 516 us ≡ take 516 ts
    → cut_walk (with_word line word us st) ≡ cut_walk (with_word line word ts st)
word-same line (words.Operation op) ts us st is same =
    ap (λ (w : WalkState). record w { before = st.before + 1 }) (line-same line lines.Operation (Some (words.Operation op)) [] ts us st (limited-same lines.Operation ts us refl same))
word-same line words.Pspace ts us st is same =
    ap (λ (w : WalkState). record w { before = st.before + 1 }) (line-same line lines.Operation (Some words.Pspace) [] ts us st (limited-same lines.Operation ts us refl same))
word-same line words.Org ts us st is same = line-same line lines.Org (Some words.Org) [] ts us st (limited-same lines.Org ts us refl same)
word-same line words.End ts us st is same = ap (λ (w : WalkState). record w { ended = true }) (line-same line lines.End (Some words.End) [] ts us st (limited-same lines.End ts us refl same))
word-same line word ts us st is same = absurd (true≢false (sym is))

-- two steps after the same one
then-same : (m : Walked) (f g : WalkState → Walked) → ((st : WalkState) → with_cut (f st) ≡ with_cut (g st)) → with_cut (m >>= f) ≡ with_cut (m >>= g)
then-same (Ok st) f g same = same st
then-same (Err fault) f g same = refl

no-equ : (word : Word) → has_operands forms.Statement (Some word) ≡ true → is_equ_word (Some word) ≡ false
no-equ word h1 = grind arith

worded-same : (s : RawSettings) (line : SourceLine) (word : Word) (ts us : List Piece) (st : WalkState) → line.word ≡ Some word → has_operands forms.Statement (Some word) ≡ true
    → take 516 us ≡ take 516 ts → with_cut (worded s (with_pieces line us) st) ≡ with_cut (worded s (with_pieces line ts) st)
worded-same s line word ts us st is limited same =
    let labels : List (List ℕ) = names_among (label_tokens (Some word) line.front []) in
    let put : List Piece → WalkState → Walked = λ ts st. Ok (with_word line.number word ts st) in
    rw (is, no-equ word limited)
    (then-same (labelled s line.number labels st) (put us) (put ts) (λ now. ap (λ (w : WalkState). Ok w) (word-same line.number word ts us now limited same)))

step-same : (s : RawSettings) (line : SourceLine) (form : LineForm) (word : Option Word) (ts us : List Piece) (st : WalkState) → line.form ≡ form → line.word ≡ word → has_operands form word ≡ true
    → take 516 us ≡ take 516 ts → with_cut (step_as s (with_pieces line us) st) ≡ with_cut (step_as s (with_pieces line ts) st)
step-same s line forms.Statement None ts us st is word-is limited same = absurd (true≢false (sym limited))
step-same s line forms.Statement (Some word) ts us st is word-is limited same =
    rw is (then-same (counted line.number st) (worded s (with_pieces line us)) (worded s (with_pieces line ts)) (λ now. worded-same s line word ts us now word-is limited same))
step-same s line forms.Assert word ts us st is word-is limited same =
    rw is (then-same (counted line.number st) (λ now. Ok (with_line line.number lines.Assert None [] us now)) (λ now. Ok (with_line line.number lines.Assert None [] ts now))
    (λ now. ap (λ (w : WalkState). Ok w) (line-same line.number lines.Assert None [] ts us now (limited-same lines.Assert ts us refl same))))
step-same s line forms.Name word ts us st is word-is limited same = absurd (true≢false (sym limited))
step-same s line forms.Author word ts us st is word-is limited same = absurd (true≢false (sym limited))

-- ---- a line within copies

pub long-parts : (a b c d : Bool) → (a && (b && (not c && not d))) ≡ true → (b ≡ true) × (c ≡ false) × (d ≡ false)
long-parts a b c d h = grind arith

short-long : (s : RawSettings) (cs : List Counter) (line : SourceLine) (st : WalkState) → is_long line ≡ true
    → with_cut (step s cs (with_pieces line (take 516 line.tokens)) st) ≡ with_cut (step s cs line st)
short-long s cs line st long =
    let parts = long-parts (nat_lt 516 (length line.tokens)) (has_operands line.form line.word) (has_and line.front) (has_and line.tokens) long in
    let short : SourceLine = with_pieces line (take 516 line.tokens) in
    let ts : List Piece = (plain_copy cs line).tokens in
    let us : List Piece = (plain_copy cs short).tokens in
    let here : in_copies cs line ≡ with_pieces line ts = copies-plain cs line (without-and cs line.front parts.1) (without-and cs line.tokens parts.2) in
    let there : in_copies cs short ≡ with_pieces line us = copies-plain cs short (without-and cs line.front parts.1) (without-and cs short.tokens (none-taken 516 line.tokens parts.2)) in
    let same : us ≡ take 516 ts =
    ap (λ (k : ℕ). changed_from (number_by cs) k (take 516 line.tokens)) (count-taken 513 line.form line.word line.tokens parts.0)
    ∙ changed-taken (number_by cs) (kept_count line.form line.word line.tokens) 516 line.tokens in
    rw (here, there) (step-same s line line.form line.word ts us st refl refl parts.0 (ap (λ (vs : List Piece). take 516 vs) same ∙ take-take 516 516 ts (omega arith)))

-- what is read of a line that is long
pub long-many : (line : SourceLine) → is_long line ≡ true → 516 < length line.tokens
long-many line long = ltb-true 516 (length line.tokens) (and_parts _ _ long).0

pub short-is : (line read : SourceLine) (ts : List Piece) → read ≡ line → is_long line ≡ true → ts ≡ take 516 read.tokens → with_pieces read ts ≡ shortened line
short-is line read ts is long same =
    ap (λ (us : List Piece). with_pieces read us) same ∙ ap (λ (l : SourceLine). with_pieces l (take 516 l.tokens)) is ∙ rw long refl

step-shortened : (s : RawSettings) (cs : List Counter) (line : SourceLine) (st : WalkState) → with_cut (step s cs (shortened line) st) ≡ with_cut (step s cs line st)
step-shortened s cs line st = elim (cases_Bool (is_long line)) [
  | inl long ↦ rw long (short-long s cs line st long)
  | inr other ↦ rw other refl
]

-- a line that was read so
pub step-read : (s : RawSettings) (cs : List Counter) (line read : SourceLine) (st : WalkState) → read ≡ shortened line → with_cut (step s cs read st) ≡ with_cut (step s cs line st)
step-read s cs line read st is = ap (λ (l : SourceLine). with_cut (step s cs l st)) is ∙ step-shortened s cs line st

pub fails-read : (s : RawSettings) (cs : List Counter) (line read : SourceLine) (st : WalkState) (fault : AsmFault) → read ≡ shortened line → Fails fault (with_cut (step s cs read st))
    → Fails fault (with_cut (step s cs line st))
fails-read s cs line read st fault is fails = subst (Fails fault) (step-read s cs line read st is) fails
