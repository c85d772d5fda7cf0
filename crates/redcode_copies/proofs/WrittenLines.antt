-- A line in which no counter follows an `&`, as it is written in copies.
use Rattle.std.proofs.Common.{◌≡◌, ℕ, zero, suc, false, List, [], ◌∷◌, ◌++◌, ◌-◌, length, map, Option, Some, None, take, drop, refl, sym, ap, ◌∙◌}
use Rattle.std.proofs.{Common.{arith, length-take}, lemmas.List.length-map}
use Rattle.{redcode_text.specs.{declared.token.Token.Token, Tokens.{Piece, piece_of, pieces}}, redcode_lines.specs.Line.{SourceLine, is_name_token, taken_while, dropped_while}}
use Rattle.{redcode_lines.proofs.Readings.take-taken_while, redcode_copies.specs.{Counter.{Counter, in_copies}, Views.{LineTokens, line_tokens, with_tokens}}}
use Rattle.{redcode_copies.specs.Plain.{has_join, has_number, number_by, kept_count, changed_from}, redcode_copies.proofs.PlainLines.{none-changed, copies-plain}}

-- ---- the tokens that are written

pub changed-split : (f : Piece → Piece) (n : ℕ) (ts : List Token) → changed_from f n (pieces ts) ≡ pieces (take n ts) ++ map f (pieces (drop n ts))
changed-split f zero ts = refl
changed-split f (suc n) [] = refl
changed-split f (suc n) (t ∷ ts) = ap (λ (ps : List Piece). piece_of t ∷ ps) (changed-split f n ts)

pub plain-unchanged : (cs : List Counter) (line : SourceLine) → has_join cs false line.front ≡ false → has_join cs false line.tokens ≡ false → has_number cs line.tokens ≡ false → in_copies cs line ≡ line
plain-unchanged cs line labels none unnamed =
    copies-plain cs line labels none ∙ ap (λ (ts : List Piece). record line { tokens = ts }) (none-changed cs (kept_count line.form line.word line.tokens) line.tokens unnamed)

-- a line that reads as in a copy, and then as in another
pub tokens-again : (line : SourceLine) (copy : Option LineTokens) (new : LineTokens) → with_tokens (with_tokens line copy) (Some new) ≡ with_tokens line (Some new)
tokens-again line None new = refl
tokens-again line (Some copy) new = refl

written-plain : (cs : List Counter) (line : SourceLine) (ts : List Token) (n : ℕ) (front before all : List Piece) → has_join cs false line.front ≡ false
    → has_join cs false line.tokens ≡ false → line.tokens ≡ pieces ts → n ≡ kept_count line.form line.word line.tokens → front ≡ line.front → before ≡ pieces (take n ts)
    → all ≡ before ++ map (number_by cs) (pieces (drop n ts)) → with_tokens line (Some (line_tokens front all)) ≡ in_copies cs line
written-plain cs line ts n front before all labels none are count front-is before-is all-is =
    let whole : all ≡ changed_from (number_by cs) (kept_count line.form line.word line.tokens) line.tokens =
    all-is ∙ ap (λ (ps : List Piece). ps ++ map (number_by cs) (pieces (drop n ts))) before-is ∙ sym (changed-split (number_by cs) n ts)
    ∙ ap (changed_from (number_by cs) n) (sym are) ∙ ap (λ (m : ℕ). changed_from (number_by cs) m line.tokens) count in
    rw (front-is, whole) (sym (copies-plain cs line labels none))

-- the copy that was written of a line that reads as this one
pub plain-written : (cs : List Counter) (line : SourceLine) (copy : Option LineTokens) (read : SourceLine) (ts : List Token) (n : ℕ) (front before all : List Piece)
    → has_join cs false (with_tokens line copy).front ≡ false → has_join cs false (with_tokens line copy).tokens ≡ false → read ≡ with_tokens line copy → read.tokens ≡ pieces ts
    → n ≡ kept_count read.form read.word read.tokens → front ≡ read.front → before ≡ pieces (take n ts) → all ≡ before ++ map (number_by cs) (pieces (drop n ts))
    → with_tokens line (Some (line_tokens front all)) ≡ in_copies cs (with_tokens line copy)
plain-written cs line copy read ts n front before all labels none is are count front-is before-is all-is =
    sym (tokens-again line copy (line_tokens front all))
    ∙ written-plain cs (with_tokens line copy) ts n front before all labels none (ap (λ (l : SourceLine). l.tokens) (sym is) ∙ are)
    (count ∙ ap (λ (l : SourceLine). kept_count l.form l.word l.tokens) is) (front-is ∙ ap (λ (l : SourceLine). l.front) is) before-is all-is

-- ---- for `kept_count`

-- the number of names at the front
pub names-count : (tokens rest : List Token) → pieces rest ≡ dropped_while is_name_token (pieces tokens) → length tokens - length rest ≡ length (taken_while is_name_token (pieces tokens))
names-count tokens rest is =
    let all = pieces tokens in
    let front = take-taken_while is_name_token all in
    omega (arith, ap length front, length-take (length all - length (dropped_while is_name_token all)) all, ap length is, length-map tokens piece_of, length-map rest piece_of)
