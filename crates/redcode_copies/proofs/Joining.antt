-- For `joined_tokens`: the steps of joining names to a counter's number.
use Rattle.std.proofs.{Common.{◌≡◌, ◌-◌, ◌≤◌, Bool, true, false, List, [], ◌∷◌, ◌++◌, length, get_or, take, drop, ap, ◌∙◌, append_assoc, arith}, lemmas.List.take_all}
use Rattle.{redcode_text.specs.{declared.token.Token.Token, Tokens.{Piece, piece_of, pieces}}, redcode_lines.specs.Line.{taken_while, dropped_while}}
use Rattle.{redcode_lines.proofs.Readings.take-taken_while, redcode_copies.specs.Counter.{Counter, is_label, joins, joined, joined_from, joined_name, kept, numbered, without_word}}

-- the tokens after the first
abbrev pub behind : List Token → List Token
behind rest = take (length rest - 1) (drop 1 rest)

behind-first : (x : Token) (xs : List Token) → behind (x ∷ xs) ≡ xs
behind-first x xs =
    let one : length (x ∷ xs) - 1 ≡ length xs = omega arith in
    rw one (take_all (length xs) xs (omega arith))

-- a name was joined
pub join-kept : (c : Counter) (all due : List (Bool × Piece)) (j : Bool) (last next : Piece) (rest others : List Token) → joins c last (pieces rest) ≡ true
    → next ≡ joined_name c last → pieces others ≡ drop 1 (pieces (behind rest)) → all ++ joined_from c j last (pieces rest) ≡ due → all ++ joined_from c true next (pieces others) ≡ due
join-kept c all due j last next [] others is name-is behind-is so_far = absurd cc
join-kept c all due j last next (x ∷ []) others is name-is behind-is so_far = absurd cc
join-kept c all due j last next (x ∷ y ∷ ts) others is name-is behind-is so_far = rw (name-is, behind-is, behind-first x (y ∷ ts)) (rw is at so_far)

-- a token was not joined
pub token-kept : (c : Counter) (all after due : List (Bool × Piece)) (j : Bool) (last : Piece) (rest : List Token) (d : Token) → 1 ≤ length rest
    → joins c last (pieces rest) ≡ false → after ≡ all ++ (j, last) ∷ [] → all ++ joined_from c j last (pieces rest) ≡ due
    → after ++ joined_from c false (piece_of (get_or rest 0 d)) (pieces (behind rest)) ≡ due
token-kept c all after due j last [] d some is after-is so_far = absurd (omega arith)
token-kept c all after due j last (x ∷ []) d some is after-is so_far = rw after-is (append_assoc all ((j, last) ∷ []) _ ∙ so_far)
token-kept c all after due j last (x ∷ y ∷ ts) d some is after-is so_far = rw (after-is, behind-first x (y ∷ ts)) (append_assoc all ((j, last) ∷ []) _ ∙ rw is at so_far)

-- ---- for `append_without_word`

-- a line without a word was written
pub wordless-written : (c : Counter) (tokens : List Piece) (all back : List (Bool × Piece)) (out before : List Piece) → all ≡ joined c tokens → back ≡ dropped_while is_label all
    → before ≡ out ++ kept (take (length all - length back) all) → before ++ numbered c back ≡ out ++ without_word c (joined c tokens)
wordless-written c tokens all back out before are is before-is =
    let front : take (length all - length back) all ≡ taken_while is_label all = ap (λ (bs : List (Bool × Piece)). take (length all - length bs) all) is ∙ take-taken_while is_label all in
    rw (before-is, front, is, are) (append_assoc out (kept (taken_while is_label (joined c tokens))) (numbered c (dropped_while is_label (joined c tokens))))
