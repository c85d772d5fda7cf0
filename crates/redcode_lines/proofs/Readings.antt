-- What stands at the front of a list, and what is after it: for `word_in`.
use Rattle.std.proofs.Common.{◌≡◌, ℕ, ◌-◌, Bool, false, List, [], ◌∷◌, length, get_or, take, drop, Some, None, codes, refl, sym, ap, ◌∙◌}
use Rattle.{std.proofs.{Common.{arith, ◌<◌, ◌++◌, length-append}, lemmas.Bool.false_from_ne_true, lemmas.List.{append-nil, drop_more, take_at}}, std.specs.Cmp.Lexicographic.bytes_decides}
use Rattle.{std.specs.Str.bytes_eq, redcode_text.specs.{Vocabulary.word_of, declared.token.Token.Token, declared.vocabulary.Word.Word, Tokens.{Piece, piece_of, pieces}}}
use Rattle.redcode_lines.specs.Line.{line_word, first_word, word_at, is_front, tokens_from_word, taken_while, dropped_while}

-- the front and what is after it are the whole
parted : {X : Type 0} (p : X → Bool) (xs : List X) → xs ≡ taken_while p xs ++ dropped_while p xs
parted p [] = refl
parted p (x ∷ xs) = grind (arith, parted p xs)

-- the front is as long as the whole without what is after it
pub take-taken_while : {X : Type 0} (p : X → Bool) (xs : List X) → take (length xs - length (dropped_while p xs)) xs ≡ taken_while p xs
take-taken_while p xs =
    let front = taken_while p xs in
    let behind = dropped_while p xs in
    ap (take (length xs - length behind)) (parted p xs) ∙ take_at front behind _ (omega (arith, ap length (parted p xs), length-append front behind))

-- ---- the word: for `word_in`

no-sign : (sign text : List ℕ) (w : Word) → word_of sign ≡ None → word_of text ≡ Some w → bytes_eq text sign ≡ false
no-sign sign text w none is =
    false_from_ne_true (bytes_eq text sign) (λ same.
    let e : text ≡ sign = (bytes_decides text sign).0 same in
    let bad : None ≡ Some w = sym none ∙ ap word_of (sym e) ∙ is in
    absurd cc)

-- a reserved word is no label
word-no-front : (t : Piece) (w : Word) → word_at t ≡ Some w → is_front t ≡ false
word-no-front t w is = grind (arith, no-sign (codes "&") t.text w refl, no-sign (codes ":") t.text w refl)

-- so the tokens before the first one are the front, if they may stand before a word
pub word-found : (ts : List Token) (i : ℕ) (d : Token) (w : Word) → i < length ts → word_at (piece_of (get_or ts i d)) ≡ Some w
    → pieces (take i ts) ++ taken_while is_front (pieces (drop i ts)) ≡ taken_while is_front (pieces ts) → dropped_while is_front (pieces (drop i ts)) ≡ dropped_while is_front (pieces ts)
    → (line_word (pieces ts) ≡ Some w) × (pieces (take i ts) ≡ taken_while is_front (pieces ts)) × (pieces (drop i ts) ≡ tokens_from_word (pieces ts))
word-found ts i d w lt is front behind =
    let none = word-no-front (piece_of (get_or ts i d)) w is in
    let rest = drop_more ts i d lt in
    let nothing : taken_while is_front (pieces (drop i ts)) ≡ [] = rw (rest, none) refl in
    let left : dropped_while is_front (pieces ts) ≡ pieces (drop i ts) = sym behind ∙ rw (rest, none) refl in
    let word : line_word (pieces ts) ≡ Some w = ap first_word left ∙ rw rest is in
    (word, simp (nothing, append-nil) at front, rw word (sym left))
