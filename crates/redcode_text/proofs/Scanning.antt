-- How far a token goes, and what is after it.
use Rattle.{std.proofs.Common.{◌≡◌, ℕ, zero, suc, ◌+◌, ◌-◌, ◌≤◌, List, [], ◌∷◌, length, get_or, map, take, drop, false, refl, ap, arith}, war_types.specs.Title.is_blank}
use Rattle.redcode_text.specs.{declared.token.Token.Token, Tokens.{Piece, piece_of, pieces, scanned_pieces, without_place, kind_at, rest_of_token, tokens_after}}

-- after the bytes of a token the line begins again
pub tokens_after-drop : (bytes n : ℕ) (bs : List ℕ) → tokens_after bytes n bs ≡ tokens_after bytes 0 (drop n bs)
tokens_after-drop bytes zero bs = refl
tokens_after-drop bytes (suc n) [] = refl
tokens_after-drop bytes (suc n) (b ∷ bs) = tokens_after-drop bytes n bs

-- a token is first at bytes that begin with one, and the line goes on after it
pub first_token_at : (bytes : ℕ) (text rest : List ℕ) (n : ℕ) → is_blank (get_or text 0 0) ≡ false → 1 ≤ length text → rest ≡ drop 1 text → n ≡ rest_of_token (get_or text 0 0) rest
    → tokens_after bytes 0 text ≡ record { kind = kind_at (get_or text 0 0) rest; text = take (1 + n) text; at = bytes - length text } ∷ tokens_after bytes 0 (drop (1 + n) text)
first_token_at bytes [] rest n first some rest-is n-is = absurd (omega arith)
first_token_at bytes (b ∷ bs) rest n first some rest-is n-is =
    let one : 1 + n ≡ suc n = omega arith in
    rw (one, first, n-is, rest-is, tokens_after-drop bytes (rest_of_token b bs) bs) refl

-- tokens without their places
pub without_places : (tokens : List Token) → map without_place (scanned_pieces tokens) ≡ pieces tokens
without_places [] = refl
without_places (t ∷ ts) = ap (λ (ps : List Piece). piece_of t ∷ ps) (without_places ts)
