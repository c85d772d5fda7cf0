-- What the replacement of the names of EQUs takes in steps.
use Rattle.std.specs.Prelude.{ℕ, zero, suc, ◌+◌, ◌/◌, if◌then◌else◌, List, [], ◌∷◌, ◌++◌, length, take}
use Rattle.{redcode_text.specs.Tokens.Piece, redcode_names.specs.Equ.{EquList, body_at, has_equ}}

-- a token is read, and a name of many bytes is looked up
abbrev pub token_steps : List Piece → ℕ
token_steps [] = 0
token_steps (token ∷ tokens) = 1 + length token.text / 32 + token_steps tokens

-- what the names of EQUs among these tokens become; of a body no more is kept than shows that it is too long
abbrev pub bodies_in : EquList → List Piece → List Piece
bodies_in equs [] = []
bodies_in equs (token ∷ tokens) = take 513 (body_at equs token) ++ bodies_in equs tokens

-- the tokens are read, and in each of this number of rounds those that the names of EQUs became
abbrev pub rounds_steps : ℕ → EquList → List Piece → ℕ
rounds_steps zero equs tokens = token_steps tokens
rounds_steps (suc n) equs tokens = token_steps tokens + rounds_steps n equs (bodies_in equs tokens)

-- tokens without the name of an EQU are not read again
unfoldable pub replacing_steps : EquList → List Piece → ℕ
replacing_steps equs tokens = if has_equ equs tokens then rounds_steps 16 equs tokens else 0
