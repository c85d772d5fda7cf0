-- EQU: names that stand for tokens, and their replacement.
use Rattle.std.specs.{Prelude.{ℕ, zero, suc, Bool, true, false, ◌||◌, nat_lt, if◌then◌else◌, List, [], ◌∷◌, ◌++◌, length, is_some, Result, Ok, Err}, Str.bytes_eq}
use Rattle.{war_types.specs.{declared.fault.AsmFault.AsmFault, declared.fault.AsmKind.AsmKind}, redcode_text.specs.Tokens.Piece, redcode_lines.specs.Line.{is_name, word_at}}
use Rattle.redcode_names.specs.Gives.{fault_at}

-- names with the tokens that they stand for, one token at least, in the order of their definition
abbrev pub EquList : Type 0
EquList = List (List ℕ × List Piece)

abbrev pub is_equ : EquList → List ℕ → Bool
is_equ [] name = false
is_equ (equ ∷ equs) name = bytes_eq name equ.0 || is_equ equs name

-- the tokens that this name stands for, none if it is the name of no EQU
abbrev pub body_of : EquList → List ℕ → List Piece
body_of [] name = []
body_of (equ ∷ equs) name = if bytes_eq name equ.0 then equ.1 else body_of equs name

-- the tokens that a token stands for, none if it is no name of an EQU
abbrev pub body_at : EquList → Piece → List Piece
body_at equs token = if is_name token.kind then body_of equs token.text else []

-- ---- the body of an EQU line

abbrev pub has_word : List Piece → Bool
has_word [] = false
has_word (token ∷ tokens) = is_some (word_at token) || has_word tokens

-- no token at all, or a reserved word
abbrev pub is_bad_body : List Piece → Bool
is_bad_body [] = true
is_bad_body (token ∷ tokens) = has_word (token ∷ tokens)

-- ---- the replacement

abbrev pub or_itself : Piece → List Piece → List Piece
or_itself token [] = token ∷ []
or_itself token (first ∷ others) = first ∷ others

-- one round: each name of an EQU becomes its body, all of them at once
abbrev pub round : EquList → List Piece → List Piece
round equs [] = []
round equs (token ∷ tokens) = or_itself token (body_at equs token) ++ round equs tokens

abbrev pub has_tokens : List Piece → Bool
has_tokens [] = false
has_tokens (token ∷ tokens) = true

-- a name of an EQU is among the tokens
abbrev pub has_equ : EquList → List Piece → Bool
has_equ equs [] = false
has_equ equs (token ∷ tokens) = has_tokens (body_at equs token) || has_equ equs tokens

-- what the rounds leave: 512 tokens at most, and no name of an EQU
abbrev pub left_over : ℕ → EquList → List Piece → Result (List Piece) AsmFault
left_over line equs tokens = if nat_lt 512 (length tokens) || has_equ equs tokens then Err (fault_at line AsmKind.EquLimit) else Ok tokens

-- this number of rounds, with never more than 512 tokens
abbrev pub rounds : ℕ → ℕ → EquList → List Piece → Result (List Piece) AsmFault
rounds zero line equs tokens = left_over line equs tokens
rounds (suc n) line equs tokens = if nat_lt 512 (length tokens) then Err (fault_at line AsmKind.EquLimit) else rounds n line equs (round equs tokens)

-- the tokens after 16 rounds, or the refusal of the line
unfoldable pub replaced : ℕ → EquList → List Piece → Result (List Piece) AsmFault
replaced line equs tokens = rounds 16 line equs tokens

-- the tokens after this number of rounds, however many tokens they are
abbrev pub after_rounds : ℕ → EquList → List Piece → List Piece
after_rounds zero equs tokens = tokens
after_rounds (suc n) equs tokens = after_rounds n equs (round equs tokens)
