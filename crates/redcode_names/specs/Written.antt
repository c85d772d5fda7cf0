-- The index of the EQU that a token names, and what the code writes of tokens.
use Rattle.std.specs.Prelude.{◌≡◌, ℕ, zero, suc, ◌-◌, Bool, false, ◌||◌, nat_lt, nat_le, if◌then◌else◌, List, [], ◌∷◌, ◌++◌, length, map, slice_get, Option, Some, MatchOption, Result, Ok, Err}
use Rattle.{war_types.specs.{declared.fault.AsmFault.AsmFault, declared.fault.AsmKind.AsmKind}, redcode_text.specs.Tokens.Piece, redcode_lines.specs.Line.is_name}
use Rattle.redcode_names.specs.{Gives.{◌>>=◌, fault_at}, Equ.{EquList, body_at}}

-- the bodies of EQUs, in the order of their definition
abbrev pub bodies_of : EquList → List (List Piece)
bodies_of equs = map (λ equ. equ.1) equs

-- this is the index of the EQU that a token names; none if it names none
abbrev pub Stands : EquList → Piece → Option ℕ → Type 0
Stands equs token place = MatchOption place (body_at equs token ≡ []) (λ i. slice_get (bodies_of equs) i ≡ Some (body_at equs token))

-- the tokens written so far, and these appended one after another
abbrev pub all_written : (List Piece → Piece → Result (List Piece) AsmFault) → List Piece → List Piece → Result (List Piece) AsmFault
all_written one out [] = Ok out
all_written one out (token ∷ tokens) = one out token >>= λ out. all_written one out tokens

-- a token without a body is appended, unless 512 are written; of one with a body this is what that becomes
abbrev pub itself_or : ℕ → List Piece → Piece → List Piece → Result (List Piece) AsmFault → Result (List Piece) AsmFault
itself_or line out token [] other =
    if nat_le 512 (length out) then Err (fault_at line AsmKind.EquLimit) else Ok (out ++ token ∷ [])
itself_or line out token (first ∷ others) other = other

abbrev pub has_name : List Piece → Bool
has_name [] = false
has_name (token ∷ tokens) = is_name token.kind || has_name tokens

-- the tokens written so far, and these appended as they are, unless they are too many
abbrev pub appended : ℕ → List Piece → List Piece → Result (List Piece) AsmFault
appended line out tokens =
    if nat_lt (512 - length out) (length tokens) then Err (fault_at line AsmKind.EquLimit) else Ok (out ++ tokens)

-- the tokens written so far, and these appended in fewer rounds than given: each token itself, or what its body becomes in one round less
abbrev pub written : ℕ → ℕ → EquList → List Piece → List Piece → Result (List Piece) AsmFault
written zero line equs out tokens = Err (fault_at line AsmKind.EquLimit)
written (suc n) line equs out tokens = all_written (λ out token. itself_or line out token (body_at equs token) (written n line equs out (body_at equs token))) out tokens
