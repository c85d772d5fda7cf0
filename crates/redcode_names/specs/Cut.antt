-- What the code keeps of EQUs: no more of a body than shows that it is too long. This is no part of the definition.
use Rattle.std.specs.Prelude.{◌≡◌, ℕ, List, take, map, Result, Ok}
use Rattle.{war_types.specs.declared.fault.AsmFault.AsmFault, redcode_text.specs.Tokens.Piece}
use Rattle.redcode_names.specs.{Gives.◌>>=◌, Equ.EquList, Name.{Names, names_of}}

-- operands may be 512 tokens
abbrev pub cut_equ : List ℕ × List Piece → List ℕ × List Piece
cut_equ equ = (equ.0, take 513 equ.1)

abbrev pub cut_equs : EquList → EquList
cut_equs equs = map cut_equ equs

-- no body has more tokens than are kept
abbrev pub AreKept : EquList → Type 0
AreKept equs = cut_equs equs ≡ equs

abbrev pub cut_names : Names → Names
cut_names names = names_of names.labels (cut_equs names.equs)

-- the names that were found, so
abbrev pub with_cut : Result Names AsmFault → Result Names AsmFault
with_cut found = found >>= λ names. Ok (cut_names names)
