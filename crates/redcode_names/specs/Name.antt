-- The names of a source: its labels, those of its EQU lines, and those that are known before it.
use Rattle.std.specs.{Prelude.{ℕ, Bool, not, ◌||◌, if◌then◌else◌, List, [], ◌∷◌, ◌++◌, is_some, unwrap_or, Option, Some, None, Result, Ok, Err, ℤ, pos, codes}, Str.bytes_eq}
use Rattle.{war_types.specs.{declared.fault.AsmFault.AsmFault, declared.settings.RawSettings.RawSettings, declared.fault.AsmKind.AsmKind}, redcode_text.specs.Tokens.Piece}
use Rattle.redcode_names.specs.{Gives.{◌>>=◌, fault_at}, Equ.{EquList, is_equ, is_bad_body}}

-- names with the addresses that they stand for, in the order of their definition
abbrev pub LabelList : Type 0
LabelList = List (List ℕ × ℕ)

-- the address of the label of this name
abbrev pub address_of : LabelList → List ℕ → Option ℕ
address_of [] name = None
address_of (label ∷ labels) name = if bytes_eq name label.0 then Some label.1 else address_of labels name

-- for each counter's name the indices of two blocks among the open ones: the first and the last of that name, or what is left of them
pub record CounterPlaces : Type 0 where
  pub firsts : LabelList
  pub lasts : LabelList

abbrev pub counter_places : LabelList → LabelList → CounterPlaces
counter_places firsts lasts = record { firsts = firsts; lasts = lasts }

-- the value of a name that is known before any source, on a line with `before` instructions before it; letter case counts
abbrev pub predefined : RawSettings → ℕ → List ℕ → Option ℤ
predefined s before name =
    if bytes_eq name (codes "CORESIZE") then Some (pos s.core) else (
    if bytes_eq name (codes "MAXPROCESSES") then Some (pos s.processes) else (
    if bytes_eq name (codes "MAXCYCLES") then Some (pos s.cycles) else (
    if bytes_eq name (codes "MAXLENGTH") then Some (pos s.length) else (
    if bytes_eq name (codes "MINDISTANCE") then Some (pos s.distance) else (
    if bytes_eq name (codes "ROUNDS") then Some (pos s.rounds) else (
    if bytes_eq name (codes "WARRIORS") then Some (pos 2) else (
    if bytes_eq name (codes "CURLINE") then Some (pos before) else None)))))))

-- a name that is not predefined, or whose value changes from line to line
abbrev pub is_loose : RawSettings → List ℕ → Bool
is_loose s name = not (is_some (predefined s 0 name)) || bytes_eq name (codes "CURLINE")

-- the names that a source has defined so far
pub record Names : Type 0 where
  pub labels : LabelList
  pub equs : EquList

abbrev pub names_of : LabelList → EquList → Names
names_of labels equs = record { labels = labels; equs = equs }

-- a name that can't be defined any more
abbrev pub is_taken : RawSettings → Names → List ℕ → Bool
is_taken s names name = is_some (predefined s 0 name) || (is_some (address_of names.labels name) || is_equ names.equs name)

-- a label of this name at this address
abbrev pub defined : RawSettings → ℕ → ℕ → List ℕ → Names → Result Names AsmFault
defined s line address name names =
    if is_taken s names name then Err (fault_at line AsmKind.DuplicateName) else Ok (record names { labels = names.labels ++ (name, address) ∷ [] })

-- labels of these names at this address, one after another
abbrev pub all_defined : RawSettings → ℕ → ℕ → List (List ℕ) → Names → Result Names AsmFault
all_defined s line address [] names = Ok names
all_defined s line address (name ∷ others) names = defined s line address name names >>= all_defined s line address others

-- an EQU of this name and this body
abbrev pub equ_defined : RawSettings → ℕ → List Piece → List ℕ → Names → Result Names AsmFault
equ_defined s line body name names =
    if is_taken s names name then Err (fault_at line AsmKind.DuplicateName) else (
    if is_bad_body body then Err (fault_at line AsmKind.BadEqu) else Ok (record names { equs = names.equs ++ (name, body) ∷ [] }))

-- labels of these names at this address but the last one, and that one
abbrev pub but_last : RawSettings → ℕ → ℕ → List (List ℕ) → Names → Result (Names × Option (List ℕ)) AsmFault
but_last s line address [] names = Ok (names, None)
but_last s line address (name ∷ []) names = Ok (names, Some name)
but_last s line address (name ∷ next ∷ others) names = defined s line address name names >>= but_last s line address (next ∷ others)

abbrev pub equ_named : RawSettings → ℕ → List Piece → Option (List ℕ) → Names → Result Names AsmFault
equ_named s line body None names = Err (fault_at line AsmKind.BadEqu)
equ_named s line body (Some name) names = equ_defined s line body name names

-- the labels of an EQU line: the last one is its name, and those before it stand at this address
abbrev pub equ_line : RawSettings → ℕ → ℕ → List Piece → List (List ℕ) → Names → Result Names AsmFault
equ_line s line address body labels names = but_last s line address labels names >>= λ found. equ_named s line body found.1 found.0

-- the labels of a FOR line: the last one is the counter's name, empty if there is none, and those before it stand at this address
abbrev pub for_labels : RawSettings → ℕ → ℕ → List (List ℕ) → Names → Result (Names × List ℕ) AsmFault
for_labels s line address labels names = but_last s line address labels names >>= λ found. Ok (found.0, unwrap_or found.1 [])
