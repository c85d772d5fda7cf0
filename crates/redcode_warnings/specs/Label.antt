-- Labels and names of EQU lines that nothing uses, and that are probably misspelt operations.
use Rattle.std.specs.{Prelude.{ℕ, ◌+◌, ◌-◌, Bool, true, false, not, ◌&&◌, ◌||◌, ◌==◌, nat_lt, if◌then◌else◌, List, [], ◌∷◌, length, map, slice_index, find, is_some, Option, Some, None}, Str.bytes_eq, Char.to_ascii_lowercase}
use Rattle.{redcode_text.specs.{Bytes.is_digit, Tokens.Piece, Vocabulary.reserved_words, declared.vocabulary.Word.Word}, redcode_lines.specs.{declared.reading.LineForm.LineForm, Line.{SourceLine, behind_labels, has_and, is_name}}}
use Rattle.redcode_warnings.specs.{declared.kind.WarningKind.{WarningKind}, Start.is_start_name}

-- ---- names that are nearly a reserved word

-- one text is the other with its first two bytes exchanged
abbrev pub are_exchanged : List ℕ → List ℕ → Bool
are_exchanged (a ∷ b ∷ from) (c ∷ d ∷ to) = a == d && (b == c && bytes_eq from to)
are_exchanged _ _ = false

-- one letter put in, left out or exchanged with its neighbour leads from one text to the other
abbrev pub is_one_edit : List ℕ → List ℕ → Bool
is_one_edit [] to = length to == 1
is_one_edit (a ∷ from) [] = length from == 0
is_one_edit (a ∷ from) (b ∷ to) =
    if a == b then is_one_edit from to else
    (bytes_eq from (b ∷ to) || (bytes_eq (a ∷ from) to || are_exchanged (a ∷ from) (b ∷ to)))

-- the same for any letter case
abbrev pub is_near : List ℕ → List ℕ → Bool
is_near name word = is_one_edit (map to_ascii_lowercase name) (map to_ascii_lowercase word)

-- the first reserved word that is one edit from a name of three or four letters
abbrev pub near_word : List ℕ → Option (List ℕ)
near_word name = if nat_lt (length name) 3 || nat_lt 4 (length name) then None else find (is_near name) (map (λ entry. entry.0) reserved_words)

-- ---- the labels of a line

-- labels that may have a warning: those of a line with a word, or of a line of names alone; no name of an EQU or of a counter, and no label that copies join
abbrev pub labels_by : Option Word → SourceLine → List Piece
labels_by None line = if length (behind_labels line) == 0 then line.tokens else []
labels_by (Some Word.Equ) line = []
labels_by (Some Word.For) line = []
labels_by (Some word) line = if has_and line.front then [] else line.front

abbrev pub labels_in : LineForm → SourceLine → List Piece
labels_in LineForm.Statement line = labels_by line.word line
labels_in _ line = []

-- a name that ends with a digit: copies may join a name to it
abbrev pub ends_with_digit : List ℕ → Bool
ends_with_digit name = is_digit (slice_index name (length name - 1))

-- a label that no line names
abbrev pub is_unused : (List ℕ → Bool) → Piece → Bool
is_unused is_named token = is_name token.kind && (not (ends_with_digit token.text) && not (is_named token.text))

-- the warning of an unused label on a line of names alone
abbrev pub alone_warning : Option (List ℕ) → WarningKind
alone_warning (Some word) = WarningKind.UnusedLabel
alone_warning None = WarningKind.NamesAlone

-- the warning of an unused label: where the warrior doesn't start at it although its name says so, and on a line of names alone
abbrev pub unused_warning : Bool → Bool → List ℕ → Option WarningKind
unused_warning late alone name = if late && is_start_name name then Some WarningKind.NoStart else if alone then Some (alone_warning (near_word name)) else None

abbrev pub label_warning : (List ℕ → Bool) → Bool → Bool → Piece → Option WarningKind
label_warning is_named late alone token = if is_unused is_named token then unused_warning late alone token.text else None

abbrev pub or_else : Option WarningKind → Option WarningKind → Option WarningKind
or_else None other = other
or_else (Some kind) other = Some kind

-- the first warning of these labels
abbrev pub first_warning : (List ℕ → Bool) → Bool → Bool → List Piece → Option WarningKind
first_warning is_named late alone [] = None
first_warning is_named late alone (token ∷ tokens) = or_else (label_warning is_named late alone token) (first_warning is_named late alone tokens)

-- the warning of a line's labels, which may be late for a start
abbrev pub labels_warning : (List ℕ → Bool) → Bool → SourceLine → Option WarningKind
labels_warning is_named late line = first_warning is_named late (not (is_some line.word)) (labels_in line.form line)

-- ---- names of EQU lines

-- the last name among these tokens, and this one if there is none
abbrev pub last_name : Option Piece → List Piece → Option Piece
last_name found [] = found
last_name found (token ∷ tokens) = last_name (if is_name token.kind then Some token else found) tokens

abbrev pub is_unused_name : (List ℕ → Bool) → Option Piece → Bool
is_unused_name is_named None = false
is_unused_name is_named (Some token) = is_unused is_named token

abbrev pub is_unused_by : (List ℕ → Bool) → Option Word → List Piece → Bool
is_unused_by is_named (Some Word.Equ) front = not (has_and front) && is_unused_name is_named (last_name None front)
is_unused_by is_named _ front = false

-- an EQU whose name no line names
abbrev pub is_unused_equ : (List ℕ → Bool) → SourceLine → Bool
is_unused_equ is_named line = is_unused_by is_named line.word line.front
