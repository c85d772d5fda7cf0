-- Which name is told as the one that was probably meant.
use Rattle.std.specs.{Prelude.{◌≡◌, ℕ, ◌*◌, ◌+◌, ◌<◌, ◌≤◌, Bool, true, false, not, ◌||◌, ◌&&◌, ◌==◌, nat_lt, if◌then◌else◌, List, [], ◌∷◌, ◌++◌, All, IfSome, MatchOption, length, map, is_some, Option, Some, None, codes}, Str.{chars, is_utf8}, List.filter}
use Rattle.{strsim.specs.Edits.osa_table, redcode_text.specs.{Vocabulary.{is_word, reserved_words}, declared.vocabulary.Word.Word}}
use Rattle.{redcode_lines.specs.{declared.reading.LineForm.LineForm, Line.{SourceLine, labels_of}}, redcode_names.specs.Name.address_of, redcode_expand.specs.Expansion.Expansion}

-- ---- how far a name is

-- by how many edits: a letter put in, left out or replaced, or two neighbours exchanged, and no part edited twice
abbrev pub edits_between : List ℕ → List ℕ → ℕ
edits_between word name = (osa_table (chars word) (chars name)).last_row (length (chars name))

-- the same of texts of UTF-8
abbrev pub distance : List ℕ → List ℕ → Option ℕ
distance word name = if is_utf8 word && is_utf8 name then Some (edits_between word name) else None

-- no edits are counted: one has over 32 bytes, or over two bytes more than the other
abbrev pub are_apart : List ℕ → List ℕ → Bool
are_apart word name =
    if nat_lt 32 (length word) || nat_lt 32 (length name) then true else
    nat_lt (length word + 2) (length name) || nat_lt (length name + 2) (length word)

-- two neighbours of three letters are exchanged
abbrev pub are_exchanged : List ℕ → List ℕ → Bool
are_exchanged (a ∷ b ∷ c ∷ []) (d ∷ e ∷ f ∷ []) = (a == e && (b == d && c == f)) || (a == d && (b == f && c == e))
are_exchanged _ _ = false

-- a name may be told: two edits at most lead to it, and fewer than half of the bytes of the misspelt one; of three letters
-- none is replaced
abbrev pub may_tell : List ℕ → List ℕ → ℕ → Bool
may_tell word name edits =
    if nat_lt 2 edits || not (nat_lt (2 * edits) (length word)) then false else
    edits == 0 || (not (length word == 3) || (not (length name == 3) || are_exchanged word name))

abbrev pub within : List ℕ → List ℕ → Option ℕ → Option ℕ
within word name None = None
within word name (Some edits) = if may_tell word name edits then Some edits else None

-- how many edits lead to a name that may be told: none if only letter case differs
abbrev pub near : List ℕ → List ℕ → Option ℕ
near word name =
    if is_word name word then Some 0 else
    if are_apart word name then None else within word name (distance word name)

-- ---- the nearest one

-- a name may not be told, or over this many edits lead to it
abbrev pub IsFarther : List ℕ → ℕ → List ℕ → Type 0
IsFarther word edits name = IfSome (near word name) (λ others. edits < others)

-- a name may not be told, or no fewer edits lead to it
abbrev pub IsNoNearer : List ℕ → ℕ → List ℕ → Type 0
IsNoNearer word edits name = IfSome (near word name) (λ others. edits ≤ others)

-- one of the names that may be told: to none fewer edits lead, and to none before it as few
pub record IsNearest (word : List ℕ) (names : List (List ℕ)) (name : List ℕ) : Type 0 where
  pub edits : ℕ
  pub before : List (List ℕ)
  pub behind : List (List ℕ)
  pub one : names ≡ before ++ name ∷ behind
  pub is_near : near word name ≡ Some edits
  pub farther : All (IsFarther word edits) before
  pub no_nearer : All (IsNoNearer word edits) behind

-- what is suggested of the names: the nearest, or nothing if none may be told
abbrev pub Suggests : List ℕ → List (List ℕ) → Option (List ℕ) → Type 0
Suggests word names found = MatchOption found (All (λ name. near word name ≡ None) names) (IsNearest word names)

-- ---- the names that are asked

-- a word that is no instruction of P-space
abbrev pub is_taken : Word → Bool
is_taken Word.Pspace = false
is_taken Word.Pin = false
is_taken _ = true

-- the reserved words that may be meant
abbrev pub reserved : List (List ℕ)
reserved = map (λ entry. entry.0) (filter (λ entry. is_taken entry.1) reserved_words)

abbrev pub predefined_names : List (List ℕ)
predefined_names =
    codes "CORESIZE" ∷ codes "MAXPROCESSES" ∷ codes "MAXCYCLES" ∷ codes "MAXLENGTH" ∷ codes "MINDISTANCE"
    ∷ codes "ROUNDS" ∷ codes "WARRIORS" ∷ codes "CURLINE" ∷ []

abbrev pub is_statement : LineForm → Bool
is_statement LineForm.Statement = true
is_statement _ = false

abbrev pub is_equ : Option Word → Bool
is_equ (Some Word.Equ) = true
is_equ _ = false

-- a name before an EQU, or a label of what is written out
abbrev pub is_known : Option Expansion → Bool → List ℕ → Bool
is_known _ true name = true
is_known None false name = false
is_known (Some expanded) false name = is_some (address_of expanded.labels name)

-- the names that a line defines, as it is written
abbrev pub names_on : Option Expansion → SourceLine → List (List ℕ)
names_on expanded line =
    if is_statement line.form then filter (is_known expanded (is_equ line.word)) (labels_of line) else []

abbrev pub names_in : Option Expansion → List SourceLine → List (List ℕ)
names_in expanded [] = []
names_in expanded (line ∷ lines) = names_on expanded line ++ names_in expanded lines

-- the labels and the names of EQUs as they are written, and the predefined names
abbrev pub known_names : Option Expansion → List SourceLine → List (List ℕ)
known_names expanded lines = names_in expanded lines ++ predefined_names
