-- What is written of kinds.
use Rattle.std.specs.{Prelude.{◌≡◌, ℕ, Bool, true, false, Option, None, Some, List, [], ◌∷◌, ◌++◌, codes, if◌then◌else◌}, Str.bytes_eq}
use Rattle.koth_kinds.specs.{Kinds.{all_kinds, line_named, name_of}, declared.{kind.Kind.Kind, meaning.{Examples.Examples, Meaning.Meaning}, written.TheConstants.{EARNS, NO_SOURCE, OTHER}}}

abbrev pub sort_of : Kind → List ℕ
sort_of (Kind.Refusal kind) = codes "refusal "
sort_of (Kind.Warning kind) = codes "warning "

-- one line: its name, the line that it names, and when a source earns it
abbrev pub line_text : Meaning → List ℕ
line_text m =
    sort_of m.kind ++ name_of m.kind ++ codes ", " ++ line_named m.kind ++ codes ": " ++ m.when.now ++ codes "\n"

abbrev pub both_text : Examples → List ℕ
both_text e = EARNS.now ++ e.earns.now ++ OTHER.now ++ e.other.now

abbrev pub examples_text : Option Examples → List ℕ
examples_text None = NO_SOURCE.now
examples_text (Some e) = both_text e

-- that line and both examples
abbrev pub meaning_text : Meaning → List ℕ
meaning_text m = line_text m ++ examples_text m.examples

-- this is written of a kind by this text of its meaning
abbrev pub IsTextOf : (Meaning → List ℕ) → Kind → List ℕ → Type 0
IsTextOf text_of kind text = (m : Meaning) × (m.kind ≡ kind) × (text ≡ text_of m)

-- of a kind with another name nothing is written
abbrev pub IsTextIf : Bool → Kind → List ℕ → Type 0
IsTextIf true kind text = IsTextOf meaning_text kind text
IsTextIf false kind text = text ≡ []

-- what is written of a kind: a line if all are asked for, and else the whole meaning if it is asked for
abbrev pub IsAsked : Option (List ℕ) → Kind → List ℕ → Type 0
IsAsked None kind text = IsTextOf line_text kind text
IsAsked (Some name) kind text = IsTextIf (bytes_eq (name_of kind) name) kind text

-- a text for each, one after the other
abbrev pub AreTexts : (Kind → List ℕ → Type 0) → List Kind → List ℕ → Type 0
AreTexts IsText [] text = text ≡ []
AreTexts IsText (kind ∷ kinds) text =
    (first : List ℕ) × (rest : List ℕ) × IsText kind first × AreTexts IsText kinds rest × (text ≡ first ++ rest)

-- what is written if this name is asked for, or all are
abbrev pub Explains : Option (List ℕ) → List ℕ → Type 0
Explains name text = AreTexts (IsAsked name) all_kinds text
