-- Where a warrior starts, as far as its lines give it.
use Rattle.std.specs.{Prelude.{ℕ, Bool, true, false, not, ◌&&◌, ◌||◌, ◌==◌, nat_lt, if◌then◌else◌, List, [], ◌∷◌, length, Option, Some, None, codes}, Str.bytes_eq}
use Rattle.{redcode_text.specs.declared.vocabulary.Word.Word, redcode_lines.specs.Line.SourceLine}

-- ---- lines that give a start

abbrev pub is_org : Option Word → Bool
is_org (Some Word.Org) = true
is_org _ = false

-- a word with an expression after it
abbrev pub gives_start : Option Word → ℕ → Bool
gives_start (Some Word.End) tokens = nat_lt 1 tokens
gives_start _ tokens = false

-- an END with a start
abbrev pub is_end_start : SourceLine → Bool
is_end_start line = gives_start line.word (length line.tokens)

-- the number of the last ORG, and this one if there is none
abbrev pub last_org : ℕ → List SourceLine → ℕ
last_org number [] = number
last_org number (line ∷ lines) = last_org (if is_org line.word then line.number else number) lines

abbrev pub has_end_start : List SourceLine → Bool
has_end_start [] = false
has_end_start (line ∷ lines) = is_end_start line || has_end_start lines

-- ---- instructions

abbrev pub is_instruction : Option Word → Bool
is_instruction (Some (Word.Operation op)) = true
is_instruction _ = false

-- the number of the first instruction among these lines, and this one if there is none
abbrev pub first_code : ℕ → List SourceLine → ℕ
first_code number [] = number
first_code number (line ∷ lines) = if is_instruction line.word then line.number else first_code number lines

-- ---- what a source gives

pub record Starts : Type 0 where
  -- the line of the last ORG, 0 if there is none
  pub org : ℕ
  -- an ORG gives the start, or an END
  pub is_given : Bool
  -- the line of the first instruction, else 65,537
  pub code : ℕ

abbrev pub starts_by : ℕ → Bool → ℕ → Starts
starts_by org is_given code = record { org = org; is_given = is_given; code = code }

abbrev pub starts_of : List SourceLine → Starts
starts_of lines = starts_by (last_org 0 lines) (nat_lt 0 (last_org 0 lines) || has_end_start lines) (first_code 65537 lines)

-- an ORG before the last one, or the start of an END in a source with an ORG
abbrev pub is_overruled : Starts → SourceLine → Bool
is_overruled starts line = (is_org line.word && not (line.number == starts.org)) || (is_end_start line && nat_lt 0 starts.org)

-- a label here doesn't name the first instruction, at which the warrior starts as no line gives another start
abbrev pub is_late : Starts → ℕ → Bool
is_late starts number = not starts.is_given && nat_lt starts.code number

-- a name that an author gives to the start of a warrior
abbrev pub is_start_name : List ℕ → Bool
is_start_name name = bytes_eq name (codes "start") || (bytes_eq name (codes "go") || bytes_eq name (codes "boot"))
