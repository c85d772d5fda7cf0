-- The lines of a source, and its directives.
use Rattle.std.specs.{Prelude.{ℕ, ◌+◌, Bool, true, false, ◌&&◌, ◌==◌, if◌then◌else◌, List, [], ◌∷◌, take, drop, length, Option, Some, None, codes}, Borrow.Bor, Option.unwrap_or}
use Rattle.{war_types.specs.Title.{is_blank, after_blanks}, redcode_text.specs.Vocabulary.is_word, redcode_lines.specs.declared.source.Directive.Directive}

-- a line with its number in the source, counted from 1
pub record NumberedLine : Type 0 where
  pub number : ℕ
  pub text : List ℕ

-- a byte before the first of these lines
abbrev pub onto_first : ℕ → List (List ℕ) → List (List ℕ)
onto_first b [] = (b ∷ []) ∷ []
onto_first b (line ∷ lines) = (b ∷ line) ∷ lines

-- the lines, each without the line feed that ends it; a rest without one is the last line
abbrev pub lines_of : List ℕ → List (List ℕ)
lines_of [] = []
lines_of (b ∷ bs) = if b == 10 then [] ∷ lines_of bs else onto_first b (lines_of bs)

abbrev pub numbered_from : ℕ → List (List ℕ) → List NumberedLine
numbered_from n [] = []
numbered_from n (line ∷ lines) = record { number = n; text = line } ∷ numbered_from (n + 1) lines

abbrev pub is_blank_or_end : List ℕ → Bool
is_blank_or_end [] = true
is_blank_or_end (b ∷ bs) = is_blank b

-- the text begins with the word
abbrev pub begins : List ℕ → List ℕ → Bool
begins word text = is_word word (take (length word) text)

-- the text begins with the word, and a blank or nothing is after it
abbrev pub begins_alone : List ℕ → List ℕ → Bool
begins_alone word text = begins word text && is_blank_or_end (drop (length word) text)

-- what stands after a semicolon: redcode, whatever follows, or name, author or assert with a text
abbrev pub remark_of : List ℕ → Directive × List ℕ
remark_of text =
    if begins (codes "redcode") text then (Directive.Redcode, []) else (
    if begins_alone (codes "name") text then (Directive.Name, drop 4 text) else (
    if begins_alone (codes "author") text then (Directive.Author, drop 6 text) else (
    if begins_alone (codes "assert") text then (Directive.Assert, drop 6 text) else (Directive.Remark, []))))

-- a line from its first byte that is no blank
abbrev pub directive_from : List ℕ → Option (Directive × List ℕ)
directive_from [] = None
directive_from (b ∷ bs) = if b == 59 then Some (remark_of bs) else None

-- the directive of a line that begins with a semicolon, and the text after its word
abbrev pub directive_of : List ℕ → Option (Directive × List ℕ)
directive_of line = directive_from (after_blanks line)

-- a directive with its text, without that text's place in memory
abbrev pub seen : Directive × Bor (List ℕ) → Directive × List ℕ
seen found = (found.0, found.1.now)

abbrev pub is_redcode : Option (Directive × List ℕ) → Bool
is_redcode (Some (Directive.Redcode, text)) = true
is_redcode _ = false

-- from the first ;redcode line on
abbrev pub redcode_on : List NumberedLine → Option (List NumberedLine)
redcode_on [] = None
redcode_on (line ∷ lines) = if is_redcode (directive_of line.text) then Some (line ∷ lines) else redcode_on lines

-- the lines that count: if there is a ;redcode line, all before the first one is ignored
abbrev pub live_lines : List ℕ → List NumberedLine
live_lines source = unwrap_or (redcode_on (numbered_from 1 (lines_of source))) (numbered_from 1 (lines_of source))
