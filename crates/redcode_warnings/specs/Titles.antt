-- Names, authors and assertions.
use Rattle.std.specs.{Prelude.{ℕ, Bool, true, false, not, ◌&&◌, ◌||◌, ◌==◌, if◌then◌else◌, List, [], ◌∷◌, length, codes}, Str.bytes_eq}
use Rattle.{war_types.specs.Title.{after_blanks, before_blanks, title_of}, redcode_lines.specs.{declared.reading.LineForm.LineForm, Line.SourceLine}}

-- the text without the blanks at both ends
abbrev pub inner : List ℕ → List ℕ
inner text = before_blanks (after_blanks text)

abbrev pub is_blank_text : List ℕ → Bool
is_blank_text text = length (inner text) == 0

-- a text that is no blank, and whose title differs from it
abbrev pub is_changed : List ℕ → Bool
is_changed text = not (is_blank_text text) && not (bytes_eq (title_of text (codes "Unnamed")) (inner text))

abbrev pub is_name : LineForm → Bool
is_name LineForm.Name = true
is_name _ = false

abbrev pub is_author : LineForm → Bool
is_author LineForm.Author = true
is_author _ = false

abbrev pub is_assert : LineForm → Bool
is_assert LineForm.Assert = true
is_assert _ = false

-- the text of the last line of such a form, and this one if there is none
abbrev pub last_text : (LineForm → Bool) → List ℕ → List SourceLine → List ℕ
last_text is_form text [] = text
last_text is_form text (line ∷ lines) = last_text is_form (if is_form line.form then line.title else text) lines

-- a line of such a form
abbrev pub has_form : (LineForm → Bool) → List SourceLine → Bool
has_form is_form [] = false
has_form is_form (line ∷ lines) = is_form line.form || has_form is_form lines
