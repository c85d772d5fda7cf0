-- Which line defines a name in what is written out.
use Rattle.std.specs.Prelude.{◌≡◌, ℕ, zero, suc, ◌-◌, Bool, true, false, ◌==◌, if◌then◌else◌, List, [], ◌∷◌, ◌++◌, take, drop, is_some, Option, Some, None, Result, Ok, codes, ⊤}
use Rattle.{war_types.specs.declared.settings.RawSettings.RawSettings, redcode_text.specs.declared.vocabulary.Word.Word, redcode_lines.specs.Place.line_text}
use Rattle.{redcode_expand.specs.Expansion.{Expansion, address_of, expansion}, redcode_scene.specs.declared.definers.Definer.Definer}

-- how many bytes there are up to the line feed of this number, counted from 1, and with it: all of a text that has fewer
abbrev pub bytes_through : ℕ → List ℕ → ℕ
bytes_through feeds [] = 0
bytes_through zero (b ∷ bs) = 0
bytes_through (suc feeds) (b ∷ bs) = suc (if b == 10 then bytes_through feeds bs else bytes_through (suc feeds) bs)

abbrev pub with_first : List ℕ → List ℕ → List ℕ
with_first text rest = text ++ 10 ∷ drop (bytes_through 1 rest) rest

abbrev pub with_line_at : ℕ → List ℕ → List ℕ → List ℕ
with_line_at from text source = take from source ++ with_first text (drop from source)

-- the source with this text in place of its line of this number, counted from 1
abbrev pub with_line : List ℕ → ℕ → List ℕ → List ℕ
with_line source number text = with_line_at (bytes_through (number - 1) source) text source

abbrev pub opening : Option Word → List ℕ
opening (Some Word.Rof) = codes "ROF\n"
opening _ = []

abbrev pub ending : Option Word → List ℕ
ending (Some Word.For) = codes " FOR 0\nROF\nEND"
ending _ = codes " END"

-- a line with these labels at which a source ends: those of a FOR, but for its counter, of a ROF, or of any other line
abbrev pub ended_with : Option Word → List ℕ → List ℕ
ended_with word labels = opening word ++ (labels ++ ending word)

-- the source can be written out, and then the name is one of its labels, or is none
abbrev pub HasLabel : RawSettings → List ℕ → List ℕ → Bool → Type 0
HasLabel s source name is = (e : Expansion) × (expansion s source ≡ Ok e) × (is_some (address_of e.labels name) ≡ is)

-- if the source ends at this line, the name is no label; if it ends there behind what the line begins with, it is one
pub record DefinesIn (s : RawSettings) (source name : List ℕ) (number : ℕ) : Type 0 where
  pub word : Option Word
  pub bytes : ℕ
  pub before : HasLabel s (with_line source number (ended_with word [])) name false
  pub behind : HasLabel s (with_line source number (ended_with word (take bytes (line_text source number)))) name true

-- the line that is told as the one that defines a name defines it in what is written out
abbrev pub IsDefiner : RawSettings → List ℕ → List ℕ → Definer → Type 0
IsDefiner s source name (Definer.Line number) = DefinesIn s source name number
IsDefiner s source name _ = ⊤
