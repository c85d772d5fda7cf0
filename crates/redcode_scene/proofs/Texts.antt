-- Texts of UTF-8, and the names of lines.
use Rattle.std.proofs.{Common.{◌≡◌, ◌∙◌, ℕ, Bool, true, false, Option, List, [], ◌∷◌, ◌++◌, inl, inr, map, ap, sym, append_assoc, append-nil}, lemmas.{Bool.cases_Bool, List.map-append, Str.{IsUtf8-from_is_utf8, is_utf8-from_IsUtf8}}}
use Rattle.std.specs.{Borrow.Bor, Str.{IsUtf8, is_utf8}}
use Rattle.{redcode_lines.specs.Line.SourceLine, redcode_expand.specs.Expansion.Expansion}
use Rattle.redcode_scene.specs.{Nearest.{known_names, names_in, names_on, predefined_names}, Search.with_names}

pub is_text : (bs : List ℕ) → IsUtf8 bs → is_utf8 bs ≡ true
is_text bs u = is_utf8-from_IsUtf8 bs u

pub is_no_text : (bs : List ℕ) → ¬ (IsUtf8 bs) → is_utf8 bs ≡ false
is_no_text bs isnt = elim (cases_Bool (is_utf8 bs)) [
  | inl is ↦ absurd (isnt (IsUtf8-from_is_utf8 bs is))
  | inr is ↦ is
]

abbrev pub text-of : Bor (List ℕ) → List ℕ
text-of name = name.now

with-names : (expanded : Option Expansion) (names : List (List ℕ)) (lines : List SourceLine) → with_names expanded names lines ≡ names ++ names_in expanded lines
with-names expanded names [] = sym (append-nil names)
with-names expanded names (line ∷ lines) =
    with-names expanded (names ++ names_on expanded line) lines ∙ append_assoc names (names_on expanded line) (names_in expanded lines)

-- the predefined names after others
pub more_of : (old more new : List (Bor (List ℕ))) → new ≡ old ++ more → map text-of more ≡ predefined_names → map text-of new ≡ map text-of old ++ predefined_names
more_of old more new is due = ap (map text-of) is ∙ map-append text-of old more ∙ ap (λ xs. map text-of old ++ xs) due

-- the names of the lines, and then the predefined ones
pub names-of : (expanded : Option Expansion) (first added all : List (Bor (List ℕ))) (lines : List SourceLine) → map text-of all ≡ map text-of added ++ predefined_names
    → map text-of added ≡ with_names expanded (map text-of first) lines → first ≡ [] → map text-of all ≡ known_names expanded lines
names-of expanded first added all lines grown is none =
    grown ∙ ap (λ xs. xs ++ predefined_names) (is ∙ ap (λ xs. with_names expanded (map text-of xs) lines) none ∙ with-names expanded [] lines)
