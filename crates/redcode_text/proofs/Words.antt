-- For `word_of`: a text of another length than three is no reserved word.
use Rattle.std.proofs.{Common.{◌≡◌, ℕ, false, List, [], ◌∷◌, length, map, None, refl, sym, ap, ◌∙◌}, lemmas.Bool.false_from_ne_true, lemmas.List.length-map}
use Rattle.{std.specs.{Cmp.Lexicographic.bytes_decides, Char.to_ascii_lowercase, List.AllByRecursion}, redcode_text.specs.Vocabulary.{is_word, named, reserved_words, word_of}}

-- an entry whose word has n letters
abbrev Has : {X : Type 0} → ℕ → List ℕ × X → Type 0
Has n entry = length entry.0 ≡ n

other-word : (word text : List ℕ) → (length text ≡ length word → ⊥) → is_word word text ≡ false
other-word word text other =
    false_from_ne_true (is_word word text) (λ is.
    other (sym (length-map text to_ascii_lowercase)
    ∙ ap length ((bytes_decides (map to_ascii_lowercase text) (map to_ascii_lowercase word)).0 is)
    ∙ length-map word to_ascii_lowercase))

none-named : {X : Type 0} (n : ℕ) (es : List (List ℕ × X)) (text : List ℕ) → AllByRecursion (Has n) es → (length text ≡ n → ⊥) → named es text ≡ None
none-named n [] text all other = refl
none-named n (e ∷ es) text all other = rw (other-word e.0 text (λ same. other (same ∙ all.0))) (none-named n es text all.1 other)

pub no_word : (text : List ℕ) → (length text ≡ 3 → ⊥) → word_of text ≡ None
no_word text other = none-named 3 reserved_words text (refl, (refl, (refl, (refl, (refl, (refl, (refl, (refl, (refl, (refl, (refl, (refl, (refl, (refl, (refl, (refl, (refl, (refl, (refl, (refl, (refl, (refl, (refl, (refl, (refl, tt))))))))))))))))))))))))) other
