-- Texts with the same tags and attributes, and what stands for a text, which has none.
use Rattle.{std.proofs.Common.{◌≡◌, ℕ, Bool, true, false, not, cond, List, [], ◌∷◌, ◌++◌, refl, sym, ap, ap₂, ◌∙◌}, std.specs.List.list_all, std.proofs.lemmas.Bool.{and_parts, not-true}}
use Rattle.{std.proofs.lemmas.List.Elements.filter-append, koth_text.specs.{Characters.{is_harmless, is_markup, is_printable, markup_of}, Escape.escaped}, koth_text.proofs.Ascii.harmless}

abbrev pub Alike : List ℕ → List ℕ → Type 0
Alike a b = markup_of a ≡ markup_of b

pub both : (a b c d : List ℕ) → Alike a b → Alike c d → Alike (a ++ c) (b ++ d)
both a b c d first second = filter-append is_markup a c ∙ ap₂ (λ (x y : List ℕ). x ++ y) first second ∙ sym (filter-append is_markup b d)

markup_of-harmless : (text : List ℕ) → list_all is_harmless text ≡ true → markup_of text ≡ []
markup_of-harmless [] h = refl
markup_of-harmless (b ∷ text) h =
    let parts = and_parts (is_harmless b) (list_all is_harmless text) h in
    let none : is_markup b ≡ false = not-true (is_markup b) (and_parts (is_printable b) (not (is_markup b)) parts.0).1 in
    ap (λ t. cond t (b ∷ markup_of text) (markup_of text)) none ∙ markup_of-harmless text parts.1

pub markup_of-escaped : (text : List ℕ) → markup_of (escaped text) ≡ []
markup_of-escaped text = markup_of-harmless (escaped text) (harmless text)
