-- The names of files, as texts.
use Rattle.{std.proofs.Common.{◌≡◌, List, [], ◌∷◌, map, is_some, Option, None, Some, Bor, ◌∙◌, ap, option_map, refl}, std.specs.Prelude.unwrap_or, clap.specs.Walk.Text, koth_words.specs.Sources.place_at}

-- the text of a file's name, or of another argument, if one is given
pub file_text : {default : Text} (r : Option (Bor Text)) (empty x : Bor Text) (text : Option Text) → x ≡ unwrap_or r empty → empty.now ≡ default
    → option_map (λ s. s.now) r ≡ text → x.now ≡ unwrap_or text default
file_text {default} None empty x text is none named = ap (λ (b : Bor Text). b.now) is ∙ none ∙ ap (λ (t : Option Text). unwrap_or t default) named
file_text {default} (Some s) empty x text is none named = ap (λ (b : Bor Text). b.now) is ∙ ap (λ (t : Option Text). unwrap_or t default) named

-- the texts of files' names
pub file_texts : (r : Option (Bor (List (Bor Text)))) (empty x : Bor (List (Bor Text))) (texts : Option (List Text)) → x ≡ unwrap_or r empty → empty.now ≡ []
    → option_map (λ s. map (λ v. v.now) s.now) r ≡ texts → map (λ v. v.now) x.now ≡ unwrap_or texts []
file_texts None empty x texts is none named =
    ap (λ (b : Bor (List (Bor Text))). map (λ v. v.now) b.now) is ∙ ap (map (λ (v : Bor Text). v.now)) none ∙ ap (λ (t : Option (List Text)). unwrap_or t []) named
file_texts (Some s) empty x texts is none named =
    ap (λ (b : Bor (List (Bor Text))). map (λ v. v.now) b.now) is ∙ ap (λ (t : Option (List Text)). unwrap_or t []) named

-- a text is given if there is one
pub same_given : (r : Option (Bor Text)) (text : Option Text) → option_map (λ s. s.now) r ≡ text → is_some r ≡ is_some text
same_given None text named = ap (λ (t : Option Text). is_some t) named
same_given (Some s) text named = ap (λ (t : Option Text). is_some t) named

-- the places at words
pub placed : (called : Text) (words : List (Bor Text)) → map (λ word. place_at called word.now) words ≡ map (place_at called) (map (λ word. word.now) words)
placed called [] = refl
placed called (word ∷ words) = ap (λ places. place_at called word.now ∷ places) (placed called words)
