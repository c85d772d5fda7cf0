-- What a flag's text is read as.
use Rattle.{std.proofs.Common.{◌≡◌, ℕ, Bool, true, false, List, Option, None, Some, Result, Ok, Err, refl, codes}, std.specs.{Prelude.unwrap_or, Str.bytes_eq, Str.Parse.ParsesBool}}
use Rattle.{std.proofs.lemmas.Slice.Eq.bytes_eq-Decides, clap.specs.{Matches.ReadsOne, Walk.Text}, koth_words.specs.Words.is_true}

no_text : (text : Text) (b : Bool) → bytes_eq text (codes "true") ≡ b → (text ≡ codes "true" → ⊥) → false ≡ b
no_text text false is differs = refl
no_text text true is differs = absurd (differs ((bytes_eq-Decides text (codes "true")).0 is))

module _ {E : Type 0} (G : List ℕ → Result Bool E → Type 0) (only : (u : List ℕ) (x : Result Bool E) → G u x → ParsesBool u x) where
  read : (text : Text) (r : Option Bool) → ReadsOne G text r → unwrap_or r false ≡ bytes_eq text (codes "true")
  read text (Some true) h = rw (only text (Ok true) h) refl
  read text (Some false) h = rw (only text (Ok false) h) refl
  read text None h =
      let neither = only text (Err h.0) h.1 in
      no_text text _ refl neither.0

  -- the flag is given if its text is `true`
  pub reads_flag : (text : Option Text) (r : Option Bool) → (text ≡ None → r ≡ None) → ((t : List ℕ) → text ≡ Some t → ReadsOne G t r)
      → unwrap_or r false ≡ is_true text
  reads_flag None r none value = rw (none refl) refl
  reads_flag (Some text) r none value = read text r (value text refl)
