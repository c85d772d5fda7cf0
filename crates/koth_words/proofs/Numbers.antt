-- What an option's text is read as.
use Rattle.std.proofs.Common.{◌≡◌, ◌&&◌, ℕ, Bool, true, false, true≢false, List, [], ◌∷◌, length, Option, None, Some, Result, Ok, Err, refl, sym, ap, subst, ◌<◌, ◌^◌, nat_lt, lt-ltb}
use Rattle.{std.proofs.Common.ltb-true, std.specs.{Char.digit_value, List.list_all, Str.Parse.{AllDigits, ParsesUnsigned, digits_value, without_leading_plus}}}
use Rattle.{clap.specs.{Matches.ReadsOne, Walk.Text}, koth_words.specs.Options.{is_number, number_given, number_in}}

digits_pass : (ds : List ℕ) → AllDigits 10 ds → list_all (λ d. nat_lt (digit_value d) 10) ds ≡ true
digits_pass [] h = refl
digits_pass (d ∷ ds) h = rw (lt-ltb (digit_value d) 10 h.0) (digits_pass ds h.1)

-- both of two tests pass
pub both : (a b : Bool) → (a && b) ≡ true → (a ≡ true) × (b ≡ true)
both true b e = (refl, e)
both false b e = absurd (true≢false (sym e))

digits_from : (ds : List ℕ) → list_all (λ d. nat_lt (digit_value d) 10) ds ≡ true → AllDigits 10 ds
digits_from [] e = tt
digits_from (d ∷ ds) e =
    let parts = both _ _ e in
    (ltb-true _ _ parts.0, digits_from ds parts.1)

module _ {E : Type 0} (bits limit : ℕ) (is_limit : 2 ^ bits ≡ limit) (G : List ℕ → Result ℕ E → Type 0) (only : (u : List ℕ) (x : Result ℕ E) → G u x → ParsesUnsigned bits 10 u x) where
  not_read : (text : Text) (e : E) (b : Bool) → is_number limit (without_leading_plus text) ≡ b → G text (Err e) → None ≡ number_in limit text
  not_read text e false is h = rw is refl
  not_read text e true is h =
      let outer = both _ _ is in
      let inner = both _ _ outer.0 in
      absurd (only text (Err e) h ((ltb-true _ _ inner.0, digits_from (without_leading_plus text) inner.1), subst (λ n. digits_value 10 (without_leading_plus text) < n) (sym is_limit) (ltb-true _ _ outer.1)))

  read : (text : Text) (r : Option ℕ) → ReadsOne G text r → r ≡ number_in limit text
  read text (Some n) h =
      let ds = without_leading_plus text in
      let parsed = only text (Ok n) h in
      rw (lt-ltb 0 (length ds) parsed.0.0.0, digits_pass ds parsed.0.0.1, lt-ltb (digits_value 10 ds) limit (subst (λ n. digits_value 10 ds < n) is_limit parsed.0.1)) (ap Some parsed.1)
  read text None h = not_read text h.0 _ refl h.1

  -- the number that an option's text is read as, if the option is given
  pub reads_number : (text : Option Text) (r : Option ℕ) → (text ≡ None → r ≡ None) → ((t : List ℕ) → text ≡ Some t → ReadsOne G t r)
      → r ≡ number_given limit text
  reads_number None r none value = none refl
  reads_number (Some text) r none value = read text r (value text refl)
