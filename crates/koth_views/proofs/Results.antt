-- The result of an entry, in the loop that looks for it: for `fallen`.
use Rattle.std.{proofs.Common.{◌≡◌, ◌≢◌, ℕ, ◌+◌, ◌<◌, true, false, List, length, drop, get_or, sym, ap, ◌∙◌}, specs.Prelude.{◌==◌, if◌then◌else◌}}
use Rattle.std.proofs.lemmas.{Bool.{eq-eqb, ne_eqb}, List.{at_drop_more, drop-drop}}
use Rattle.{koth_match.specs.declared.bout.Bout.Bout, koth_views.specs.Fallen.{bout_of, first_bout}}

module _ (es : List ℕ) (bs : List Bout) (i entry e : ℕ) (within : i < length es) (is : e ≡ get_or es i 0) where
  -- what the entry at this place decides
  decided : bout_of (drop i es) (drop i bs) entry ≡ (if e == entry then first_bout (drop i bs) else bout_of (drop (i + 1) es) (drop 1 (drop i bs)) entry)
  decided = at_drop_more (λ xs. bout_of xs (drop i bs) entry) es i 0 within
      ∙ ap (λ x. if x == entry then first_bout (drop i bs) else bout_of (drop (i + 1) es) (drop 1 (drop i bs)) entry) (sym is)

  pub at_entry : e ≡ entry → bout_of (drop i es) (drop i bs) entry ≡ first_bout (drop i bs)
  at_entry same = decided ∙ ap (λ c. if c then first_bout (drop i bs) else bout_of (drop (i + 1) es) (drop 1 (drop i bs)) entry) (eq-eqb e entry same)

  pub past_entry : e ≢ entry → bout_of (drop i es) (drop i bs) entry ≡ bout_of (drop (i + 1) es) (drop (i + 1) bs) entry
  past_entry other = decided
      ∙ ap (λ c. if c then first_bout (drop i bs) else bout_of (drop (i + 1) es) (drop 1 (drop i bs)) entry) (ne_eqb e entry other)
      ∙ ap (λ l. bout_of (drop (i + 1) es) l entry) (drop-drop 1 i bs)
