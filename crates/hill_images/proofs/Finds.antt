-- The headers that are found: the newest of a format, and whether there is one of either.
use Rattle.std.proofs.{Common.{◌≡◌, ◌≢◌, ℕ, inl, inr, ◌%◌, ◌<◌, ◌≤◌, Bool, true, false, ◌||◌, is_some, List, Option, Some, None, sym, ap, subst, ◌∙◌, arith}, lemmas.Bool.cases_eq}
use Rattle.{hill_bytes.specs.{declared.format.Format.Format, Layout.{Layout, HeaderParts, IsHeader, layout_of, new_layout, old_layout}}, hill_bytes.proofs.Codes.one_header}
use Rattle.{hill_images.specs.{Stands.IsNewestIn, Found.{HoldsIf, IsFoundIn, IsHeaderAt, IsNewestFound}, Opening.{HoldsHeader, HoldsOldIf, HoldsOneIf}}, hill_images.proofs.Newest.parity_low}

-- a header of the other parity is not the sector's, and no other is there
pub other_parity : (layout : Layout) (n : ℕ) (bytes : List ℕ) (h : HeaderParts) → h.generation % 2 ≢ n → IsHeader layout bytes h → IsFoundIn layout n bytes None
other_parity layout n bytes h other is g parity is_g = other (ap (λ (x : HeaderParts). x.generation % 2) (sym (one_header layout bytes g h is_g is)) ∙ parity)

-- each header is in the sector of its parity
pub by_parity : (layout : Layout) (image : ℕ → List ℕ) (P : HeaderParts → Type 0) → ((g : HeaderParts) → g.generation % 2 ≡ 0 → IsHeader layout (image 0) g → P g) → ((g : HeaderParts) → g.generation % 2 ≡ 1 → IsHeader layout (image 1) g → P g) → (g : HeaderParts) → IsHeader layout (image (g.generation % 2)) g → P g
by_parity layout image P at_even at_odd g is = elim (cases_eq (g.generation % 2) 0) [
  | inl even ↦ at_even g even (subst (λ n. IsHeader layout (image n) g) even is)
  | inr not_even ↦
      let low : g.generation % 2 < 2 = parity_low g.generation in
      let odd : g.generation % 2 ≡ 1 = omega arith in
      at_odd g odd (subst (λ n. IsHeader layout (image n) g) odd is)
]

found_at : (layout : Layout) (image : ℕ → List ℕ) (n : ℕ) (h : HeaderParts) → IsFoundIn layout n (image n) (Some h) → IsHeader layout (image (h.generation % 2)) h
found_at layout image n h is = subst (λ k. IsHeader layout (image k) h) (sym is.0) is.1

same_generation : (layout : Layout) (bytes : List ℕ) (g h : HeaderParts) → IsHeader layout bytes g → IsHeader layout bytes h → g.generation ≡ h.generation
same_generation layout bytes g h is_g is_h = ap (λ (x : HeaderParts). x.generation) (one_header layout bytes g h is_g is_h)

pub newest_even : (layout : Layout) (image : ℕ → List ℕ) (even odd : HeaderParts) → IsFoundIn layout 0 (image 0) (Some even) → IsFoundIn layout 1 (image 1) (Some odd) → odd.generation ≤ even.generation → IsNewestIn layout image even
newest_even layout image even odd is_even is_odd order = record {
  here = found_at layout image 0 even is_even;
  newest = by_parity layout image (λ g. g.generation ≤ even.generation)
      (λ g. λ parity. λ is. let same : g.generation ≡ even.generation = same_generation layout (image 0) g even is is_even.1 in omega arith)
      (λ g. λ parity. λ is. let same : g.generation ≡ odd.generation = same_generation layout (image 1) g odd is is_odd.1 in omega arith);
}

pub newest_odd : (layout : Layout) (image : ℕ → List ℕ) (even odd : HeaderParts) → IsFoundIn layout 0 (image 0) (Some even) → IsFoundIn layout 1 (image 1) (Some odd) → even.generation ≤ odd.generation → IsNewestIn layout image odd
newest_odd layout image even odd is_even is_odd order = record {
  here = found_at layout image 1 odd is_odd;
  newest = by_parity layout image (λ g. g.generation ≤ odd.generation)
      (λ g. λ parity. λ is. let same : g.generation ≡ even.generation = same_generation layout (image 0) g even is is_even.1 in omega arith)
      (λ g. λ parity. λ is. let same : g.generation ≡ odd.generation = same_generation layout (image 1) g odd is is_odd.1 in omega arith);
}

pub newest_even_alone : (layout : Layout) (image : ℕ → List ℕ) (even : HeaderParts) → IsFoundIn layout 0 (image 0) (Some even) → IsFoundIn layout 1 (image 1) None → IsNewestIn layout image even
newest_even_alone layout image even is_even none = record {
  here = found_at layout image 0 even is_even;
  newest = by_parity layout image (λ g. g.generation ≤ even.generation)
      (λ g. λ parity. λ is. let same : g.generation ≡ even.generation = same_generation layout (image 0) g even is is_even.1 in omega arith)
      (λ g. λ parity. λ is. absurd (none g parity is));
}

pub newest_odd_found : (layout : Layout) (image : ℕ → List ℕ) (odd : Option HeaderParts) → IsFoundIn layout 0 (image 0) None → IsFoundIn layout 1 (image 1) odd → IsNewestFound layout image odd
newest_odd_found layout image None no_even no_odd = by_parity layout image (λ g. ⊥) no_even no_odd
newest_odd_found layout image (Some odd) no_even is_odd = record {
  here = found_at layout image 1 odd is_odd;
  newest = by_parity layout image (λ g. g.generation ≤ odd.generation)
      (λ g. λ parity. λ is. absurd (no_even g parity is))
      (λ g. λ parity. λ is. let same : g.generation ≡ odd.generation = same_generation layout (image 1) g odd is is_odd.1 in omega arith);
}

-- ---- headers of either format

-- whether a sector holds one, by what was found in each format
pub holds_if : (n : ℕ) (bytes : List ℕ) (old new : Option HeaderParts) → IsFoundIn old_layout n bytes old → IsFoundIn new_layout n bytes new → HoldsIf n bytes (is_some old || is_some new)
holds_if n bytes (Some h) new is_old is_new = record { format = Format.Old; header = h; found = is_old }
holds_if n bytes None (Some h) is_old is_new = record { format = Format.New; header = h; found = is_new }
holds_if n bytes None None is_old is_new = λ format. none format
  where
    none : (format : Format) → IsFoundIn (layout_of format) n bytes None
    none Format.Old = is_old
    none Format.New = is_new

found_held : (image : ℕ → List ℕ) (n : ℕ) → IsHeaderAt n (image n) → HoldsHeader image
found_held image n at = record { format = at.format; header = at.header; here = found_at (layout_of at.format) image n at.header at.found }

-- whether a device holds one, by its two sectors
pub holds_one : (image : ℕ → List ℕ) (even odd : Bool) → HoldsIf 0 (image 0) even → HoldsIf 1 (image 1) odd → HoldsOneIf image (even || odd)
holds_one image true odd is_even is_odd = found_held image 0 is_even
holds_one image false true is_even is_odd = found_held image 1 is_odd
holds_one image false false is_even is_odd = λ format. by_parity (layout_of format) image (λ g. ⊥) (is_even format) (is_odd format)

-- whether a device holds one of the old format, by the newest that was found
pub holds_old : (image : ℕ → List ℕ) (found : Option HeaderParts) → IsNewestFound old_layout image found → HoldsOldIf image (is_some found)
holds_old image (Some h) is = (h, is.here)
holds_old image None is = is
