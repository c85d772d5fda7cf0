-- Headers of the new format, by what two sectors hold: for `holds_new_hill` and `is_new_header`.
use Rattle.std.proofs.Common.{◌≡◌, ℕ, Bool, true, false, ◌||◌, List, Option, None, Some, is_some, subst, sym}
use Rattle.{hill_bytes.specs.Layout.{HeaderParts, IsHeader, new_layout}, hill_images.{specs.Found.IsFoundIn, proofs.Finds.by_parity}}
use Rattle.koth_files.specs.Moving.{HoldsNewIf, IsNewIf}

-- whether a sector holds one, by what was found
pub found_new : (n : ℕ) (bytes : List ℕ) (found : Option HeaderParts) → IsFoundIn new_layout n bytes found → IsNewIf n bytes (is_some found)
found_new n bytes (Some h) is = (h, is)
found_new n bytes None is = is

pub holds_new : (image : ℕ → List ℕ) (even odd : Bool) → IsNewIf 0 (image 0) even → IsNewIf 1 (image 1) odd → HoldsNewIf image (even || odd)
holds_new image true odd (h, found) is_odd = (h, subst (λ n. IsHeader new_layout (image n) h) (sym found.0) found.1)
holds_new image false true is_even (h, found) = (h, subst (λ n. IsHeader new_layout (image n) h) (sym found.0) found.1)
holds_new image false false is_even is_odd = by_parity new_layout image (λ g. ⊥) is_even is_odd
