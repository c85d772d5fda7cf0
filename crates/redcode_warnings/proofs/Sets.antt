-- A name more in a set of names, for `add_name`.
use Rattle.std.proofs.{Common.{◌≡◌, ℕ, List, Bool, true, false, ◌||◌, if◌then◌else◌, arith, refl, sym, ◌∙◌}, lemmas.Map.Text.is_eq-slice_cmp}
use Rattle.std.specs.{Str.bytes_eq, Ordering.{is_eq, nat_cmp}, Cmp.Lexicographic.{slice_cmp, nat_list_eq_equiv}}

pub name-added : (name other : List ℕ) (before after : Bool) → after ≡ (if is_eq (slice_cmp nat_cmp name other) then true else before) → after ≡ (before || bytes_eq other name)
name-added name other before after is =
    let same : bytes_eq name other ≡ bytes_eq other name = nat_list_eq_equiv.symm name other in
    rw (is, is_eq-slice_cmp name other, same) (either (bytes_eq other name) before) where
      either : (is_same before : Bool) → (if is_same then true else before) ≡ (before || is_same)
      either true true = refl
      either true false = refl
      either false true = refl
      either false false = refl
