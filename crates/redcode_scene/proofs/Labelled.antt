-- What is shown of an expansion has its labels.
use Rattle.std.proofs.Common.{◌≡◌, ℕ, Bool, List, Option, Some, None, Result, Ok, Err, refl, ap, sym, ◌∙◌, is_some}
use Rattle.{war_types.specs.{declared.fault.AsmFault.AsmFault, declared.settings.RawSettings.RawSettings}}
use Rattle.{redcode_expand.specs.{Expansion.{Expansion, address_of, expansion}, Cut.{shown, with_shown}}, redcode_scene.specs.Definer.HasLabel}

by-shown : (s : RawSettings) (source name : List ℕ) (m : Result Expansion AsmFault) (e : Expansion) → expansion s source ≡ m → with_shown m ≡ Ok (shown e) → HasLabel s source name (is_some (address_of e.labels name))
by-shown s source name (Ok b) e is same =
    let labels : shown b ≡ shown e = cc in
    (b, is, ap (λ (x : Expansion). is_some (address_of x.labels name)) labels)
by-shown s source name (Err fault) e is same = absurd cc

pub has-label : (s : RawSettings) (source name : List ℕ) (e : Expansion) → with_shown (expansion s source) ≡ Ok (shown e) → HasLabel s source name (is_some (address_of e.labels name))
has-label s source name e same = by-shown s source name (expansion s source) e refl same

-- the same of what is found of the labels
pub has-label-by : (s : RawSettings) (source name : List ℕ) (e : Expansion) (found : Option ℕ) (is : Bool) → with_shown (expansion s source) ≡ Ok (shown e)
    → found ≡ address_of e.labels name → is ≡ is_some found → HasLabel s source name is
has-label-by s source name e found is same by known = rw (known, by) (has-label s source name e same)
