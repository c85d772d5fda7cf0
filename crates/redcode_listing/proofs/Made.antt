-- A text with what is noted of the lines that were found is the listing: for `listing_in`.
use Rattle.std.proofs.Common.{◌≡◌, ℕ, List, Result, Ok, Err, All, IfOk, subst}
use Rattle.{war_types.specs.{Warrior.WarriorParts, declared.settings.RawSettings.RawSettings}, redcode_lines.specs.declared.line.Line.Line}
use Rattle.redcode_expand.specs.{Cut.{shown, with_shown}, Expansion.{Expansion, expansion}}
use Rattle.redcode_listing.specs.{Lines.instruction_lines, Listing.{IsLabelOf, IsListing, note_at, text_with}, declared.labels.Label.Label}

module _ {T E : Type 0} (items : T → List ℕ) (s : RawSettings) (source : List ℕ) (found : Expansion) (w : WarriorParts) (labels : List Label) where
  pub made : (result : Result T E) (lines : List Line) (core : ℕ) → with_shown (expansion s source) ≡ Ok (shown found)
      → All (IsLabelOf found.labels) labels → lines ≡ instruction_lines found.lines → core ≡ s.core
      → IfOk result (λ t. items t ≡ text_with (note_at lines labels) core w) → IfOk result (λ t. IsListing s source w (items t))
  made (Ok t) lines core expanded addresses lines_are core_is is = record {
    found = found;
    expanded = expanded;
    labels = labels;
    addresses = addresses;
    listing =
        subst (λ c. items t ≡ text_with (note_at (instruction_lines found.lines) labels) c w) core_is
        (subst (λ l. items t ≡ text_with (note_at l labels) core w) lines_are is);
  }
  made (Err e) lines core expanded addresses lines_are core_is is = is
