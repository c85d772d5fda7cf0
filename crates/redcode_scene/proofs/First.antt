-- The faults that are told begin with the first.
use Rattle.std.proofs.Common.{◌≡◌, ℕ, Bool, true, false, ◌||◌, nat_le, if◌then◌else◌, List, [], ◌∷◌, ◌++◌, length, Option, Some, None, Result, Ok, Err, refl}
use Rattle.war_types.specs.{declared.fault.AsmFault.AsmFault, declared.fault.AsmKind.AsmKind, declared.settings.RawSettings.RawSettings}
use Rattle.{redcode_names.specs.{Gives.fault_at, Name.LabelList}, redcode_expand.specs.Expansion.{Expansion, ExpandedLine, expansion}}
use Rattle.redcode_scene.specs.Faults.{fault_of, faults_from, faults_in, faults_of, is_told, with_fault}

abbrev Begins : AsmFault → List AsmFault → Type 0
Begins first faults = (others : List AsmFault) × (faults ≡ first ∷ others)

-- one fault more, or the same ones
either : (first one : AsmFault) (more : List AsmFault) (b : Bool) → Begins first (if b then first ∷ more else first ∷ (more ++ one ∷ []))
either first one more true = (more, refl)
either first one more false = (more ++ one ∷ [], refl)

one-more : (first : AsmFault) (more : List AsmFault) (line : ℕ) (fault : Option AsmKind) → Begins first (with_fault (first ∷ more) line fault)
one-more first more line None = (more, refl)
one-more first more line (Some kind) = either first (fault_at line kind) more (nat_le 100 (length (first ∷ more)) || is_told (first ∷ more) line)

first-from : (s : RawSettings) (labels : LabelList) (first : AsmFault) (lines : List ExpandedLine) (faults : List AsmFault) → Begins first faults → Begins first (faults_from s labels faults lines)
first-from s labels first [] faults is = is
first-from s labels first (line ∷ lines) faults is =
    rw is.1 (first-from s labels first lines (with_fault (first ∷ is.0) line.source_line (fault_of s labels line)) (one-more first is.0 line.source_line (fault_of s labels line)))

first-in : (s : RawSettings) (first : AsmFault) (m : Result Expansion AsmFault) → Begins first (faults_in s first m)
first-in s first (Ok e) = first-from s e.labels first e.lines (first ∷ []) ([], refl)
first-in s first (Err fault) = ([], refl)

pub first-of : (s : RawSettings) (source : List ℕ) (first : AsmFault) → (others : List AsmFault) × (faults_of s source first ≡ first ∷ others)
first-of s source first = first-in s first (expansion s source)
