-- Faults of which no two are of one line.
use Rattle.std.specs.List.{IsDistinct, list_any}
use Rattle.std.proofs.Common.{◌≡◌, ◌∙◌, ℕ, ◌<◌, Bool, true, false, ◌||◌, nat_eq, nat_le, if◌then◌else◌, List, [], ◌∷◌, ◌++◌, length, map, Option, Some, None, Result, Ok, Err, refl, arith, inl, inr}
use Rattle.std.proofs.lemmas.{Bool.cases_Bool, Cmp.nat_eq_equiv, List.{length_push, map-append}, Map.Keys.IsDistinct-push}
use Rattle.war_types.specs.{declared.fault.AsmKind.AsmKind, declared.fault.AsmFault.AsmFault, declared.settings.RawSettings.RawSettings}
use Rattle.redcode_expand.specs.Expansion.{Expansion, ExpandedLine, expansion}
use Rattle.redcode_scene.specs.Faults.{fault_of, faults_from, faults_in, faults_of, is_told, with_fault}
use Rattle.redcode_diagnosis.specs.Told.{AreOnePerLine}

told-lines : (faults : List AsmFault) (line : ℕ) → list_any (nat_eq line) (map (λ fault. fault.line) faults) ≡ is_told faults line
told-lines [] line = refl
told-lines (fault ∷ faults) line = rw (nat_eq_equiv.symm line fault.line, told-lines faults line) refl

-- one fault more, of a line that is not told
pub once-pushed : (faults : List AsmFault) (fault : AsmFault) → length faults < 100 → is_told faults fault.line ≡ false → AreOnePerLine faults
    → AreOnePerLine (faults ++ fault ∷ [])
once-pushed faults fault few new are = (
  omega (arith, length_push faults fault),
  rw (map-append (λ f. f.line) faults (fault ∷ []))
      (IsDistinct-push nat_eq_equiv (map (λ f. f.line) faults) fault.line are.1 (told-lines faults fault.line ∙ new)),
)

once-with : (faults : List AsmFault) (line : ℕ) (fault : Option AsmKind) → AreOnePerLine faults → AreOnePerLine (with_fault faults line fault)
once-with faults line None are = are
once-with faults line (Some kind) are = elim (cases_Bool (nat_le 100 (length faults) || is_told faults line)) [
  | inl kept ↦ rw kept are
  | inr more ↦ rw more (once-pushed faults (record { line = line; kind = kind }) (grind (arith, more)) (grind (arith, more)) are)
]

once-from : (s : RawSettings) (e : Expansion) (lines : List ExpandedLine) (faults : List AsmFault) → AreOnePerLine faults
    → AreOnePerLine (faults_from s e.labels faults lines)
once-from s e [] faults are = are
once-from s e (line ∷ lines) faults are =
    let said = fault_of s e.labels line in
    once-from s e lines (with_fault faults line.source_line said) (once-with faults line.source_line said are)

one-once : (first : AsmFault) → AreOnePerLine (first ∷ [])
unfolding IsDistinct
one-once first = (omega arith, (tt, tt))

once-in : (s : RawSettings) (first : AsmFault) (m : Result Expansion AsmFault) → AreOnePerLine (faults_in s first m)
once-in s first (Ok e) = once-from s e e.lines (first ∷ []) (one-once first)
once-in s first (Err fault) = one-once first

-- the faults that are told of a source
pub once-of : (s : RawSettings) (source : List ℕ) (first : AsmFault) → AreOnePerLine (faults_of s source first)
once-of s source first = once-in s first (expansion s source)
