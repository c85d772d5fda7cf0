-- The faults of a source that are told: the first, and those of its other lines, each line judged by itself.
use Rattle.std.specs.{Prelude.{◌≡◌, ℕ, Bool, ◌||◌, ◌==◌, nat_le, if◌then◌else◌, List, [], ◌∷◌, ◌++◌, length, IsErr, Option, Some, None, Result, Ok, Err}, List.list_any}
use Rattle.war_types.specs.{declared.fault.AsmFault.AsmFault, declared.fault.AsmKind.AsmKind, declared.settings.RawSettings.RawSettings}
use Rattle.{redcode_text.specs.Operators.is_zero, redcode_statement.specs.declared.statement.Statement.Statement, redcode_names.specs.{Gives.fault_at, Name.LabelList}}
use Rattle.{redcode_expand.specs.{Cut.{shown, with_shown}, Expansion.{Expansion, ExpandedLine, expansion}}, redcode_asm.specs.Said.statement_of}

-- the fault of what a line says: its own, or that it is a false assertion
abbrev pub fault_said : Result Statement AsmKind → Option AsmKind
fault_said (Err kind) = Some kind
fault_said (Ok (Statement.Assert z)) = if is_zero z then Some AsmKind.AssertFalse else None
fault_said (Ok _) = None

abbrev pub fault_of : RawSettings → LabelList → ExpandedLine → Option AsmKind
fault_of s labels line = fault_said (statement_of s labels line)

-- a fault of this line is among the faults
abbrev pub is_told : List AsmFault → ℕ → Bool
is_told faults line = list_any (λ fault. fault.line == line) faults

-- these faults, and that of a line: each line of the source is told once, and no more than 100 are
abbrev pub with_fault : List AsmFault → ℕ → Option AsmKind → List AsmFault
with_fault faults line None = faults
with_fault faults line (Some kind) = if nat_le 100 (length faults) || is_told faults line then faults else faults ++ fault_at line kind ∷ []

-- these faults, and those of lines in the order in which they are written out
abbrev pub faults_from : RawSettings → LabelList → List AsmFault → List ExpandedLine → List AsmFault
faults_from s labels faults [] = faults
faults_from s labels faults (line ∷ lines) = faults_from s labels (with_fault faults line.source_line (fault_of s labels line)) lines

-- the first fault, and those of the other lines if the source can be written out
abbrev pub faults_in : RawSettings → AsmFault → Result Expansion AsmFault → List AsmFault
faults_in s first (Ok expanded) = faults_from s expanded.labels (first ∷ []) expanded.lines
faults_in s first (Err fault) = first ∷ []

abbrev pub faults_of : RawSettings → List ℕ → AsmFault → List AsmFault
faults_of s source first = faults_in s first (expansion s source)

-- ---- what a scene knows, which is no part of the definition

-- of what is known is shown what is due, or nothing is due
abbrev pub Knows : Option Expansion → Result Expansion AsmFault → Type 0
Knows (Some expanded) due = due ≡ Ok (shown expanded)
Knows None due = IsErr due

abbrev pub KnowsOf : RawSettings → List ℕ → Option Expansion → Type 0
KnowsOf s source expanded = Knows expanded (with_shown (expansion s source))

-- the faults that are told of what is known
abbrev pub faults_known : RawSettings → AsmFault → Option Expansion → List AsmFault
faults_known s first (Some expanded) = faults_from s expanded.labels (first ∷ []) expanded.lines
faults_known s first None = first ∷ []
