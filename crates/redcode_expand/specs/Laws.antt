-- What holds of every walk and of every expansion: a block is its body written out, and addresses count instructions.
use Rattle.std.specs.Prelude.{◌≡◌, ◌<◌, ◌≤◌, ℕ, ◌+◌, zero, suc, List, [], ◌∷◌, length, take, Some, Ok, IfOk}
use Rattle.{war_types.specs.declared.settings.RawSettings.RawSettings, redcode_lines.specs.{declared.line.LineKind.LineKind, Line.{SourceLine, labels_of}}}
use Rattle.{redcode_lines.specs.Block.{Blocks, finish, one_line, block, open_for}, redcode_copies.specs.Counter.{Counter, counter_of, in_copy}}
use Rattle.{redcode_names.specs.{Gives.◌>>=◌, Name.{LabelList, address_of, all_defined}}, redcode_expand.specs.{Walk.{ExpandedLine, WalkState, begun_of, copies, labelled, until_end, walk, walk_begin}, Expansion.Expansion}}
use Rattle.redcode_lines.specs.declared.line.LineKind.TheVariants as lines

-- ---- blocks

-- what is left of a source, with each line as it reads in a copy
abbrev pub written_out : Counter → Blocks → Blocks
written_out c finish = finish
written_out c (one_line line rest) = one_line (in_copy c line) (written_out c rest)
written_out c (block for body rof rest) = block (in_copy c for) (written_out c body) (in_copy c rof) (written_out c rest)
written_out c (open_for for) = open_for (in_copy c for)

-- a block is its body written out copy by copy, in each the tokens of its counter replaced, and the copies walked over one after another
abbrev pub BlocksAreWrittenOut : RawSettings → Type 0
BlocksAreWrittenOut s =
    (for : SourceLine) (body : Blocks) (rof : SourceLine) (rest : Blocks) (st : WalkState) → walk s [] (block for body rof rest) st
    ≡ until_end (λ st. begun_of s for st >>= λ b. copies (λ number. walk s [] (written_out (counter_of b.counter number) body)) for.number b.copies 1 b.state) st
    >>= until_end (labelled s rof.number (labels_of rof)) >>= walk s [] rest

-- ---- addresses

abbrev pub instruction_of : LineKind → ℕ
instruction_of lines.Operation = 1
instruction_of _ = 0

-- how many of these lines are instructions
abbrev pub instructions : List ExpandedLine → ℕ
instructions [] = 0
instructions (line ∷ lines) = instruction_of line.kind + instructions lines

-- how many instructions stand before the line at this place, as it says
abbrev pub before_at : List ExpandedLine → ℕ → ℕ
before_at [] i = 0
before_at (line ∷ others) zero = line.before
before_at (line ∷ others) (suc i) = before_at others i

-- address is the number of instructions among the first lines, up to some line
pub record IsPlace (lines : List ExpandedLine) (address : ℕ) : Type 0 where
  pub behind : ℕ
  pub within : behind ≤ length lines
  pub counts : address ≡ instructions (take behind lines)

-- the first of these lines says that this number of instructions stands before it, and each other one how many more
abbrev pub AreFrom : ℕ → List ExpandedLine → Type 0
AreFrom n [] = Unit {0}
AreFrom n (line ∷ lines) = (line.before ≡ n) × AreFrom (n + instruction_of line.kind) lines

-- the address of each of these labels is a place among the lines
abbrev pub AreLabels : List ExpandedLine → LabelList → Type 0
AreLabels lines [] = Unit {0}
AreLabels lines (label ∷ labels) = IsPlace lines label.1 × AreLabels lines labels

-- a walk has counted the instructions among its lines
pub record IsCounted (st : WalkState) : Type 0 where
  pub before : st.before ≡ instructions st.lines
  pub lines : AreFrom 0 st.lines
  pub labels : AreLabels st.lines st.names.labels

-- every walk goes on counting, that over a copy of a body too, and a label gets for its address the number of instructions among the lines that were
-- written out before it
pub record LabelsStandBehindInstructions (s : RawSettings) : Type 0 where
  pub begun : IsCounted walk_begin
  pub kept : (cs : List Counter) (blocks : Blocks) (st : WalkState) → IsCounted st → IfOk (walk s cs blocks st) IsCounted
  pub labels : (line : ℕ) (names : List (List ℕ)) (st : WalkState) → IsCounted st
      → labelled s line names st ≡ (all_defined s line (instructions st.lines) names st.names >>= λ found. Ok (record st { names = found }))

-- each line says how many instructions stand before it, and each label's address is such a number
pub record AreCounted (expanded : Expansion) : Type 0 where
  pub before : (i : ℕ) → i < length expanded.lines → before_at expanded.lines i ≡ instructions (take i expanded.lines)
  pub labels : (name : List ℕ) (address : ℕ) → address_of expanded.labels name ≡ Some address → IsPlace expanded.lines address
