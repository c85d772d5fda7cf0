-- The steps that an expansion takes: of the lines in the order in which they are written out, and of the names of EQUs that are replaced.
use Rattle.std.specs.Prelude.{ℕ, zero, suc, ◌+◌, ◌/◌, nat_lt, if◌then◌else◌, List, [], ◌∷◌, ◌++◌, length, drop, Result, Ok, Err}
use Rattle.{war_types.specs.{declared.fault.AsmFault.AsmFault, declared.settings.RawSettings.RawSettings}, redcode_names.specs.{Equ.EquList, Steps.replacing_steps}}
use Rattle.{redcode_lines.specs.{Line.SourceLine, Operand.operands_of, Source.live_lines, Block.{Blocks, Parsed, finish, one_line, block, open_for, parsed, source_lines}}, redcode_copies.specs.Counter.{Counter, counter_of, in_copies}}
use Rattle.redcode_expand.specs.{Marks.{is_bare, shortened}, Steps.visit_steps, Walk.{ExpandedLine, WalkState, begun, closed, copied, step, walk_all, walk_begin}}

-- ---- steps one after another

-- the steps of what comes after something that may be refused
abbrev pub then_steps : {A : Type 0} → Result A AsmFault → (A → ℕ) → ℕ
then_steps (Ok found) rest = rest found
then_steps (Err fault) rest = 0

-- after an END no line is walked over
abbrev pub going : (WalkState → ℕ) → WalkState → ℕ
going rest st = if st.ended then 0 else rest st

-- ---- lines and blocks

-- a line is walked over within this number of blocks
abbrev pub visited : ℕ → SourceLine → ℕ
visited blocks line = visit_steps blocks (shortened line)

-- and the ROF of a FOR with it, if there is something to read in it
abbrev pub visited_for : ℕ → SourceLine → SourceLine → ℕ
visited_for blocks for rof = visited blocks for + (if is_bare rof then 0 else visit_steps blocks rof)

-- the names of the EQUs so far are replaced in a count
abbrev pub count_steps : List Counter → SourceLine → WalkState → ℕ
count_steps counters for st = replacing_steps st.names.equs (drop 1 (in_copies counters for).tokens)

-- the end of a copy: its ROF is walked over within the block too, and the counter's name is looked up
abbrev pub end_steps : List Counter → List ℕ → SourceLine → ℕ
end_steps counters name rof = visited (suc (length counters)) rof + length name / 32

-- this many copies of a body, numbered from `number` on, and what comes after them; the end of each copy takes `ends` steps
abbrev pub copies_steps : (ℕ → (WalkState → ℕ) → WalkState → ℕ) → ℕ → ℕ → ℕ → ℕ → (WalkState → ℕ) → WalkState → ℕ
copies_steps body line ends zero number rest st = rest st
copies_steps body line ends (suc n) number rest st =
    body number (going (λ now. ends + then_steps (copied line st.counted now) (copies_steps body line ends n (number + 1) rest))) st

-- the lines of the source written out, and what comes after them
abbrev pub walk_steps : RawSettings → List Counter → Blocks → (WalkState → ℕ) → WalkState → ℕ
walk_steps s counters finish rest st = rest st
walk_steps s counters (one_line line others) rest st =
    going (λ st. visited (length counters) line + then_steps (step s counters line st) (walk_steps s counters others rest)) st
walk_steps s counters (block for body rof others) rest st =
    going (λ st. visited_for (length counters) for rof + (count_steps counters for st + then_steps (begun s counters for st) (λ b.
    copies_steps (λ number. walk_steps s (counters ++ counter_of b.counter number ∷ []) body) for.number (end_steps counters b.counter rof) b.copies 1
    (λ now. then_steps (closed s counters rof now) (walk_steps s counters others rest)) b.state))) st
walk_steps s counters (open_for for) rest st = going (λ st. visited (length counters) for) st

-- a ROF that no FOR stands before
abbrev pub unmatched_steps : List (SourceLine × Blocks) → ℕ
unmatched_steps [] = 0
unmatched_steps (rof ∷ rofs) = visited 0 rof.0

-- all blocks of a source
abbrev pub walked_steps : RawSettings → Parsed → ℕ
walked_steps s source = walk_steps s [] source.0 (going (λ st. unmatched_steps source.1)) walk_begin

-- ---- the lines that were written out

-- more than 512 operands are refused unread
abbrev pub line_steps : EquList → ExpandedLine → ℕ
line_steps equs line = if nat_lt 512 (length (operands_of line.kind line.tokens)) then 0 else replacing_steps equs (operands_of line.kind line.tokens)

-- the names of all EQUs are replaced in the operands of these lines
abbrev pub lines_steps : EquList → List ExpandedLine → ℕ
lines_steps equs [] = 0
lines_steps equs (line ∷ lines) = line_steps equs line + lines_steps equs lines

abbrev pub finish_steps : WalkState → ℕ
finish_steps st = lines_steps st.names.equs st.lines

-- ---- a source

abbrev pub blocks_steps : RawSettings → Parsed → ℕ
blocks_steps s source = walked_steps s source + then_steps (walk_all s source walk_begin) finish_steps

-- the steps of a source under these settings
unfoldable pub steps_taken : RawSettings → List ℕ → ℕ
steps_taken s source = blocks_steps s (parsed (source_lines (live_lines source)))
