-- The walk over the lines of a source, in the order in which they are written out.
use Rattle.std.specs.Prelude.{◌≡◌, ◌≢◌, ℕ, zero, suc, ◌+◌, ◌<◌, ◌≤◌, ℤ, pos, negsuc, Bool, true, false, nat_lt, nat_eq, if◌then◌else◌, List, [], ◌∷◌, ◌++◌, drop, length, Option, Some, None, Result, Ok, Err}
use Rattle.war_types.specs.{declared.fault.AsmFault.AsmFault, declared.settings.RawSettings.RawSettings, declared.fault.ExprFault.ExprFault, declared.fault.AsmKind.AsmKind}
use Rattle.{redcode_text.specs.{Tokens.Piece, Value.value_of, declared.vocabulary.Word.Word}, redcode_lines.specs.{declared.reading.LineForm.LineForm, declared.line.LineKind.LineKind}}
use Rattle.{redcode_lines.specs.{Line.{SourceLine, labels_of, behind_labels}, Block.{Blocks, Parsed, finish, one_line, block, open_for}}, redcode_copies.specs.Counter.{Counter, counter_of, in_copies}}
use Rattle.redcode_names.specs.{Gives.{◌>>=◌, fault_at}, Equ.{EquList, replaced}, Name.{Names, names_of, all_defined, equ_line, for_labels, predefined}}
use Rattle.redcode_lines.specs.declared.line.LineKind.TheVariants as lines

-- a line of the expanded source
pub record ExpandedLine : Type 0 where
  -- its number in the source, counted from 1
  pub source_line : ℕ
  pub kind : LineKind
  -- its word, if it has one
  pub word : Option Word
  -- instructions before it
  pub before : ℕ
  -- of a name or an author the text after that word
  pub title : List ℕ
  -- of an operation, ORG or END from the word on, of an assertion after its word, of another line after its labels
  pub tokens : List Piece

-- how far the walk has come
pub record WalkState : Type 0 where
  -- lines that count
  pub counted : ℕ
  -- instructions
  pub before : ℕ
  pub names : Names
  pub lines : List ExpandedLine
  -- an END was met
  pub ended : Bool

abbrev pub walk_state : ℕ → ℕ → Names → List ExpandedLine → Bool → WalkState
walk_state counted before names lines ended = record { counted = counted; before = before; names = names; lines = lines; ended = ended }

abbrev pub walk_begin : WalkState
walk_begin = record { counted = 0; before = 0; names = names_of [] []; lines = []; ended = false }

-- a line that counts
abbrev pub counted : ℕ → WalkState → Result WalkState AsmFault
counted line st = if nat_lt st.counted 4096 then Ok (record st { counted = st.counted + 1 }) else Err (fault_at line AsmKind.ForLimit)

-- labels at the next instruction
abbrev pub labelled : RawSettings → ℕ → List (List ℕ) → WalkState → Result WalkState AsmFault
labelled s line labels st = all_defined s line st.before labels st.names >>= λ names. Ok (record st { names = names })

-- an EQU line
abbrev pub equated : RawSettings → ℕ → List (List ℕ) → List Piece → WalkState → Result WalkState AsmFault
equated s line labels body st = equ_line s line st.before body labels st.names >>= λ names. Ok (record st { names = names })

-- a further line
abbrev pub with_line : ℕ → LineKind → Option Word → List ℕ → List Piece → WalkState → WalkState
with_line line kind word title tokens st =
    record st { lines = st.lines ++ record { source_line = line; kind = kind; word = word; before = st.before; title = title; tokens = tokens } ∷ [] }

-- a line with nothing after its labels is no line of the expanded source
abbrev pub with_other : ℕ → List Piece → WalkState → WalkState
with_other line [] st = st
with_other line (token ∷ tokens) st = with_line line lines.Other None [] (token ∷ tokens) st

-- an instruction
abbrev pub with_instruction : ℕ → Word → List Piece → WalkState → WalkState
with_instruction line word tokens st = record (with_line line lines.Operation (Some word) [] tokens st) { before = st.before + 1 }

-- a line by its word, with the tokens from it on
abbrev pub with_word : ℕ → Word → List Piece → WalkState → WalkState
with_word line (Word.Operation op) tokens st = with_instruction line (Word.Operation op) tokens st
with_word line Word.Pspace tokens st = with_instruction line Word.Pspace tokens st
with_word line Word.Org tokens st = with_line line lines.Org (Some Word.Org) [] tokens st
with_word line Word.End tokens st = record (with_line line lines.End (Some Word.End) [] tokens st) { ended = true }
with_word line Word.Pin tokens st = with_line line lines.Other (Some Word.Pin) [] tokens st
with_word line _ tokens st = st

abbrev pub placed_by : ℕ → Option Word → List Piece → WalkState → WalkState
placed_by line None tokens st = with_other line tokens st
placed_by line (Some word) tokens st = with_word line word tokens st

-- a line without its labels
abbrev pub placed : SourceLine → WalkState → WalkState
placed line st = placed_by line.number line.word (behind_labels line) st

abbrev pub is_equ_word : Option Word → Bool
is_equ_word (Some Word.Equ) = true
is_equ_word _ = false

-- a statement that counts
abbrev pub worded : RawSettings → SourceLine → WalkState → Result WalkState AsmFault
worded s line st =
    if is_equ_word line.word then equated s line.number (labels_of line) (drop 1 line.tokens) st
    else (labelled s line.number (labels_of line) st >>= λ st. Ok (placed line st))

abbrev pub statement : RawSettings → SourceLine → WalkState → Result WalkState AsmFault
statement s line st = counted line.number st >>= worded s line

-- a line that counts, without a word
abbrev pub lined : ℕ → LineKind → List ℕ → List Piece → WalkState → Result WalkState AsmFault
lined line kind title tokens st = counted line st >>= λ st. Ok (with_line line kind None title tokens st)

abbrev pub step_by : RawSettings → LineForm → SourceLine → WalkState → Result WalkState AsmFault
step_by s LineForm.Statement line st = statement s line st
step_by s LineForm.Assert line st = lined line.number lines.Assert [] line.tokens st
step_by s LineForm.Name line st = lined line.number lines.Name line.title [] st
step_by s LineForm.Author line st = lined line.number lines.Author line.title [] st

-- a line that makes no block
abbrev pub step_as : RawSettings → SourceLine → WalkState → Result WalkState AsmFault
step_as s line st = step_by s line.form line st

-- the same under these counters
abbrev pub step : RawSettings → List Counter → SourceLine → WalkState → Result WalkState AsmFault
step s counters line st = step_as s (in_copies counters line) st

-- ---- blocks

-- no copy if the count is negative
abbrev pub copies_by : ℤ → ℕ
copies_by (pos n) = n
copies_by (negsuc n) = 0

-- the number of copies, or the fault of a count
abbrev pub count_by : ℕ → Result ℤ ExprFault → Result ℕ AsmFault
count_by line (Ok count) = Ok (copies_by count)
count_by line (Err fault) = Err (fault_at line (AsmKind.ForCount fault))

-- how many copies a count asks for: the names of the EQUs so far are replaced in it, and labels are not known
abbrev pub copies_of : RawSettings → ℕ → ℕ → EquList → List Piece → Result ℕ AsmFault
copies_of s line before equs tokens = replaced line equs tokens >>= λ count. count_by line (value_of (predefined s before) count)

-- how a block begins: the state, the counter's name and the number of copies
pub record Begun : Type 0 where
  pub state : WalkState
  pub counter : List ℕ
  pub copies : ℕ

abbrev pub begun_as : WalkState → List ℕ → ℕ → Begun
begun_as st counter copies = record { state = st; counter = counter; copies = copies }

-- a FOR line
abbrev pub begun_of : RawSettings → SourceLine → WalkState → Result Begun AsmFault
begun_of s line st =
    for_labels s line.number st.before (labels_of line) st.names >>= λ found.
    copies_of s line.number st.before found.0.equs (drop 1 line.tokens) >>= λ n. Ok (begun_as (record st { names = found.0 }) found.1 n)

-- the same under these counters
abbrev pub begun : RawSettings → List Counter → SourceLine → WalkState → Result Begun AsmFault
begun s counters line st = begun_of s (in_copies counters line) st

-- a ROF line under these counters: its labels stand at the next instruction
abbrev pub closed : RawSettings → List Counter → SourceLine → WalkState → Result WalkState AsmFault
closed s counters line st = labelled s line.number (labels_of (in_copies counters line)) st

-- after an END nothing counts
abbrev pub until_end : (WalkState → Result WalkState AsmFault) → WalkState → Result WalkState AsmFault
until_end rest st = if st.ended then Ok st else rest st

-- the end of a copy that began when `start` lines were counted: it counts if nothing in it did
abbrev pub copied : ℕ → ℕ → WalkState → Result WalkState AsmFault
copied line start st = if nat_eq st.counted start then counted line st else Ok st

-- this many copies of a body, numbered from `number` on
abbrev pub copies : (ℕ → WalkState → Result WalkState AsmFault) → ℕ → ℕ → ℕ → WalkState → Result WalkState AsmFault
copies body line zero number st = Ok st
copies body line (suc n) number st = until_end (λ st. body number st >>= until_end (copied line st.counted) >>= copies body line n (number + 1)) st

-- the lines of the source written out
abbrev pub walk : RawSettings → List Counter → Blocks → WalkState → Result WalkState AsmFault
walk s counters finish st = Ok st
walk s counters (one_line line rest) st = until_end (step s counters line) st >>= walk s counters rest
walk s counters (block for body rof rest) st =
    until_end (λ st. begun s counters for st >>= λ b. copies (λ number. walk s (counters ++ counter_of b.counter number ∷ []) body) for.number b.copies 1 b.state) st
    >>= until_end (closed s counters rof) >>= walk s counters rest
walk s counters (open_for for) st = until_end (λ st. Err (fault_at for.number AsmKind.UnmatchedFor)) st

-- a ROF that no FOR stands before
abbrev pub unmatched : List (SourceLine × Blocks) → WalkState → Result WalkState AsmFault
unmatched [] st = Ok st
unmatched (rof ∷ rofs) st = Err (fault_at rof.0.number AsmKind.UnmatchedRof)

-- all blocks of a source
abbrev pub walk_all : RawSettings → Parsed → WalkState → Result WalkState AsmFault
walk_all s source st = walk s [] source.0 st >>= until_end (unmatched source.1)

-- ---- what the code keeps: no part of the definition

-- what every state of the walk keeps: an instruction is a line that counts, as each line that was written out is, and these are few
pub record IsWalk (st : WalkState) : Type 0 where
  pub lines : length st.lines ≤ st.counted
  pub before : st.before ≤ st.counted
  pub counted : st.counted ≤ 4096

-- a copy that began when `start` lines were counted added one if none counted in it
pub record IsCopied (start old new : ℕ) : Type 0 where
  pub counts : old ≡ start → (new ≡ old + 1) × (old < 4096)
  pub stays : old ≢ start → new ≡ old
