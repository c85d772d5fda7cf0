-- What is left of a source within blocks that are open.
use Rattle.std.specs.Prelude.{◌≡◌, ℕ, suc, ◌+◌, ◌-◌, ◌*◌, ◌<◌, false, IsTrue, nat_eq, if◌then◌else◌, List, [], ◌∷◌, ◌++◌, length, drop, ⊤, Option, Some, None, Result, Ok, Err}
use Rattle.{std.specs.{Option.option_map, Str.bytes_eq}, war_types.specs.{declared.fault.AsmFault.AsmFault, declared.settings.RawSettings.RawSettings}}
use Rattle.{redcode_lines.specs.{Line.SourceLine, Block.{Blocks, Parsed, parsed}}, redcode_copies.specs.Counter.{Counter, counter_of}}
use Rattle.{redcode_names.specs.{Gives.{◌>>=◌, Fails}, Name.{CounterPlaces, LabelList, address_of}}, redcode_expand.specs.{Cut.with_cut, Walk.{WalkState, walk, copies, copied, closed, unmatched, until_end}}}

-- a block whose copies are being written
pub record OpenBlock : Type 0 where
  -- the number of its FOR line
  pub number : ℕ
  -- with the number of the copy
  pub counter : Counter
  -- copies after this one
  pub left : ℕ
  -- lines counted before this copy
  pub start : ℕ
  -- the index of the first line of its body
  pub body : ℕ

abbrev pub open_block : ℕ → Counter → ℕ → ℕ → ℕ → OpenBlock
open_block number counter left start body = record { number = number; counter = counter; left = left; start = start; body = body }

-- the counters of blocks within each other, the innermost block first; the outermost counter is the first
abbrev pub counters_of : List OpenBlock → List Counter
counters_of [] = []
counters_of (b ∷ bs) = counters_of bs ++ b.counter ∷ []

-- the copies after the one that is being written
abbrev pub more_copies : RawSettings → List SourceLine → List OpenBlock → OpenBlock → WalkState → Result WalkState AsmFault
more_copies s lines outer b st =
    copies (λ number. walk s (counters_of outer ++ counter_of b.counter.name number ∷ []) (parsed (drop b.body lines)).0) b.number b.left (b.counter.number + 1) st

-- what is left after the copy of the innermost block: the end of that copy, further copies, and what follows the block's ROF
abbrev pub behind_copy : RawSettings → List SourceLine → List OpenBlock → List (SourceLine × Blocks) → WalkState → Result WalkState AsmFault
behind_copy s lines [] rofs st = until_end (unmatched rofs) st
behind_copy s lines (b ∷ bs) [] st = Ok st
behind_copy s lines (b ∷ bs) (rof ∷ rofs) st =
    until_end (copied b.number b.start) st >>= more_copies s lines bs b
    >>= until_end (closed s (counters_of bs) rof.0) >>= walk s (counters_of bs) rof.1 >>= behind_copy s lines bs rofs

-- what is left of a source of these lines
abbrev pub rest_of : RawSettings → List SourceLine → List OpenBlock → Parsed → WalkState → Result WalkState AsmFault
rest_of s lines blocks left st = walk s (counters_of blocks) left.0 st >>= behind_copy s lines blocks left.1

-- each open block ends at its own ROF
abbrev pub AreOpen : List SourceLine → List OpenBlock → List (SourceLine × Blocks) → Type 0
AreOpen lines [] rofs = ⊤
AreOpen lines (b ∷ bs) [] = IsTrue false
AreOpen lines (b ∷ bs) (rof ∷ rofs) = ((parsed (drop b.body lines)).1 ≡ rof ∷ rofs) × AreOpen lines bs rofs

-- a line was counted in the copy of the innermost block
abbrev pub counts : List OpenBlock → WalkState → ℕ
counts [] st = 0
counts (b ∷ bs) st = if nat_eq st.counted b.start then 0 else 1

-- more than the steps that are left: each counts a line, or ends a copy in which one was counted, or goes on to a later line
abbrev pub steps_left : List SourceLine → List OpenBlock → ℕ → WalkState → ℕ
steps_left lines blocks at st = (4096 - st.counted) * 131074 + (counts blocks st * 65537 + (length lines - at))

-- how the walk goes on, from the line of index `from` within the blocks `old` and the state `was`, to that of index `at`: what is left is what was due, both
-- cut, and fewer steps are left
pub record GoesOn (s : RawSettings) (lines : List SourceLine) (old : List OpenBlock) (from : ℕ) (was : WalkState) (blocks : List OpenBlock) (at : ℕ) (st : WalkState) : Type 0 where
  pub rest : with_cut (rest_of s lines blocks (parsed (drop at lines)) st) ≡ with_cut (rest_of s lines old (parsed (drop from lines)) was)
  pub opened : AreOpen lines blocks (parsed (drop at lines)).1
  pub less : steps_left lines blocks at st < steps_left lines old from was

-- it goes on so at the line of the index that was found, or the refusal is due
abbrev pub Continues : RawSettings → List SourceLine → List OpenBlock → ℕ → WalkState → List OpenBlock → WalkState → Result ℕ AsmFault → Type 0
Continues s lines old from was blocks st (Ok at) = GoesOn s lines old from was blocks at st
Continues s lines old from was blocks st (Err fault) = Fails fault (rest_of s lines old (parsed (drop from lines)) was)

-- the counters of blocks, the outermost block first
abbrev pub counters_in : List OpenBlock → List Counter
counters_in [] = []
counters_in (b ∷ bs) = b.counter ∷ counters_in bs

-- the index of the first of the blocks whose counter has this name
abbrev pub place_in : List OpenBlock → List ℕ → Option ℕ
place_in [] name = None
place_in (b ∷ bs) name = if bytes_eq name b.counter.name then Some 0 else option_map (λ place. suc place) (place_in bs name)

-- each counter's name has the index of the first block that has it, the outermost block being the first
abbrev pub AreFirst : LabelList → List OpenBlock → Type 0
AreFirst firsts bs = (name : List ℕ) → (place : ℕ) → place_in bs name ≡ Some place → address_of firsts name ≡ Some place

-- no block after the index that a name has is of that name
abbrev pub AreLast : LabelList → List OpenBlock → Type 0
AreLast lasts bs = (name : List ℕ) → (last : ℕ) → address_of lasts name ≡ Some last → place_in (drop (last + 1) bs) name ≡ None

-- both
pub record ArePlaced (places : CounterPlaces) (bs : List OpenBlock) : Type 0 where
  pub firsts : AreFirst places.firsts bs
  pub lasts : AreLast places.lasts bs
