-- The steps of what is left of a source within blocks that are open. This is what the code keeps, and no part of the definition.
use Rattle.std.specs.Prelude.{ℕ, ◌+◌, List, [], ◌∷◌, ◌++◌, drop}
use Rattle.{war_types.specs.declared.settings.RawSettings.RawSettings, redcode_lines.specs.{Line.SourceLine, Block.{Blocks, Parsed, parsed}}, redcode_copies.specs.Counter.counter_of}
use Rattle.redcode_expand.specs.{Rest.{OpenBlock, counters_of}, Walk.{WalkState, closed, copied}, Taken.{copies_steps, end_steps, going, then_steps, unmatched_steps, walk_steps}}

-- the copies after the one that is being written, and what comes after them
abbrev pub more_steps : RawSettings → List SourceLine → List OpenBlock → OpenBlock → ℕ → (WalkState → ℕ) → WalkState → ℕ
more_steps s lines outer b ends rest st =
    copies_steps (λ number. walk_steps s (counters_of outer ++ counter_of b.counter.name number ∷ []) (parsed (drop b.body lines)).0) b.number ends b.left (b.counter.number + 1) rest st

-- after the copy of the innermost block: the end of that copy, further copies, and what follows the block's ROF
abbrev pub behind_steps : RawSettings → List SourceLine → List OpenBlock → List (SourceLine × Blocks) → WalkState → ℕ
behind_steps s lines [] rofs = going (λ st. unmatched_steps rofs)
behind_steps s lines (b ∷ bs) [] = λ st. 0
behind_steps s lines (b ∷ bs) (rof ∷ rofs) =
    let ends : ℕ = end_steps (counters_of bs) b.counter.name rof.0 in
    let rest : WalkState → ℕ = λ now. then_steps (closed s (counters_of bs) rof.0 now) (walk_steps s (counters_of bs) rof.1 (behind_steps s lines bs rofs)) in
    going (λ now. ends + then_steps (copied b.number b.start now) (more_steps s lines bs b ends rest))

-- of a source of these lines
abbrev pub rest_steps : RawSettings → List SourceLine → List OpenBlock → Parsed → WalkState → ℕ
rest_steps s lines blocks left st = walk_steps s (counters_of blocks) left.0 (behind_steps s lines blocks left.1) st
