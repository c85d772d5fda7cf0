-- The steps of small sources, counted by hand: a line is one, and so is each of its tokens.
use Rattle.{std.proofs.Common.{◌≡◌, ℕ, List, refl, codes}, std.specs.Fmt.digits, redcode_text.specs.Value.value_within, redcode_names.specs.{Equ.replaced, Steps.replacing_steps}, redcode_expand.{specs.Taken.steps_taken, proofs.Rows.defaults}}

abbrev takes : List ℕ → ℕ → Type 0
takes source steps = steps_taken defaults source ≡ steps

rows :
    (plain : takes (codes "MOV 0, 1") 5) ×
    (refused : takes (codes "x DAT 0\nx DAT 1\nDAT 2") 8) ×
    (behind_an_end : takes (codes "END\nDAT 0") 2) ×
    -- the operands and the body are read again
    (replaced_name : takes (codes "x EQU 2+3\nMOV x, 1") 17) ×
    -- the ROF is walked over at the end of each copy
    (two_copies : takes (codes "FOR 2\nMOV 0, 1\nROF") 17) ×
    (counted_by_a_name : takes (codes "n EQU 2\nFOR n\nDAT 0\nROF") 19) ×
    -- of a block without a copy the ROF is walked over with the FOR, unless nothing is to be read in it
    (dropped : takes (codes "FOR 0\nDAT 0\nROF") 3) ×
    (dropped_with_a_label : takes (codes "FOR 0\nDAT 0\nx ROF") 6) ×
    -- tokens that are joined are read once more for each block
    takes (codes "i FOR 1\na&i DAT\nROF") 15
unfolding replaced replacing_steps steps_taken digits value_within
rows = (refl, refl, refl, refl, refl, refl, refl, refl, refl)
