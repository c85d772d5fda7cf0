-- The definition computed on small sources with blocks.
use Rattle.{std.proofs.Common.{[], ◌∷◌, refl, codes}, std.specs.Fmt.digits, war_types.specs.{declared.fault.AsmKind.AsmKind, declared.fault.ExprFault.ExprFault}}
use Rattle.{redcode_text.specs.Value.value_within, redcode_lines.specs.declared.line.LineKind.LineKind, redcode_names.specs.{Gives.fault_at, Equ.replaced}}
use Rattle.{redcode_expand.specs.Expansion.expansion, redcode_expand.proofs.Rows.{gives, lined, operation, AreRefused}}

rows :
    (joined_labels : gives (codes "i FOR 2\na&i DAT i\nROF\nJMP a02")
    (operation 2 0 (codes "DAT 1") ∷ operation 2 1 (codes "DAT 2") ∷ operation 4 2 (codes "JMP a02") ∷ []) ((codes "a01", 0) ∷ (codes "a02", 1) ∷ [])) ×
    (dropped_body : gives (codes "FOR 0\n?? 3 = junk\nROF\nDAT 0") (operation 4 0 (codes "DAT 0") ∷ []) []) ×
    (count_by_a_name : gives (codes "n EQU 2\nFOR n\nDAT 0\nROF")
    (operation 3 0 (codes "DAT 0") ∷ operation 3 1 (codes "DAT 0") ∷ []) []) ×
    (counters_within_each_other : gives (codes "i FOR 2\nj FOR 2\nDAT i, j\nROF\nROF")
    (operation 3 0 (codes "DAT 1 , 1") ∷ operation 3 1 (codes "DAT 1 , 2") ∷ operation 3 2 (codes "DAT 2 , 1") ∷ operation 3 3 (codes "DAT 2 , 2") ∷ []) []) ×
    (label_before_the_counter : gives (codes "here i FOR 2\nDAT here\nROF")
    (operation 2 0 (codes "DAT here") ∷ operation 2 1 (codes "DAT here") ∷ []) ((codes "here", 0) ∷ [])) ×
    (modifier_stays : gives (codes "i FOR 2\nmov.i i, 2\nROF")
    (operation 2 0 (codes "mov . i 1 , 2") ∷ operation 2 1 (codes "mov . i 2 , 2") ∷ []) []) ×
    -- an END ends all that follows
    (end_within_a_copy : gives (codes "FOR 1\nEND\nx x ROF\nx x") (lined 2 LineKind.End 0 (codes "END") ∷ []) []) ×
    (behind_an_end : gives (codes "DAT 0\nEND\nROF")
    (operation 1 0 (codes "DAT 0") ∷ lined 2 LineKind.End 1 (codes "END") ∷ []) []) ×
    (dropped_for : gives (codes "FOR 0\nx FOR y z\nROF\nROF\nDAT 0") (operation 5 0 (codes "DAT 0") ∷ []) []) ×
    (negative_count : gives (codes "FOR 0-5\nDAT 0\nROF") [] []) ×
    -- the outermost counter is replaced first, whatever the inner one is called
    (outermost_first : gives (codes "i FOR 1\ni FOR 2\nDAT i\nROF\nROF")
    (operation 3 0 (codes "DAT 1") ∷ operation 3 1 (codes "DAT 1") ∷ []) []) ×
    (chain_of_joins : gives (codes "i FOR 1\na&i&i DAT i & i\nROF")
    (operation 2 0 (codes "DAT i01") ∷ []) ((codes "a0101", 0) ∷ [])) ×
    (joins_of_both : gives (codes "i FOR 1\nj FOR 2\na&i&j DAT\nROF\nROF")
    (operation 3 0 (codes "DAT") ∷ operation 3 1 (codes "DAT") ∷ []) ((codes "a0101", 0) ∷ (codes "a0102", 1) ∷ [])) ×
    (counter_joined_to_itself : gives (codes "i FOR 1\nDAT i&i, 1&i, a & i\nROF")
    (operation 2 0 (codes "DAT i01 , 1 & 1 , a01") ∷ []) []) ×
    -- a joined name that is the counter stays a name
    (joined_name_stays : gives (codes "i01 FOR 1\nDAT i&i01\nROF") (operation 2 0 (codes "DAT i01") ∷ []) []) ×
    (word_not_joined : gives (codes "i FOR 1\nDAT&i\nx 5 DAT&i\nROF")
    (operation 2 0 (codes "DAT & 1") ∷ lined 3 LineKind.Other 1 (codes "5 DAT01") ∷ []) ((codes "x", 1) ∷ [])) ×
    -- the labels of a line without a word are those after the joins
    (labels_after_joins : gives (codes "i FOR 1\nx y&i i\nROF\nDAT i")
    (operation 4 0 (codes "DAT i") ∷ []) ((codes "x", 0) ∷ (codes "y01", 0) ∷ (codes "i", 0) ∷ [])) ×
    (labels_stay : gives (codes "i FOR 1\ni DAT i\nROF") (operation 2 0 (codes "DAT 1") ∷ []) ((codes "i", 0) ∷ [])) ×
    (modifier_joined : gives (codes "i FOR 1\nMOV.A&i i, .i\nROF")
    (operation 2 0 (codes "MOV . A01 1 , . 1") ∷ []) []) ×
    (body_of_joins : gives (codes "i FOR 1\nx EQU DAT&i\nROF\nDAT x") (operation 4 0 (codes "DAT DAT01") ∷ []) []) ×
    (counter_before_a_body : gives (codes "i FOR 2\nx&i EQU i\nROF\nDAT x01, x02")
    (operation 4 0 (codes "DAT 1 , 2") ∷ []) []) ×
    (expanded_before_bodies : gives (codes "x EQU i\ni FOR 1\nDAT x\nROF") (operation 3 0 (codes "DAT i") ∷ []) []) ×
    (assertions_and_titles : gives (codes "i FOR 1\n;assert i,a&i\n;name i\nROF")
    (lined 2 LineKind.Assert 0 (codes "1 , a01") ∷ (3, (LineKind.Name, (0, (codes " i", [])))) ∷ []) []) ×
    (outer_counter_at_rof : gives (codes "i FOR 2\nFOR 0\na&i ROF\nROF")
    [] ((codes "a01", 0) ∷ (codes "a02", 0) ∷ [])) ×
    -- a counter is no label
    (counter_exempt : gives (codes "x\nx FOR 1\nDAT x\nCORESIZE FOR 1\nDAT CORESIZE\nROF\nROF")
    (operation 3 0 (codes "DAT 1") ∷ operation 5 1 (codes "DAT 1") ∷ []) ((codes "x", 0) ∷ [])) ×
    (count_by_curline : gives (codes "DAT\nDAT\nFOR CURLINE\nDAT\nROF")
    (operation 1 0 (codes "DAT") ∷ operation 2 1 (codes "DAT") ∷ operation 4 2 (codes "DAT") ∷ operation 4 3 (codes "DAT") ∷ []) []) ×
    (label_above_a_for : gives (codes "i\nFOR 1\nDAT i\nROF")
    (operation 3 0 (codes "DAT i") ∷ []) ((codes "i", 0) ∷ [])) ×
    (number_of_three_digits : gives (codes "i FOR 1\nj FOR 1\nFOR 1\na&i DAT\nROF\nROF\nROF")
    (operation 4 0 (codes "DAT") ∷ []) ((codes "a01", 0) ∷ [])) ×
    -- labels before a ROF: once per block, and its own counter does not reach them
    gives (codes "i FOR 2\nDAT\nx a&i ROF junk")
    (operation 2 0 (codes "DAT") ∷ operation 2 1 (codes "DAT") ∷ []) ((codes "x", 2) ∷ (codes "a", 2) ∷ (codes "i", 2) ∷ [])
unfolding expansion replaced value_within digits
rows = (refl, refl, refl, refl, refl, refl, refl, refl, refl, refl, refl, refl, refl, refl, refl, refl, refl, refl, refl, refl, refl, refl, refl, refl, refl, refl, refl, refl, refl)

-- a ROF or a FOR without the other: the lowest line is reported, before its labels, and an END ends the search for a ROF
-- names: a reserved word in a body after joins, a label in two copies, a label before a bad count
blocks_refused : AreRefused (
    (codes "x ROF", fault_at 1 AsmKind.UnmatchedRof)
    ∷ (codes "FOR 2\nDAT 0", fault_at 1 AsmKind.UnmatchedFor)
    ∷ (codes "x\nx FOR 1\nFOR 1\nROF", fault_at 2 AsmKind.UnmatchedFor)
    ∷ (codes "FOR 1\nDAT 0\nEND", fault_at 1 AsmKind.UnmatchedFor)
    ∷ (codes "i FOR 1\nx EQU DAT i\nROF", fault_at 2 AsmKind.BadEqu)
    ∷ (codes "x\nFOR 0\nROF\nx ROF", fault_at 4 AsmKind.UnmatchedRof)
    ∷ (codes "FOR 2\nx DAT\nROF", fault_at 2 AsmKind.DuplicateName)
    ∷ (codes "x\nx i FOR ?\nROF", fault_at 2 AsmKind.DuplicateName) ∷ [])
unfolding expansion replaced value_within digits
blocks_refused = (refl, (refl, (refl, (refl, (refl, (refl, (refl, (refl, tt))))))))

-- a count does not see the name of an EQU after it; a bad token, a label, a cycle, a division by zero
counts_refused : AreRefused (
    (codes "FOR n\nDAT 0\nROF\nn EQU 2", fault_at 1 (AsmKind.ForCount ExprFault.UnknownName))
    ∷ (codes "FOR ?\nROF", fault_at 1 (AsmKind.ForCount ExprFault.BadExpression))
    ∷ (codes "y\nFOR y\nROF", fault_at 2 (AsmKind.ForCount ExprFault.UnknownName))
    ∷ (codes "a EQU a\nFOR a\nROF", fault_at 2 AsmKind.EquLimit)
    ∷ (codes "FOR 1/0\nROF", fault_at 1 (AsmKind.ForCount ExprFault.DivideByZero)) ∷ [])
unfolding expansion replaced value_within digits
counts_refused = (refl, (refl, (refl, (refl, (refl, tt)))))
