-- The definition computed on small sources, with what it has to give.
use Rattle.std.proofs.Common.{◌≡◌, ℕ, List, [], ◌∷◌, Option, None, Some, refl, codes}
use Rattle.redcode_define.specs.{Define.defined, Definition.definition_of}

-- with 7 for the body of x
abbrev gives : List ℕ → List ℕ → Type 0
gives source text = defined source (codes "x") (codes "7") ≡ Some text

abbrev none : List ℕ → Type 0
none source = defined source (codes "x") (codes "7") ≡ None

abbrev reads : List ℕ → List ℕ → List ℕ → Type 0
reads text name value = definition_of text ≡ Some (name, value)

rows :
    (one : gives (codes "x EQU 1\nDAT x\n") (codes "x EQU 7\nDAT x\n")) ×
    (last_line_ended : gives (codes "DAT x\nx EQU 1") (codes "DAT x\nx EQU 7\n")) ×
    (comment_kept : gives (codes "x EQU 1 ; its step\n") (codes "x EQU 7; its step\n")) ×
    (lower_case : gives (codes "x equ 1+2*3\n") (codes "x equ 7\n")) ×
    (colon : gives (codes "x: EQU 1\n") (codes "x: EQU 7\n")) ×
    (last_of_labels : gives (codes "a x EQU 1\n") (codes "a x EQU 7\n")) ×
    (no_body : gives (codes "x EQU\n") (codes "x EQU 7\n")) ×
    (return_dropped : gives (codes "x EQU 1\r\n") (codes "x EQU 7\n")) ×
    (both : gives (codes "x EQU 1\nx EQU 2\n") (codes "x EQU 7\nx EQU 7\n")) ×
    (dropped_block : gives (codes "FOR CORESIZE==80\nx EQU 1\nROF\n") (codes "FOR CORESIZE==80\nx EQU 7\nROF\n")) ×
    (end_in_a_block : gives (codes "FOR 0\nEND\nROF\nx EQU 1\n") (codes "FOR 0\nEND\nROF\nx EQU 7\n")) ×
    (before_redcode : gives (codes "x EQU 1\n;redcode\nx EQU 2\n") (codes "x EQU 1\n;redcode\nx EQU 7\n")) ×
    (behind_the_end : gives (codes "x EQU 1\nEND\nx EQU 2\n") (codes "x EQU 7\nEND\nx EQU 2\n")) ×
    (only_before_redcode : none (codes "x EQU 1\n;redcode\nDAT x\n")) ×
    (only_behind_the_end : none (codes "DAT 0\nEND\nx EQU 1\n")) ×
    (other_name : none (codes "xx EQU 1\n")) ×
    (other_case : none (codes "X EQU 1\n")) ×
    (first_of_labels : none (codes "x a EQU 1\n")) ×
    (joined : none (codes "i FOR 2\na&x EQU 1\nROF\n")) ×
    (label : none (codes "x DAT 1\n")) ×
    (body_only : none (codes "a EQU x\n")) ×
    (in_a_comment : none (codes "; x EQU 1\n")) ×
    (empty : none []) ×
    (words : reads (codes "x=7") (codes "x") (codes "7")) ×
    (further_equals : reads (codes "x_1=a==b") (codes "x_1") (codes "a==b")) ×
    (empty_value : reads (codes "x=") (codes "x") []) ×
    (no_equals : definition_of (codes "x") ≡ None) ×
    (no_name : definition_of (codes "=7") ≡ None) ×
    (number_for_a_name : definition_of (codes "7=7") ≡ None) ×
    (blank_in_the_name : definition_of (codes "x =7") ≡ None) ×
    (comment : definition_of (codes "x=7;") ≡ None) ×
    -- a line feed
    (definition_of (codes "x=7\nDAT 0") ≡ None)
unfolding defined
rows =
    (refl, refl, refl, refl, refl, refl, refl, refl, refl, refl, refl, refl, refl, refl, refl, refl, refl, refl, refl, refl, refl, refl, refl, refl, refl, refl, refl, refl, refl, refl, refl, refl)
