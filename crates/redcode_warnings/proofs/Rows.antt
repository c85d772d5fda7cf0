-- The definition computed on small sources, with the warnings that they have to have.
use Rattle.std.proofs.Common.{◌≡◌, ℕ, List, [], ◌∷◌, ◌++◌, refl, codes}
use Rattle.redcode_warnings.specs.{declared.kind.WarningKind.WarningKind, Warnings.{Noted, noted, warnings_of}}

abbrev warned : List ℕ → List Noted → Type 0
warned source warnings = warnings_of source ≡ warnings

-- the same after three lines that leave nothing out
abbrev titled : List ℕ → List Noted → Type 0
titled source warnings = warned (codes ";name a\n;author b\n;assert 1\n" ++ source) warnings

abbrev one : WarningKind → ℕ → List Noted
one kind line = noted kind line ∷ []

rows :
    (nothing_missing : titled (codes "start MOV 0, 1\nJMP start") []) ×
    (all_missing : warned (codes "DAT 0") (noted WarningKind.NoName 0 ∷ noted WarningKind.NoAuthor 0 ∷ noted WarningKind.NoAssert 0 ∷ [])) ×
    (empty_name : titled (codes ";name \nDAT 0") (one WarningKind.NoName 0)) ×
    (too_far_behind : warned (codes "DAT 0\nEND\n;name a\n;author b\n;assert 1") (noted WarningKind.NoName 0 ∷ noted WarningKind.NoAuthor 0 ∷ noted WarningKind.NoAssert 0 ∷ [])) ×
    (exchanged : titled (codes "MOV 0, 1\nmvo") (one WarningKind.UnusedLabel 5)) ×
    (put_in : titled (codes "MOV 0, 1\nmoov") (one WarningKind.UnusedLabel 5)) ×
    (replaced : titled (codes "MOV 0, 1\nnup") (one WarningKind.NamesAlone 5)) ×
    (two_edits : titled (codes "MOV 0, 1\nnupp") (one WarningKind.NamesAlone 5)) ×
    (two_letters : titled (codes "MOV 0, 1\njm") (one WarningKind.NamesAlone 5)) ×
    (with_an_operation : titled (codes "mvo MOV 0, 1") []) ×
    (used_in_an_operand : titled (codes "mvo\nMOV 0, 1\nJMP mvo") []) ×
    (used_in_an_assertion : titled (codes "mvo\nMOV 0, 1\n;assert mvo == 0") []) ×
    (used_in_a_body : titled (codes "mvo\nx EQU mvo\nJMP x") []) ×
    (used_after_the_end : titled (codes "mvo\nMOV 0, 1\nEND\nJMP mvo") (noted WarningKind.UnusedLabel 4 ∷ noted WarningKind.CodeAfterEnd 7 ∷ [])) ×
    (other_case : titled (codes "mvo\nMOV 0, 1\nJMP MVO") (one WarningKind.UnusedLabel 4)) ×
    (joined_label : titled (codes "i FOR 2\nmvo&i DAT 0\nROF") []) ×
    (alone_and_used : titled (codes "start\nMOV 0, 1\nJMP start") []) ×
    (alone : titled (codes "MOV 0, 1\ngoto bar") (one WarningKind.NamesAlone 5)) ×
    (alone_and_near : titled (codes "MOV 0, 1\nstart nopp\nJMP start") (one WarningKind.UnusedLabel 5)) ×
    (alone_with_a_digit : titled (codes "MOV 0, 1\nloop1") []) ×
    (no_operation : titled (codes "mvo 0, 1") []) ×
    (defined_twice : titled (codes "x DAT 0\nx DAT 0\nmvo") (one WarningKind.UnusedLabel 6)) ×
    (long_title : titled (codes "DAT 0\n;author 1234567890123456789012345678901234567890123456789") (one WarningKind.ChangedTitle 5)) ×
    (full_title : titled (codes "DAT 0\n;author  123456789012345678901234567890123456789012345678 ") []) ×
    (code_after_end : titled (codes "DAT 0\nEND\nfoo\nDAT 1\nDAT 2") (one WarningKind.CodeAfterEnd 7)) ×
    (end_in_a_block : titled (codes "FOR 1\nEND\nROF\nDAT 0") []) ×
    (dropped_block : titled (codes "FOR 0\nfree text\nFOR 2\nEND\nROF\nmvo\nROF\nDAT 0") []) ×
    (late_start : titled (codes "DAT 0\nstart MOV 0, 1") (one WarningKind.NoStart 5)) ×
    (late_start_alone : titled (codes "DAT 0\ngo\nMOV 0, 1") (one WarningKind.NoStart 5)) ×
    (first_start : titled (codes "boot MOV 0, 1\nDAT 0") []) ×
    (start_by_org : titled (codes "ORG 1\nDAT 0\nstart MOV 0, 1") []) ×
    (start_by_end : titled (codes "DAT 0\nstart MOV 0, 1\nEND 1") []) ×
    (end_without_a_start : titled (codes "DAT 0\nstart MOV 0, 1\nEND") (one WarningKind.NoStart 5)) ×
    (second_org : titled (codes "ORG 1\nDAT 0\nORG 0\nDAT 1") (one WarningKind.StartOverruled 4)) ×
    (org_and_end : titled (codes "ORG 0\nDAT 0\nEND 0") (one WarningKind.StartOverruled 6)) ×
    (org_and_bare_end : titled (codes "ORG 0\nDAT 0\nEND") []) ×
    (unused_equ : titled (codes "x EQU 1\nDAT 0") (one WarningKind.UnusedEqu 4)) ×
    (used_equ : titled (codes "x EQU 1\nFOR x\nDAT 0\nROF") []) ×
    (label_of_an_equ : titled (codes "mvo x EQU 1\nDAT x") []) ×
    -- lines before a ;redcode
    titled (codes "foo\n;redcode\n;name a\n;author b\n;assert 1\nDAT 0") []
rows =
    (refl, refl, refl, refl, refl, refl, refl, refl, refl, refl, refl, refl, refl, refl, refl, refl, refl, refl, refl, refl, refl, refl, refl, refl, refl, refl, refl, refl, refl, refl, refl, refl, refl, refl, refl, refl, refl, refl, refl, refl)
