-- Small texts, computed.
use Rattle.{std.proofs.Common.{◌≡◌, [], ◌∷◌, ◌++◌, codes, refl}, std.specs.{Char.encode_utf8, Fmt.digits, Str.{chars, is_utf8}, Str.Lossy.{utf8_error_len, utf8_lossy, utf8_valid_len}}}
use Rattle.war_types.specs.{Warrior.warrior_parts, declared.fault.AsmKind.AsmKind, declared.fault.ExprFault.ExprFault}
use Rattle.koth_text.specs.{Bout.bout_view, Columns.{columns_text, table_text}, Escape.escaped, Pieces.pieces_text, Refusal.refusal_line, declared.{columns.Alignment.Alignment, pieces.Piece.Piece}}

no_line_to_blame : refusal_line (record { line = 0; kind = AsmKind.Empty }) ≡ codes "REFUSED 0 Empty\n"
unfolding digits
no_line_to_blame = refl

name_of_the_expression's_fault : refusal_line (record { line = 4097; kind = AsmKind.Expression ExprFault.Overflow }) ≡ codes "REFUSED 4097 Overflow\n"
unfolding digits
name_of_the_expression's_fault = refl

-- names that are more than letters: a tag, and a letter of two bytes; an apostrophe, and a control character; a byte that no text has; a text
-- that is cut off within a character, and goes on; and no name at all
names : (escaped (codes "<b>&\"" ++ 0xC3 ∷ 0xA9 ∷ []) ≡ codes "&lt;b&gt;&amp;&quot;&#233;")
    × (escaped (codes "it's" ++ 7 ∷ []) ≡ codes "it&#39;s&#65533;")
    × (escaped (0xFF ∷ []) ≡ codes "&#65533;")
    × (escaped (0xE2 ∷ 0x82 ∷ codes "x") ≡ codes "&#65533;x")
    × (escaped [] ≡ [])
unfolding digits chars encode_utf8 escaped is_utf8 utf8_error_len utf8_lossy utf8_valid_len
names = (refl, refl, refl, refl, refl)

-- a column past the sides that are given, a cell that is missing, and a row whose cells after the first are blank
columns : columns_text (Alignment.Left ∷ Alignment.Right ∷ []) ((codes "a" ∷ codes "bb" ∷ codes "c" ∷ []) ∷ (codes "dd" ∷ codes "e" ∷ []) ∷ (codes "f" ∷ codes " " ∷ codes " " ∷ []) ∷ [])
    ≡ codes "a   bb  c\ndd   e\nf\n"
columns = refl

-- no headings over an empty table
no_headings : table_text (Alignment.Left ∷ []) ((codes "a" ∷ []) ∷ []) ≡ []
no_headings = refl

-- a number after another one, in a field that it fits into, and in one that it doesn't
pieces : pieces_text (Piece.Number 7 ∷ Piece.Right 4 12 ∷ Piece.Right 1 345 ∷ []) ≡ codes "7  12345"
unfolding digits
pieces = refl

counts : bout_view (warrior_parts [] 0 (codes "Imp") (codes "A. K. Dewdney")) (warrior_parts [] 0 (codes "Scanner") (codes "koth")) (record { older_wins = 1; younger_wins = 9; ties = 0 })
    ≡ codes "won  lost  tied  points  warrior  author\n"
    ++ codes "  1     9     0       3  Imp      A. K. Dewdney\n"
    ++ codes "  9     1     0      27  Scanner  koth\n"
unfolding digits
counts = refl
