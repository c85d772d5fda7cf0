-- An instruction's line of the load text, as it is read.
use Rattle.std.proofs.Common.{◌≡◌, ℕ, ◌≤◌, false, List, [], ◌∷◌, ◌++◌, length, drop, Option, Some, None, Ok, ℤ, refl, ap, subst, ◌∙◌, arith, append_assoc, codes}
use Rattle.std.proofs.{lemmas.Bool.Decides.nat_tests, lemmas.List.{append-nil, length-append, length-replicate}, lemmas.List.Folds.list_any-append}
use Rattle.{std.specs.List.{AllByRecursion, list_any}, war_types.specs.{Warrior.HasNumbersBelow, declared.instr.Instr.Instr}}
use Rattle.redcode_text.specs.{Tokens.{Piece, piece}, Vocabulary.{op_text, modifier_text}, declared.token.TokenKind.TokenKind, declared.vocabulary.Word.Word}
use Rattle.redcode_lines.specs.{Source.{lines_of, directive_of}, Line.{source_line, statement_tokens, without_comment}, Block.line_by, declared.reading.LineForm.LineForm}
use Rattle.redcode_statement.specs.{Sides.{side_tokens, before_comma, behind_comma, sides_of}, Instruction.instruction_of, Statement.is_bad, InstrLine.{left_in, operand_text, instr_line}}
use Rattle.redcode_statement.proofs.{LineLemmas.{AreInLine, lines_of-line}, TokenLemmas.{bare, bare-is}}
use Rattle.redcode_statement.proofs.OperandLemmas.{IsInside, Spells-signed, operand_tokens, bare-operand, reduced-number, in_line-spaces}

-- ---- the operation and its modifier in their 7 places

abbrev left_text : Instr → List ℕ
left_text i = left_in 7 (op_text i.op ++ codes "." ++ modifier_text i.modifier)

length-left : (i : Instr) → length (left_text i) ≡ 7
length-left i = grind arith

in_line-left : (i : Instr) → AreInLine (left_text i)
in_line-left i = grind arith

directive_of-left : (i : Instr) (rest : List ℕ) → directive_of (left_text i ++ rest) ≡ None
directive_of-left i rest = grind arith

bare-left : (i : Instr) (rest : List ℕ)
    → bare (left_text i ++ rest) ≡ piece TokenKind.Name (op_text i.op) ∷ piece TokenKind.Symbol (codes ".") ∷ piece TokenKind.Name (modifier_text i.modifier) ∷ bare rest
bare-left i rest = grind arith

-- ---- the operands

abbrev comma : Piece
comma = piece TokenKind.Symbol (codes ",")

-- tokens that part nothing, with none or a comma after them
pub parted-front : (xs ys : List Piece) → AllByRecursion IsInside xs → before_comma ys ≡ []
    → (before_comma (xs ++ ys) ≡ xs) × (behind_comma (xs ++ ys) ≡ behind_comma ys)
parted-front [] ys inside none = (none, refl)
parted-front (x ∷ xs) ys inside none =
    let others = parted-front xs ys inside.1 none in
    (rw (inside.0, others.0) refl, rw (inside.0, others.1) refl)

-- the tokens of both operands and the comma
abbrev pub both_tokens : ℕ → Instr → List Piece
both_tokens core i = operand_tokens core i.a_mode i.a ++ comma ∷ operand_tokens core i.b_mode i.b

pub length-both : (core : ℕ) (i : Instr) → length (both_tokens core i) ≤ 7
length-both core i = grind (arith, nat_tests, length-append)

sides_of-both : (core : ℕ) (i : Instr) → HasNumbersBelow core i → core ≤ 65535
    → sides_of i.op (both_tokens core i) ≡ Ok (side_tokens (operand_tokens core i.a_mode i.a) (operand_tokens core i.b_mode i.b) false)
sides_of-both core i below most =
    let a_tokens = operand_tokens core i.a_mode i.a in
    let b_tokens = operand_tokens core i.b_mode i.b in
    let a = parted-front a_tokens (comma ∷ b_tokens) (grind arith, (Spells-signed core i.a below.a most).inside) refl in
    let b_inside : AllByRecursion IsInside b_tokens = (grind arith, (Spells-signed core i.b below.b most).inside) in
    let b = subst (λ (ts : List Piece). (before_comma ts ≡ b_tokens) × (behind_comma ts ≡ None)) (append-nil b_tokens)
    (parted-front b_tokens [] b_inside refl) in
    rw (a.0, a.1, b.0, b.1) refl

-- ---- the line

-- its tokens
abbrev pub instr_tokens : ℕ → Instr → List Piece
instr_tokens core i = piece TokenKind.Name (op_text i.op) ∷ piece TokenKind.Symbol (codes ".") ∷ piece TokenKind.Name (modifier_text i.modifier) ∷ both_tokens core i

-- after the operation they are read as the instruction
pub instruction_of-line : (core : ℕ) (names : List ℕ → Option ℤ) (i : Instr) → HasNumbersBelow core i → core ≤ 65535
    → instruction_of core names (Some (Word.Operation i.op)) (drop 1 (instr_tokens core i)) ≡ Ok i
instruction_of-line core names i below most =
    let sides = sides_of-both core i below most in
    let a = (Spells-signed core i.a below.a most).value names in
    let b = (Spells-signed core i.b below.b most).value names in
    let a_is = reduced-number core i.a below.a in
    let b_is = reduced-number core i.b below.b in
    grind arith

-- none is a bad one
pub not_bad-line : (core : ℕ) (i : Instr) → list_any is_bad (instr_tokens core i) ≡ false
not_bad-line core i = grind arith

-- nor a comment
without_comment-line : (core : ℕ) (i : Instr) → without_comment (instr_tokens core i) ≡ instr_tokens core i
without_comment-line core i = grind arith

-- the line without its line feed
abbrev pub line_of : ℕ → Instr → List ℕ
line_of core i = left_text i ++ (operand_text core i.a_mode i.a ++ (codes ", " ++ operand_text core i.b_mode i.b))

bare-line : (core : ℕ) (i : Instr) → HasNumbersBelow core i → core ≤ 65535 → bare (line_of core i) ≡ instr_tokens core i
bare-line core i below most =
    let b_text = operand_text core i.b_mode i.b in
    let a = bare-operand core i.a_mode i.a (codes ", " ++ b_text) below.a most refl in
    let b = simp append-nil at (bare-operand core i.b_mode i.b [] below.b most refl) in
    bare-left i (operand_text core i.a_mode i.a ++ (codes ", " ++ b_text)) ∙ rw (a, b) refl

statement_tokens-line : (core : ℕ) (i : Instr) → HasNumbersBelow core i → core ≤ 65535 → statement_tokens (line_of core i) ≡ instr_tokens core i
statement_tokens-line core i below most = ap without_comment (bare-is (line_of core i) ∙ bare-line core i below most) ∙ without_comment-line core i

pub directive_of-line : (core : ℕ) (i : Instr) → directive_of (line_of core i) ≡ None
directive_of-line core i = directive_of-left i (operand_text core i.a_mode i.a ++ (codes ", " ++ operand_text core i.b_mode i.b))

-- it is a statement without labels, its word the operation
pub line_by-line : (core n : ℕ) (i : Instr) → HasNumbersBelow core i → core ≤ 65535
    → line_by n (line_of core i) (directive_of (line_of core i)) ≡ source_line n LineForm.Statement (Some (Word.Operation i.op)) [] [] (instr_tokens core i) ∷ []
line_by-line core n i below most = rw (directive_of-line core i, statement_tokens-line core i below most) (grind arith)

-- it is the first of the lines that begin with it
in_line-line : (core : ℕ) (i : Instr) → HasNumbersBelow core i → core ≤ 65535 → AreInLine (line_of core i)
in_line-line core i below most =
    let left = in_line-left i in
    let a = (Spells-signed core i.a below.a most).in_line in
    let b = (Spells-signed core i.b below.b most).in_line in
    grind (arith, list_any-append, in_line-spaces)

pub lines_of-instr : (core : ℕ) (i : Instr) (rest : List ℕ) → HasNumbersBelow core i → core ≤ 65535 → lines_of (instr_line core i ++ rest) ≡ line_of core i ∷ lines_of rest
unfolding instr_line
lines_of-instr core i rest below most = simp append_assoc (simp append_assoc at (lines_of-line (line_of core i) rest (in_line-line core i below most)))

-- with its line feed it has 24 bytes
pub length-line : (core : ℕ) (i : Instr) → HasNumbersBelow core i → core ≤ 65535 → length (instr_line core i) ≡ 24
unfolding instr_line
length-line core i below most =
    let left = length-left i in
    let a = (Spells-signed core i.a below.a most).short in
    let b = (Spells-signed core i.b below.b most).short in
    grind (arith, length-append, length-replicate)
