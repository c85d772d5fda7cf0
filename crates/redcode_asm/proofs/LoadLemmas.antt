-- How the load text of a warrior expands.
use Rattle.std.proofs.Common.{◌≡◌, ℕ, suc, ◌+◌, ◌-◌, ◌*◌, ◌≤◌, ◌<◌, false, true, List, [], ◌∷◌, ◌++◌, length, Some, None, Ok, refl, ap, ◌∙◌, arith, lt-ltb, le-ltb, append_assoc, codes}
use Rattle.{std.specs.{Fmt.decimal, List.{AllByRecursion, flat_map}}, std.proofs.lemmas.List.{append-nil, length-append}}
use Rattle.{war_types.specs.{declared.instr.Instr.Instr, declared.settings.RawSettings.RawSettings, Warrior.{WarriorParts, HasNumbersBelow}}, redcode_text.specs.declared.vocabulary.Word.Word}
use Rattle.{redcode_text.specs.{Tokens.{Piece, piece}, declared.token.TokenKind.TokenKind}, redcode_lines.specs.{declared.line.LineKind.LineKind, Source.{lines_of, numbered_from, redcode_on}}}
use Rattle.redcode_lines.specs.{Line.{SourceLine, source_line, statement_tokens, without_comment}, Block.{source_lines, parsed}, declared.reading.LineForm.LineForm}
use Rattle.{redcode_statement.specs.InstrLine.instr_line, redcode_statement.proofs.{LineLemmas.lines_of-line, TokenLemmas.bare-is, OperandLemmas.{Spells-decimal, number_token}}}
use Rattle.redcode_statement.proofs.InstrLemmas.{both_tokens, instr_tokens, length-both, directive_of-line, line_by-line, lines_of-instr, length-line}
use Rattle.{redcode_names.specs.{Name.names_of}, redcode_names.proofs.Unchanged.tokens-same}
use Rattle.{redcode_expand.specs.{Walk.{ExpandedLine, walk_state, walk}, Expansion.{expansion, all_replaced}}, redcode_asm.specs.LoadText.load_text}
use Rattle.redcode_lines.specs.declared.line.LineKind.TheVariants as lines

-- ---- its lines

abbrev pub end_tokens : List Piece
end_tokens = piece TokenKind.Name (codes "END") ∷ []

abbrev pub org_tokens : ℕ → List Piece
org_tokens start = piece TokenKind.Name (codes "ORG") ∷ number_token (decimal start) ∷ []

-- a line of the source, its word the first token
abbrev source : ℕ → Word → List Piece → SourceLine
source n word tokens = source_line n LineForm.Statement (Some word) [] [] tokens

-- and one of the expanded source
abbrev pub line : ℕ → LineKind → Word → ℕ → List Piece → ExpandedLine
line n kind word before tokens = record { source_line = n; kind = kind; word = Some word; before = before; title = []; tokens = tokens }

-- the lines of the code and END, from this line number on
abbrev code_source : ℕ → ℕ → List Instr → List SourceLine
code_source core n [] = source n Word.End end_tokens ∷ []
code_source core n (i ∷ is) = source n (Word.Operation i.op) (instr_tokens core i) ∷ code_source core (n + 1) is

abbrev pub code_lines : ℕ → ℕ → ℕ → List Instr → List ExpandedLine
code_lines core n before [] = line n lines.End Word.End before end_tokens ∷ []
code_lines core n before (i ∷ is) = line n lines.Operation (Word.Operation i.op) before (instr_tokens core i) ∷ code_lines core (n + 1) (before + 1) is

abbrev pub load_lines : ℕ → WarriorParts → List ExpandedLine
load_lines core w = line 1 lines.Org Word.Org 0 (org_tokens w.start) ∷ code_lines core 2 0 w.code

-- ---- the source

-- a text without a ;redcode line that is these lines
abbrev ReadsAs : List ℕ → ℕ → List SourceLine → Type 0
ReadsAs text n source = (redcode_on (numbered_from n (lines_of text)) ≡ None) × (source_lines (numbered_from n (lines_of text)) ≡ source)

ReadsAs-code : (core n : ℕ) (code : List Instr) → AllByRecursion (HasNumbersBelow core) code → core ≤ 65535
    → ReadsAs (flat_map (instr_line core) code ++ codes "END\n") n (code_source core n code)
ReadsAs-code core n [] below most = (refl, refl)
ReadsAs-code core n (i ∷ is) below most =
    let others = flat_map (instr_line core) is ++ codes "END\n" in
    let cut = ap lines_of (append_assoc (instr_line core i) (flat_map (instr_line core) is) (codes "END\n")) ∙ lines_of-instr core i others below.0 most in
    let behind = ReadsAs-code core (n + 1) is below.1 most in
    (rw (cut, directive_of-line core i) behind.0, rw (cut, line_by-line core n i below.0 most, behind.1) refl)

statement_tokens-org : (start : ℕ) → start < 65536 → statement_tokens (codes "ORG " ++ decimal start) ≡ org_tokens start
statement_tokens-org start small =
    let number = simp append-nil at ((Spells-decimal start small).0.cut [] refl) in
    ap without_comment (bare-is (codes "ORG " ++ decimal start)) ∙ rw number refl

lines_of-load : (core : ℕ) (w : WarriorParts) → w.start < 65536
    → lines_of (load_text core w) ≡ (codes "ORG " ++ decimal w.start) ∷ lines_of (flat_map (instr_line core) w.code ++ codes "END\n")
unfolding load_text
lines_of-load core w small =
    let org = codes "ORG " ++ decimal w.start in
    let code = flat_map (instr_line core) w.code in
    ap lines_of (append_assoc (org ++ codes "\n") code (codes "END\n") ∙ append_assoc org (codes "\n") (code ++ codes "END\n"))
    ∙ lines_of-line org (code ++ codes "END\n") (Spells-decimal w.start small).0.in_line

ReadsAs-load : (core : ℕ) (w : WarriorParts) → AllByRecursion (HasNumbersBelow core) w.code → core ≤ 65535 → w.start < 65536
    → ReadsAs (load_text core w) 1 (source 1 Word.Org (org_tokens w.start) ∷ code_source core 2 w.code)
ReadsAs-load core w below most small =
    let behind = ReadsAs-code core 2 w.code below most in
    (rw (lines_of-load core w small) behind.0, rw (lines_of-load core w small, statement_tokens-org w.start small, behind.1) refl)

-- ---- the walk

-- the code counts, and END ends it
walk-code : (s : RawSettings) (n counted before : ℕ) (done : List ExpandedLine) (code : List Instr) → counted + length code < 4096
    → (counted_then : ℕ) × (before_then : ℕ) × (walk s [] (parsed (code_source s.core n code)).0 (walk_state counted before (names_of [] []) done false)
    ≡ Ok (walk_state counted_then before_then (names_of [] []) (done ++ code_lines s.core n before code) true))
walk-code s n counted before done [] few = (counted + 1, before, rw (lt-ltb counted 4096 (omega arith)) refl)
walk-code s n counted before done (i ∷ is) few =
    let first = line n lines.Operation (Word.Operation i.op) before (instr_tokens s.core i) in
    let rest = walk-code s (n + 1) (counted + 1) (before + 1) (done ++ first ∷ []) is (omega arith) in
    (rest.0, rest.1, rw (lt-ltb counted 4096 (omega arith)) (rest.2 ∙ rw (append_assoc done (first ∷ []) (code_lines s.core (n + 1) (before + 1) is)) refl))

-- ---- without an EQU the lines stay as they are

all_replaced-code : (core n before : ℕ) (code : List Instr) → all_replaced [] (code_lines core n before code) ≡ Ok (code_lines core n before code)
all_replaced-code core n before [] = rw (tokens-same n [] [] refl (omega arith)) refl
all_replaced-code core n before (i ∷ is) =
    let both = both_tokens core i in
    let front : suc (suc (suc (length both))) - length both ≡ 3 = omega arith in
    rw (tokens-same n [] both (grind arith) (omega (arith, length-both core i)), front, all_replaced-code core (n + 1) (before + 1) is) refl

-- ---- the expansion

-- the lines of the code have 24 bytes each
length-code : (core : ℕ) (code : List Instr) → AllByRecursion (HasNumbersBelow core) code → core ≤ 65535 → length (flat_map (instr_line core) code) ≡ 24 * length code
length-code core [] below most = refl
length-code core (i ∷ is) below most =
    omega (arith, length-append (instr_line core i) (flat_map (instr_line core) is), length-line core i below.0 most, length-code core is below.1 most)

-- a load text of few instructions is short
length-load_text : (core : ℕ) (w : WarriorParts) → AllByRecursion (HasNumbersBelow core) w.code → core ≤ 65535 → w.start < 65536 → length (load_text core w) ≤ 24 * length w.code + 15
unfolding load_text
length-load_text core w below most small =
    let number = (Spells-decimal w.start small).0.short in
    let code = length-code core w.code below most in
    grind (arith, length-append)

-- it expands to its lines
pub expansion-load_text : (s : RawSettings) (w : WarriorParts) → AllByRecursion (HasNumbersBelow s.core) w.code → s.core ≤ 65535 → w.start < 65536 → length w.code ≤ 200
    → expansion s (load_text s.core w) ≡ Ok (record { lines = load_lines s.core w; labels = [] })
unfolding expansion
expansion-load_text s w below most small few =
    let reads = ReadsAs-load s.core w below most small in
    let org = line 1 lines.Org Word.Org 0 (org_tokens w.start) in
    let walked = walk-code s 2 1 0 (org ∷ []) w.code (omega arith) in
    let short : length (load_text s.core w) ≤ 65536 = omega (arith, length-load_text s.core w below most small) in
    let replaced = tokens-same 1 [] (number_token (decimal w.start) ∷ []) refl (omega arith) in
    rw (le-ltb 65536 (length (load_text s.core w)) short, reads.0, reads.1, walked.2, replaced, all_replaced-code s.core 2 0 w.code) refl
