-- A source without FOR and EQU: its lines are read once, and that takes no more than its bytes.
use Rattle.std.proofs.Common.{ℕ, zero, suc, ◌+◌, ◌-◌, ◌/◌, ◌≤◌, min, Bool, List, [], ◌∷◌, ◌++◌, length, map, take, Option, Some, None, ◌≡◌, refl, unwrap_or, arith, length-drop, length-take}
use Rattle.std.proofs.{Common.{inl, inr}, lemmas.Bool.cases_Bool}
use Rattle.{std.specs.Bool.⊤, war_types.specs.Title.{after_blanks, is_blank}, redcode_text.specs.Tokens.{pieces_of, rest_of_token, tokens_after, without_place}}
use Rattle.redcode_lines.specs.{declared.source.Directive.Directive, Source.{NumberedLine, directive_from, directive_of, is_redcode, lines_of, live_lines, numbered_from, onto_first, redcode_on, remark_of}}
use Rattle.redcode_lines.specs.{Line.{dropped_while, is_front, is_no_comment, line_word, statement_by, statement_tokens, taken_while, tokens_read}, Block.{line_by, statement_line}}
use Rattle.redcode_expand.{specs.Steps.{reads, token_steps}, proofs.Words.{Piece, SourceLine, Word, source_lines}}
use Rattle.redcode_text.specs.declared.vocabulary.Word.TheVariants as words

-- ---- the tokens of a line

few-behind : (r long cost : ℕ) → cost ≤ long - r → 1 + (1 + min r long) / 32 + cost ≤ suc long
few-behind r long cost few = omega (arith, few)

tokens-few : (bytes skip : ℕ) (line : List ℕ) → token_steps (map without_place (tokens_after bytes skip line)) ≤ length line - skip
tokens-few bytes skip [] = omega arith
tokens-few bytes (suc skip) (b ∷ bs) = omega (arith, tokens-few bytes skip bs)
tokens-few bytes zero (b ∷ bs) = elim (cases_Bool (is_blank b)) [
  | inl blank ↦ rw blank (omega (arith, tokens-few bytes 0 bs))
  | inr other ↦
      let r = rest_of_token b bs in
      rw other (omega (arith, few-behind r (length bs) _ (tokens-few bytes r bs), length-take r bs))
]

taken-few : (test : Piece → Bool) (ts : List Piece) → token_steps (taken_while test ts) ≤ token_steps ts
taken-few test [] = omega arith
taken-few test (t ∷ ts) = elim (cases_Bool (test t)) [
  | inl is ↦ rw is (omega (arith, taken-few test ts))
  | inr not ↦ rw not (omega arith)
]

parts-few : (test : Piece → Bool) (ts : List Piece) → token_steps (taken_while test ts) + token_steps (dropped_while test ts) ≡ token_steps ts
parts-few test [] = refl
parts-few test (t ∷ ts) = elim (cases_Bool (test t)) [
  | inl is ↦ rw is (omega (arith, parts-few test ts))
  | inr not ↦ rw not (omega arith)
]

statement-few : (text : List ℕ) → token_steps (statement_tokens text) ≤ length text
statement-few text = omega (arith, taken-few is_no_comment (pieces_of text), tokens-few (length text) 0 text)

first-few : (ts : List Piece) → token_steps (take 1 ts) ≤ token_steps ts
first-few [] = omega arith
first-few (t ∷ ts) = omega arith

-- of a ROF its word alone is read
read-few : (word : Word) (ts : List Piece) → token_steps (tokens_read (Some word) ts) ≤ token_steps ts
read-few (words.Operation op) ts = omega arith
read-few words.Pspace ts = omega arith
read-few words.Equ ts = omega arith
read-few words.For ts = omega arith
read-few words.Rof ts = first-few ts
read-few words.Org ts = omega arith
read-few words.End ts = omega arith
read-few words.Pin ts = omega arith

by-word : (n : ℕ) (word : Option Word) (ts : List Piece) → token_steps (statement_by n word ts).front + token_steps (statement_by n word ts).tokens ≤ token_steps ts
by-word n None ts = omega arith
by-word n (Some word) ts = omega (arith, parts-few is_front ts, read-few word (dropped_while is_front ts))

statement-reads : (n : ℕ) (ts : List Piece) → reads (statement_line n ts) ≤ 1 + token_steps ts
statement-reads n [] = omega arith
statement-reads n (t ∷ ts) = omega (arith, by-word n (line_word (t ∷ ts)) (t ∷ ts))

-- ---- the lines of a source

abbrev IsWithin : ℕ → Option (Directive × List ℕ) → Type 0
IsWithin n None = ⊤
IsWithin n (Some found) = length found.1 ≤ n

remark-within : (text : List ℕ) → length (remark_of text).1 ≤ length text
remark-within text = grind (arith, length-drop)

from-within : (text : List ℕ) (n : ℕ) → length text ≤ n → IsWithin n (directive_from text)
from-within [] n few = tt
from-within (b ∷ bs) n few = grind (arith, remark-within)

blanks-few : (text : List ℕ) → length (after_blanks text) ≤ length text
blanks-few [] = omega arith
blanks-few (b ∷ bs) = grind (arith, blanks-few bs)

line-by : (n : ℕ) (text : List ℕ) (found : Option (Directive × List ℕ)) → IsWithin (length text) found → reads (line_by n text found) ≤ 1 + length text
line-by n text None few = omega (arith, statement-reads n (statement_tokens text), statement-few text)
line-by n text (Some (Directive.Redcode, t)) few = omega arith
line-by n text (Some (Directive.Remark, t)) few = omega arith
line-by n text (Some (Directive.Name, t)) few = omega arith
line-by n text (Some (Directive.Author, t)) few = omega arith
line-by n text (Some (Directive.Assert, t)) few = omega (arith, few, statement-few t)

line-few : (n : ℕ) (text : List ℕ) → reads (line_by n text (directive_of text)) ≤ 1 + length text
line-few n text = line-by n text (directive_of text) (from-within (after_blanks text) (length text) (blanks-few text))

reads-both : (xs ys : List SourceLine) → reads (xs ++ ys) ≡ reads xs + reads ys
reads-both [] ys = omega arith
reads-both (x ∷ xs) ys = omega (arith, reads-both xs ys)

-- the bytes of lines, each with its line feed
abbrev bytes_with_ends : List (List ℕ) → ℕ
bytes_with_ends [] = 0
bytes_with_ends (line ∷ lines) = 1 + length line + bytes_with_ends lines

onto-few : (b : ℕ) (lines : List (List ℕ)) (n : ℕ) → bytes_with_ends lines ≤ n + 1 → bytes_with_ends (onto_first b lines) ≤ n + 2
onto-few b [] n few = omega arith
onto-few b (line ∷ lines) n few = omega (arith, few)

lines-few : (bs : List ℕ) → bytes_with_ends (lines_of bs) ≤ length bs + 1
lines-few [] = omega arith
lines-few (b ∷ bs) = grind (arith, lines-few bs, onto-few)

numbered-few : (n : ℕ) (lines : List (List ℕ)) → reads (source_lines (numbered_from n lines)) ≤ bytes_with_ends lines
numbered-few n [] = omega arith
numbered-few n (line ∷ lines) =
    omega (arith, line-few n line, numbered-few (n + 1) lines, reads-both (line_by n line (directive_of line)) (source_lines (numbered_from (n + 1) lines)))

abbrev TakeFewer : ℕ → Option (List NumberedLine) → Type 0
TakeFewer n None = ⊤
TakeFewer n (Some lines) = reads (source_lines lines) ≤ n

fewer-still : (found : Option (List NumberedLine)) (n m : ℕ) → TakeFewer n found → n ≤ m → TakeFewer m found
fewer-still None n m few less = tt
fewer-still (Some lines) n m few less = omega (arith, few, less)

redcode-few : (lines : List NumberedLine) → TakeFewer (reads (source_lines lines)) (redcode_on lines)
redcode-few [] = tt
redcode-few (line ∷ lines) = elim (cases_Bool (is_redcode (directive_of line.text))) [
  | inl here ↦ rw here (omega arith)
  | inr later ↦ rw later (
      fewer-still (redcode_on lines) (reads (source_lines lines)) _ (redcode-few lines)
      (omega (arith, reads-both (line_by line.number line.text (directive_of line.text)) (source_lines lines))))
]

or-all : (found : Option (List NumberedLine)) (all : List NumberedLine) → TakeFewer (reads (source_lines all)) found → reads (source_lines (unwrap_or found all)) ≤ reads (source_lines all)
or-all None all few = omega arith
or-all (Some lines) all few = few

-- a source is read in a step for each byte, and one more
pub reads-few : (source : List ℕ) → reads (source_lines (live_lines source)) ≤ length source + 1
reads-few source =
    let all = numbered_from 1 (lines_of source) in
    omega (arith, or-all (redcode_on all) all (redcode-few all), numbered-few 1 (lines_of source), lines-few source)
