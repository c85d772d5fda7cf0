-- What is shown of an expansion gives the same warrior, or the same refusal.
use Rattle.std.proofs.Common.{◌≡◌, ℕ, zero, suc, Bool, ◌||◌, List, [], ◌∷◌, ◌++◌, take, drop, Option, Result, Ok, Err, refl, sym, ap, ◌∙◌, arith}
use Rattle.{std.specs.{List.list_any, Option.option_or}, war_types.specs.{declared.fault.AsmFault.AsmFault, declared.settings.RawSettings.RawSettings}}
use Rattle.{redcode_text.specs.Tokens.Piece, redcode_lines.specs.{Line.is_bad, declared.line.LineKind.LineKind}, redcode_statement.specs.Chain.◌>>=◌, redcode_names.specs.{Name.LabelList, Gives.Fails}}
use Rattle.redcode_expand.specs.{Expansion.{Expansion, ExpandedLine, expansion}, Cut.{cut_tokens, first_bad, shown, shown_line, shown_lines, with_shown}}
use Rattle.redcode_asm.specs.{Said.{said_by, statement_of}, Assembly.{Placed, all_said, last_text, title_if, is_name, is_author, assembly, assembly_of, warrior_said}}
use Rattle.redcode_lines.specs.declared.line.LineKind.TheVariants as lines

bad-first : (ts : List Piece) → list_any is_bad (first_bad ts) ≡ list_any is_bad ts
bad-first [] = refl
bad-first (t ∷ ts) = grind (arith, bad-first ts)

bad-among : (n : ℕ) (ts : List Piece) → list_any is_bad (take n ts ++ first_bad (drop n ts)) ≡ list_any is_bad ts
bad-among zero ts = bad-first ts
bad-among (suc n) [] = refl
bad-among (suc n) (t ∷ ts) = ap (λ (b : Bool). is_bad t || b) (bad-among n ts)

statement-shown : (s : RawSettings) (labels : LabelList) (kind : LineKind) (line : ExpandedLine) → line.kind ≡ kind → statement_of s labels (shown_line line) ≡ statement_of s labels line
unfolding said_by cut_tokens
statement-shown s labels lines.Name line is = rw (is, bad-among 516 line.tokens) refl
statement-shown s labels lines.Author line is = rw (is, bad-among 516 line.tokens) refl
statement-shown s labels lines.Other line is = rw (is, bad-among 516 line.tokens) refl
statement-shown s labels _ line is = rw is refl

said-shown : (s : RawSettings) (labels : LabelList) (ls : List ExpandedLine) → all_said s labels (shown_lines ls) ≡ all_said s labels ls
said-shown s labels [] = refl
said-shown s labels (l ∷ ls) = rw (statement-shown s labels l.kind l refl, said-shown s labels ls) refl

text-shown : (is_kind : LineKind → Bool) (ls : List ExpandedLine) → last_text is_kind (shown_lines ls) ≡ last_text is_kind ls
text-shown is_kind [] = refl
text-shown is_kind (l ∷ ls) = ap (λ (o : Option (List ℕ)). option_or o (title_if (is_kind l.kind) l.title)) (text-shown is_kind ls)

then-shown : (s : RawSettings) (ls : List ExpandedLine) (m : Result (List Placed) AsmFault) → m >>= warrior_said s (shown_lines ls) ≡ m >>= warrior_said s ls
then-shown s ls (Ok said) = rw (text-shown is_name ls, text-shown is_author ls) refl
then-shown s ls (Err fault) = refl

assembly-shown : (s : RawSettings) (e : Expansion) → assembly_of s (shown e) ≡ assembly_of s e
assembly-shown s e = rw (said-shown s e.labels e.lines) (then-shown s e.lines (all_said s e.labels e.lines))

by-shown : (s : RawSettings) (m : Result Expansion AsmFault) (e : Expansion) → with_shown m ≡ Ok (shown e) → m >>= assembly_of s ≡ assembly_of s e
by-shown s (Ok b) e is =
    let same : shown b ≡ shown e = cc in
    sym (assembly-shown s b) ∙ ap (assembly_of s) same ∙ assembly-shown s e
by-shown s (Err fault) e is = absurd cc

-- an expansion that shows what is due gives the warrior that is due
pub assembly-due : (s : RawSettings) (source : List ℕ) (e : Expansion) → with_shown (expansion s source) ≡ Ok (shown e) → assembly s source ≡ assembly_of s e
unfolding assembly
assembly-due s source e is = by-shown s (expansion s source) e is

-- and one that fails the refusal
pub assembly-fails : (s : RawSettings) (source : List ℕ) (fault : AsmFault) → Fails fault (with_shown (expansion s source)) → Fails fault (assembly s source)
unfolding assembly
assembly-fails s source fault h = grind arith
