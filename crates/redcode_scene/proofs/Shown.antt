-- What is shown of an expansion has the faults that are due.
use Rattle.std.proofs.Common.{◌≡◌, ℕ, zero, suc, Bool, ◌||◌, List, [], ◌∷◌, ◌++◌, take, drop, Option, Some, None, Result, Ok, Err, refl, sym, ap, ◌∙◌, inl, inr}
use Rattle.{std.proofs.lemmas.Bool.cases_Bool, std.specs.List.list_any, war_types.specs.{declared.fault.AsmFault.AsmFault, declared.settings.RawSettings.RawSettings}}
use Rattle.{redcode_text.specs.Tokens.Piece, redcode_lines.specs.{Line.is_bad, declared.line.LineKind.LineKind}, redcode_names.specs.Name.LabelList}
use Rattle.redcode_expand.specs.{Expansion.{Expansion, ExpandedLine, expansion}, Cut.{cut_tokens, first_bad, shown, shown_line, shown_lines, with_shown}}
use Rattle.{redcode_asm.specs.Said.{said_by, statement_of}, redcode_scene.specs.Faults.{Knows, KnowsOf, fault_of, fault_said, faults_from, faults_in, faults_known, faults_of, with_fault}}
use Rattle.redcode_lines.specs.declared.line.LineKind.TheVariants as lines

bad-first : (ts : List Piece) → list_any is_bad (first_bad ts) ≡ list_any is_bad ts
bad-first [] = refl
bad-first (t ∷ ts) = elim (cases_Bool (is_bad t)) [
  | inl bad ↦ rw (bad, bad) refl
  | inr good ↦ rw good (bad-first ts)
]

bad-among : (n : ℕ) (ts : List Piece) → list_any is_bad (take n ts ++ first_bad (drop n ts)) ≡ list_any is_bad ts
bad-among zero ts = bad-first ts
bad-among (suc n) [] = refl
bad-among (suc n) (t ∷ ts) = ap (λ (b : Bool). is_bad t || b) (bad-among n ts)

statement-shown : (s : RawSettings) (labels : LabelList) (kind : LineKind) (line : ExpandedLine) → line.kind ≡ kind → statement_of s labels (shown_line line) ≡ statement_of s labels line
unfolding said_by cut_tokens
statement-shown s labels lines.Operation line is = rw is refl
statement-shown s labels lines.Org line is = rw is refl
statement-shown s labels lines.End line is = rw is refl
statement-shown s labels lines.Assert line is = rw is refl
statement-shown s labels lines.Name line is = rw (is, bad-among 516 line.tokens) refl
statement-shown s labels lines.Author line is = rw (is, bad-among 516 line.tokens) refl
statement-shown s labels lines.Other line is = rw (is, bad-among 516 line.tokens) refl

faults-shown : (s : RawSettings) (labels : LabelList) (faults : List AsmFault) (ls : List ExpandedLine) → faults_from s labels faults (shown_lines ls) ≡ faults_from s labels faults ls
faults-shown s labels faults [] = refl
faults-shown s labels faults (l ∷ ls) =
    faults-shown s labels (with_fault faults l.source_line (fault_of s labels (shown_line l))) ls
    ∙ ap (λ (said : _). faults_from s labels (with_fault faults l.source_line (fault_said said)) ls) (statement-shown s labels l.kind l refl)

by-shown : (s : RawSettings) (first : AsmFault) (m : Result Expansion AsmFault) (e : Expansion) → with_shown m ≡ Ok (shown e) → faults_from s e.labels (first ∷ []) e.lines ≡ faults_in s first m
by-shown s first (Ok b) e is =
    let same : shown b ≡ shown e = cc in
    sym (faults-shown s e.labels (first ∷ []) e.lines) ∙ ap (λ (x : Expansion). faults_from s x.labels (first ∷ []) x.lines) (sym same) ∙ faults-shown s b.labels (first ∷ []) b.lines
by-shown s first (Err fault) e is = absurd cc

by-known : (s : RawSettings) (first : AsmFault) (m : Result Expansion AsmFault) (known : Option Expansion) → Knows known (with_shown m) → faults_known s first known ≡ faults_in s first m
by-known s first m (Some e) is = by-shown s first m e is
by-known s first (Err fault) None is = refl
by-known s first (Ok b) None is = absurd cc

-- the faults that are told of what is known are those that are due
pub faults-due : (s : RawSettings) (source : List ℕ) (first : AsmFault) (known : Option Expansion) → KnowsOf s source known → faults_known s first known ≡ faults_of s source first
faults-due s source first known knows = by-known s first (expansion s source) known knows
