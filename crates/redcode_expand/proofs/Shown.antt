-- An expansion of a walk that is cut: the same is shown of it, and its addresses count instructions.
use Rattle.std.proofs.Common.{◌≡◌, ℕ, zero, suc, ◌+◌, ◌≤◌, nat_lt, List, [], ◌∷◌, ◌++◌, length, take, Result, Ok, Err, refl, sym, ap, ◌∙◌, subst, arith, inl, inr}
use Rattle.std.{proofs.{lemmas.Bool.{cases_Bool, ltb-true, ltb-false}, lemmas.List.length-map}, specs.{Bool.⊤, Result.IfOk}}
use Rattle.{war_types.specs.declared.fault.AsmKind.AsmKind, redcode_lines.specs.Operand.operands_of}
use Rattle.{redcode_names.specs.{Gives.{◌>>=◌, fault_at, Gives}, Cut.cut_equs, Name.address_of}, redcode_names.proofs.Cut.replaced-cut}
use Rattle.redcode_expand.specs.{Walk.{ExpandedLine, WalkState}, Expansion.{Expansion, all_replaced, before_operands, expansion, finished, line_replaced}, Laws.{instruction_of, instructions, before_at, AreCounted}}
use Rattle.redcode_expand.specs.Cut.{cut_line, cut_lines, cut_walk, kept_tokens, with_cut, shown, shown_line, shown_lines, shown_tokens, with_shown}
use Rattle.redcode_expand.proofs.{Cut.{kept-short, kept-long, tokens-twice}, Counted.{Holds, expansion-counted}, Unchanged.{line-same, replaced-long}, Words.{AsmFault, RawSettings, Piece, LabelList, EquList, LineKind}}
use Rattle.redcode_lines.specs.declared.line.LineKind.TheVariants as lines

-- ---- a line

abbrev Lines : Type 0
Lines = Result (List ExpandedLine) AsmFault

abbrev shown_one : Result ExpandedLine AsmFault → Result ExpandedLine AsmFault
shown_one found = found >>= λ line. Ok (shown_line line)

-- the lines whose operands are limited
abbrev IsLimited : LineKind → Type 0
IsLimited lines.Operation = ⊤
IsLimited lines.Org = ⊤
IsLimited lines.End = ⊤
IsLimited lines.Assert = ⊤
IsLimited _ = ⊥

line-long : (equs : EquList) (line : ExpandedLine) → IsLimited line.kind → 516 ≤ length line.tokens → line_replaced equs line ≡ Err (fault_at line.source_line AsmKind.EquLimit)
line-long equs line h1 h2 = grind (arith, replaced-long)

line-short : (equs : EquList) (line : ExpandedLine) → length line.tokens ≤ 516 → line_replaced (cut_equs equs) (cut_line line) ≡ line_replaced equs line
line-short equs line short =
    ap (λ (ts : List Piece). line_replaced (cut_equs equs) (record line { tokens = ts })) (kept-short line.kind line.tokens short)
    ∙ ap (λ (r : Result (List Piece) AsmFault). r >>= λ operands. Ok (record line { tokens = before_operands line.kind line.tokens ++ operands }))
    (replaced-cut line.source_line equs (operands_of line.kind line.tokens))

limited-shown : (equs : EquList) (line : ExpandedLine) → IsLimited line.kind → shown_one (line_replaced (cut_equs equs) (cut_line line)) ≡ shown_one (line_replaced equs line)
limited-shown equs line is = elim (cases_Bool (nat_lt 516 (length line.tokens))) [
  | inl long ↦
      let many : 516 ≤ length line.tokens = omega (arith, ltb-true 516 (length line.tokens) long) in
      ap shown_one (line-long (cut_equs equs) (cut_line line) is (kept-long line.kind line.tokens many) ∙ sym (line-long equs line is many))
  | inr short ↦ ap shown_one (line-short equs line (ltb-false 516 (length line.tokens) short))
]

-- a line without operands
other-shown : (equs : EquList) (line : ExpandedLine) → operands_of line.kind line.tokens ≡ [] → operands_of line.kind (kept_tokens line.kind line.tokens) ≡ []
    → shown_tokens line.kind (kept_tokens line.kind line.tokens) ≡ shown_tokens line.kind line.tokens → shown_one (line_replaced (cut_equs equs) (cut_line line)) ≡ shown_one (line_replaced equs line)
other-shown equs line none none-cut same =
    ap shown_one (line-same (cut_equs equs) (cut_line line) [] (sym none-cut) refl (omega arith))
    ∙ ap (λ (ts : List Piece). Ok (record line { tokens = ts })) same
    ∙ sym (ap shown_one (line-same equs line [] (sym none) refl (omega arith)))

shown-by : (equs : EquList) (kind : LineKind) (line : ExpandedLine) → line.kind ≡ kind → shown_one (line_replaced (cut_equs equs) (cut_line line)) ≡ shown_one (line_replaced equs line)
unfolding kept_tokens
shown-by equs lines.Operation line is = limited-shown equs line (subst IsLimited (sym is) tt)
shown-by equs lines.Org line is = limited-shown equs line (subst IsLimited (sym is) tt)
shown-by equs lines.End line is = limited-shown equs line (subst IsLimited (sym is) tt)
shown-by equs lines.Assert line is = limited-shown equs line (subst IsLimited (sym is) tt)
shown-by equs lines.Name line is = other-shown equs line (rw is refl) (rw is refl) (rw is (tokens-twice line.tokens))
shown-by equs lines.Author line is = other-shown equs line (rw is refl) (rw is refl) (rw is (tokens-twice line.tokens))
shown-by equs lines.Other line is = other-shown equs line (rw is refl) (rw is refl) (rw is (tokens-twice line.tokens))

-- ---- all lines

abbrev shown_all : Lines → Lines
shown_all found = found >>= λ all. Ok (shown_lines all)

all-bound : (m m' : Result ExpandedLine AsmFault) (n n' : Lines) → shown_one m ≡ shown_one m' → shown_all n ≡ shown_all n'
    → shown_all (m >>= λ first. n >>= λ behind. Ok (first ∷ behind)) ≡ shown_all (m' >>= λ first. n' >>= λ behind. Ok (first ∷ behind))
all-bound m m' n n' h1 h2 = grind arith

all-shown : (equs : EquList) (ls : List ExpandedLine) → shown_all (all_replaced (cut_equs equs) (cut_lines ls)) ≡ shown_all (all_replaced equs ls)
all-shown equs [] = refl
all-shown equs (line ∷ ls) =
    all-bound (line_replaced (cut_equs equs) (cut_line line)) (line_replaced equs line) (all_replaced (cut_equs equs) (cut_lines ls)) (all_replaced equs ls)
    (shown-by equs line.kind line refl) (all-shown equs ls)

with-labels : (labels : LabelList) (m : Lines) → with_shown (m >>= λ made. Ok (record { lines = made; labels = labels })) ≡ shown_all m >>= λ made. Ok (record { lines = made; labels = labels })
with-labels labels (Ok made) = refl
with-labels labels (Err fault) = refl

finished-cut : (st : WalkState) → with_shown (finished (cut_walk st)) ≡ with_shown (finished st)
finished-cut st =
    with-labels st.names.labels (all_replaced (cut_equs st.names.equs) (cut_lines st.lines))
    ∙ ap (λ (m : Lines). m >>= λ made. Ok (record { lines = made; labels = st.names.labels })) (all-shown st.names.equs st.lines)
    ∙ sym (with-labels st.names.labels (all_replaced st.names.equs st.lines))

-- what is shown of a walk that is one of lines and EQUs that are cut
pub shown-found : (m : Result WalkState AsmFault) (walk : WalkState) (result : Result Expansion AsmFault) → with_cut m ≡ Ok (cut_walk walk) → Gives (λ e. e) result (finished walk)
    → Gives shown result (with_shown (m >>= finished))
shown-found (Ok st) walk result is gives =
    let same : cut_walk st ≡ cut_walk walk = cc in
    let due : with_shown (finished walk) ≡ with_shown (finished st) = sym (finished-cut walk) ∙ ap (λ (w : WalkState). with_shown (finished w)) (sym same) ∙ finished-cut st in
    subst (Gives shown result) due (seen result (finished walk) gives)
  where
    seen : (result due : Result Expansion AsmFault) → Gives (λ e. e) result due → Gives shown result (with_shown due)
    seen result due h = grind arith
shown-found (Err fault) walk result is gives = absurd cc

-- ---- addresses

before-shown : (ls : List ExpandedLine) (i : ℕ) → before_at (shown_lines ls) i ≡ before_at ls i
before-shown [] i = refl
before-shown (l ∷ ls) zero = refl
before-shown (l ∷ ls) (suc i) = before-shown ls i

instructions-shown : (ls : List ExpandedLine) (i : ℕ) → instructions (take i (shown_lines ls)) ≡ instructions (take i ls)
instructions-shown ls zero = refl
instructions-shown [] (suc i) = refl
instructions-shown (l ∷ ls) (suc i) = ap (λ (n : ℕ). instruction_of l.kind + n) (instructions-shown ls i)

-- an expansion of which the same is shown
same-counted : (a b : Expansion) → shown a ≡ shown b → AreCounted b → AreCounted a
same-counted a b same are =
    let room : length a.lines ≡ length b.lines = sym (length-map a.lines shown_line) ∙ ap (λ (e : Expansion). length e.lines) same ∙ length-map b.lines shown_line in
    let taken : (i : ℕ) → instructions (take i b.lines) ≡ instructions (take i a.lines) = λ (i : ℕ).
    sym (instructions-shown b.lines i) ∙ ap (λ (e : Expansion). instructions (take i e.lines)) (sym same) ∙ instructions-shown a.lines i in
    record {
      before = λ i some.
          sym (before-shown a.lines i) ∙ ap (λ (e : Expansion). before_at e.lines i) same ∙ before-shown b.lines i ∙ are.before i (omega (arith, some, room)) ∙ taken i;
      labels = λ name address is.
          let place = are.labels name address (ap (λ (e : Expansion). address_of e.labels name) (sym same) ∙ is) in
          record { behind = place.behind; within = omega (arith, place.within, room); counts = place.counts ∙ taken place.behind };
    }

by-shown : (m result : Result Expansion AsmFault) → Holds AreCounted m → Gives shown result (with_shown m) → IfOk result AreCounted
by-shown (Ok b) (Ok e) are is = let same : shown e ≡ shown b = cc in same-counted e b same are
by-shown (Ok b) (Err fault) are is = tt
by-shown (Err other) (Ok e) are is = absurd cc
by-shown (Err other) (Err fault) are is = tt

-- what is expanded is counted
pub if-counted : (s : RawSettings) (source : List ℕ) (result : Result Expansion AsmFault) → Gives shown result (with_shown (expansion s source)) → IfOk result AreCounted
if-counted s source result is = by-shown (expansion s source) result (expansion-counted s source) is
