-- The steps of a walk whose lines and EQUs are cut are the same.
use Rattle.std.proofs.Common.{◌≡◌, ℕ, zero, suc, ◌+◌, ◌<◌, ◌≤◌, nat_lt, if◌then◌else◌, List, [], ◌∷◌, ◌++◌, length, drop, Result, Ok, Err, refl, sym, ap, ap₂, ◌∙◌, arith, lt-ltb, subst}
use Rattle.std.proofs.{Common.{inl, inr}, lemmas.Bool.{cases_Bool, ltb-true, ltb-false}}
use Rattle.{redcode_names.specs.Gives.◌>>=◌, redcode_names.specs.{Cut.cut_equs}, redcode_names.proofs.Steps.replacing-cut, redcode_lines.specs.Operand.operands_of, std.specs.Bool.⊤}
use Rattle.redcode_expand.specs.{Cut.{cut_line, cut_lines, cut_walk, kept_tokens, with_cut}, Rest.{OpenBlock, counters_of}, Left.{behind_steps, more_steps, rest_steps}}
use Rattle.redcode_expand.specs.Walk.{ExpandedLine, WalkState, Begun, begun, begun_as, begun_of, closed, copied, step}
use Rattle.redcode_expand.specs.Taken.{copies_steps, count_steps, end_steps, finish_steps, going, line_steps, lines_steps, then_steps, unmatched_steps, visited, visited_for, walk_steps}
use Rattle.redcode_expand.proofs.Words.{AsmFault, RawSettings, Walked, Piece, SourceLine, Counter, counter_of, in_copies, EquList, LineKind, Blocks, Parsed, parsed, finish, one_line, block, open_for}
use Rattle.redcode_expand.proofs.Cut.{begun-cut, closed-cut, copied-cut, kept-long, kept-short, step-cut}
use Rattle.redcode_lines.specs.declared.line.LineKind.TheVariants as lines

-- ---- steps one after another

abbrev pub Even : (WalkState → ℕ) → Type 0
Even f = (st : WalkState) → f (cut_walk st) ≡ f st

pub same-then : (m m' : Walked) (g : WalkState → ℕ) → with_cut m ≡ with_cut m' → Even g → then_steps m g ≡ then_steps m' g
same-then (Ok a) (Ok b) g same even = let is : cut_walk a ≡ cut_walk b = cc in sym (even a) ∙ ap g is ∙ even b
same-then (Ok a) (Err fault) g same even = absurd cc
same-then (Err fault) (Ok b) g same even = absurd cc
same-then (Err fault) (Err other) g same even = refl

even-going : (f : WalkState → ℕ) → Even f → Even (going f)
even-going f even st = ap (λ (n : ℕ). if st.ended then 0 else n) (even st)

even-copies : (body : ℕ → (WalkState → ℕ) → WalkState → ℕ) → ((n : ℕ) (rest : WalkState → ℕ) → Even rest → Even (body n rest)) → (line ends k n : ℕ) (rest : WalkState → ℕ) → Even rest
    → Even (copies_steps body line ends k n rest)
even-copies body each line ends zero n rest even st = even st
even-copies body each line ends (suc k) n rest even st =
    let others : WalkState → ℕ = copies_steps body line ends k (n + 1) rest in
    each n (going (λ now. ends + then_steps (copied line st.counted now) others))
    (even-going (λ now. ends + then_steps (copied line st.counted now) others)
    (λ now. ap (λ (m : ℕ). ends + m) (same-then (copied line st.counted (cut_walk now)) (copied line st.counted now) others (copied-cut line st.counted now) (even-copies body each line ends k (n + 1) rest even)))) st

even-begun : (m : Result Begun AsmFault) (next : Begun → ℕ) → ((st : WalkState) (name : List ℕ) (n : ℕ) → next (begun_as (cut_walk st) name n) ≡ next (begun_as st name n))
    → then_steps (m >>= (λ b. Ok (begun_as (cut_walk b.state) b.counter b.copies))) next ≡ then_steps m next
even-begun (Ok b) next even = even b.state b.counter b.copies
even-begun (Err fault) next even = refl

even-walk : (s : RawSettings) (cs : List Counter) (blocks : Blocks) (rest : WalkState → ℕ) → Even rest → Even (walk_steps s cs blocks rest)
even-walk s cs finish rest even st = even st
even-walk s cs (one_line line others) rest even st =
    even-going (λ st. visited (length cs) line + then_steps (step s cs line st) (walk_steps s cs others rest))
    (λ now. ap (λ (m : ℕ). visited (length cs) line + m)
    (same-then (step s cs line (cut_walk now)) (step s cs line now) (walk_steps s cs others rest) (step-cut s cs line now) (even-walk s cs others rest even))) st
even-walk s cs (block for body rof others) rest even st =
    let after : WalkState → ℕ = λ now. then_steps (closed s cs rof now) (walk_steps s cs others rest) in
    let inner : List ℕ → ℕ → (WalkState → ℕ) → WalkState → ℕ = λ name number. walk_steps s (cs ++ counter_of name number ∷ []) body in
    let next : Begun → ℕ = λ b. copies_steps (inner b.counter) for.number (end_steps cs b.counter rof) b.copies 1 after b.state in
    let even-after : Even after = λ now.
    same-then (closed s cs rof (cut_walk now)) (closed s cs rof now) (walk_steps s cs others rest) (closed-cut s cs rof now) (even-walk s cs others rest even) in
    even-going (λ st. visited_for (length cs) for rof + (count_steps cs for st + then_steps (begun s cs for st) next))
    (λ now. ap₂ (λ (a b : ℕ). visited_for (length cs) for rof + (a + b)) (replacing-cut now.names.equs (drop 1 (in_copies cs for).tokens))
    (ap (λ (m : Result Begun AsmFault). then_steps m next) (begun-cut s (in_copies cs for) now)
    ∙ even-begun (begun_of s (in_copies cs for) now) next (λ begins name n.
    even-copies (inner name) (λ k more ev. even-walk s (cs ++ counter_of name k ∷ []) body more ev) for.number (end_steps cs name rof) n 1 after even-after begins))) st
even-walk s cs (open_for for) rest even st = even-going (λ st. visited (length cs) for) (λ now. refl) st

even-behind : (s : RawSettings) (ls : List SourceLine) (bs : List OpenBlock) (rofs : List (SourceLine × Blocks)) → Even (behind_steps s ls bs rofs)
even-behind s ls [] rofs st = even-going (λ st. unmatched_steps rofs) (λ now. refl) st
even-behind s ls (b ∷ bs) [] st = refl
even-behind s ls (b ∷ bs) (rof ∷ rofs) st =
    let cs : List Counter = counters_of bs in
    let ends : ℕ = end_steps cs b.counter.name rof.0 in
    let others : WalkState → ℕ = walk_steps s cs rof.1 (behind_steps s ls bs rofs) in
    let after : WalkState → ℕ = λ now. then_steps (closed s cs rof.0 now) others in
    let even-after : Even after = λ now.
    same-then (closed s cs rof.0 (cut_walk now)) (closed s cs rof.0 now) others (closed-cut s cs rof.0 now) (even-walk s cs rof.1 (behind_steps s ls bs rofs) (even-behind s ls bs rofs)) in
    let more : WalkState → ℕ = more_steps s ls bs b ends after in
    even-going (λ now. ends + then_steps (copied b.number b.start now) more)
    (λ now. ap (λ (m : ℕ). ends + m)
    (same-then (copied b.number b.start (cut_walk now)) (copied b.number b.start now) more (copied-cut b.number b.start now)
    (even-copies _ (λ k rest ev. even-walk s (cs ++ counter_of b.counter.name k ∷ []) (parsed (drop b.body ls)).0 rest ev) b.number ends b.left (b.counter.number + 1) after even-after))) st

pub even-rest : (s : RawSettings) (ls : List SourceLine) (bs : List OpenBlock) (left : Parsed) → Even (rest_steps s ls bs left)
even-rest s ls bs left st = even-walk s (counters_of bs) left.0 (behind_steps s ls bs left.1) (even-behind s ls bs left.1) st

-- ---- the lines that were written out

abbrev IsLimited : LineKind → Type 0
IsLimited lines.Operation = ⊤
IsLimited lines.Org = ⊤
IsLimited lines.End = ⊤
IsLimited lines.Assert = ⊤
IsLimited _ = ⊥

many-operands : (kind : LineKind) (ts : List Piece) → IsLimited kind → 516 ≤ length ts → 512 < length (operands_of kind ts)
many-operands kind ts h1 h2 = grind arith

line-many : (equs : EquList) (line : ExpandedLine) → 512 < length (operands_of line.kind line.tokens) → line_steps equs line ≡ 0
line-many equs line many = rw (lt-ltb 512 (length (operands_of line.kind line.tokens)) many) refl

with-tokens : (equs : EquList) (line : ExpandedLine) (ts : List Piece) → ts ≡ line.tokens → line_steps (cut_equs equs) (record line { tokens = ts }) ≡ line_steps equs line
with-tokens equs line ts same =
    let operands : List Piece = operands_of line.kind line.tokens in
    ap (λ (us : List Piece). line_steps (cut_equs equs) (record line { tokens = us })) same
    ∙ ap (λ (n : ℕ). if nat_lt 512 (length operands) then 0 else n) (replacing-cut equs operands)

even-limited : (equs : EquList) (line : ExpandedLine) → IsLimited line.kind → line_steps (cut_equs equs) (cut_line line) ≡ line_steps equs line
even-limited equs line is = elim (cases_Bool (nat_lt 516 (length line.tokens))) [
  | inl long ↦
      let many : 516 ≤ length line.tokens = omega (arith, ltb-true 516 (length line.tokens) long) in
      line-many (cut_equs equs) (cut_line line) (many-operands line.kind (kept_tokens line.kind line.tokens) is (kept-long line.kind line.tokens many))
      ∙ sym (line-many equs line (many-operands line.kind line.tokens is many))
  | inr short ↦ with-tokens equs line (kept_tokens line.kind line.tokens) (kept-short line.kind line.tokens (ltb-false 516 (length line.tokens) short))
]

even-other : (equs : EquList) (line : ExpandedLine) → operands_of line.kind line.tokens ≡ [] → operands_of line.kind (kept_tokens line.kind line.tokens) ≡ []
    → line_steps (cut_equs equs) (cut_line line) ≡ line_steps equs line
even-other equs line none none-cut = rw (none, none-cut, replacing-cut equs []) refl

even-by : (equs : EquList) (kind : LineKind) (line : ExpandedLine) → line.kind ≡ kind → line_steps (cut_equs equs) (cut_line line) ≡ line_steps equs line
even-by equs lines.Operation line is = even-limited equs line (subst IsLimited (sym is) tt)
even-by equs lines.Org line is = even-limited equs line (subst IsLimited (sym is) tt)
even-by equs lines.End line is = even-limited equs line (subst IsLimited (sym is) tt)
even-by equs lines.Assert line is = even-limited equs line (subst IsLimited (sym is) tt)
even-by equs lines.Name line is = even-other equs line (rw is refl) (rw is refl)
even-by equs lines.Author line is = even-other equs line (rw is refl) (rw is refl)
even-by equs lines.Other line is = even-other equs line (rw is refl) (rw is refl)

even-lines : (equs : EquList) (ls : List ExpandedLine) → lines_steps (cut_equs equs) (cut_lines ls) ≡ lines_steps equs ls
even-lines equs [] = refl
even-lines equs (line ∷ ls) = ap₂ ◌+◌ (even-by equs line.kind line refl) (even-lines equs ls)

even-finish : Even finish_steps
even-finish st = even-lines st.names.equs st.lines

-- of the walk that was found
pub finish-found : (m : Walked) (walk : WalkState) → with_cut m ≡ Ok (cut_walk walk) → then_steps m finish_steps ≡ finish_steps walk
finish-found m walk is = same-then m (Ok walk) finish_steps is even-finish
