-- An expression splits to its value.
use Rattle.std.proofs.Common.{◌≡◌, ℕ, zero, suc, ◌≤◌, true, false, List, [], ◌∷◌, ◌++◌, length, Option, Some, None, refl, sym, ap, ◌∙◌, subst, arith, append_assoc, append-nil, length-append}
use Rattle.redcode_text.specs.{declared.operator.Operator.Operator, declared.expression.Part.Part, Operators.{Value, rank_of}}
use Rattle.{redcode_text.specs.Value.{Split, behind, looser, split_from, onto, closed, value_within}, redcode_text.proofs.{Reading.Reads, Splits.Under}}
use Rattle.redcode_text.proofs.Reading as reads

-- a split with further parts in front
abbrev pub all_behind : List Part → Option Split → Option Split
all_behind [] x = x
all_behind (part ∷ ps) x = behind part (all_behind ps x)

all_behind-append : (ps qs : List Part) (x : Option Split) → all_behind (ps ++ qs) x ≡ all_behind ps (all_behind qs x)
all_behind-append [] qs x = refl
all_behind-append (part ∷ ps) qs x = ap (behind part) (all_behind-append ps qs x)

all_behind-none : (ps : List Part) → all_behind ps None ≡ None
all_behind-none [] = refl
all_behind-none (part ∷ ps) = ap (behind part) (all_behind-none ps)

abbrev split_of : List Part → Operator → List Part → Split
split_of ls o rs = record { left = ls; operator = o; right = rs }

abbrev with_left : List Part → Split → Split
with_left ps s = split_of (ps ++ s.left) s.operator s.right

all_behind-some : (ps : List Part) (s : Split) → all_behind ps (Some s) ≡ Some (with_left ps s)
all_behind-some [] s = refl
all_behind-some (part ∷ ps) s = ap (behind part) (all_behind-some ps s)

-- within parentheses an expression has no split, and nor has an operand
part_split : {k d : ℕ} {ps : List Part} {v : Value} → Reads k d ps v → (m : ℕ) → (m ≡ 0 → k ≡ 0) → (rest : List Part) → split_from false m (ps ++ rest) ≡ all_behind ps (split_from true m rest)
part_split reads.operand m outer rest = refl
part_split (reads.negation h) m outer rest = ap (behind Part.Not) (part_split h m (λ _. refl) rest)
part_split (reads.plus h) m outer rest = ap (behind (Part.Operator Operator.Plus)) (part_split h m (λ _. refl) rest)
part_split (reads.minus h) m outer rest = ap (behind (Part.Operator Operator.Minus)) (part_split h m (λ _. refl) rest)
part_split (reads.parentheses {ps} h) m outer rest =
    ap (λ xs. behind Part.Open (split_from false (suc m) xs)) (append_assoc ps (Part.Close ∷ []) rest)
    ∙ ap (behind Part.Open) (part_split h (suc m) (λ e. cc) (Part.Close ∷ rest) ∙ sym (all_behind-append ps (Part.Close ∷ []) (split_from true m rest)))
part_split (reads.tighter h) m outer rest = part_split h m (λ e. absurd (omega (arith, outer e))) rest
part_split (reads.both o rank left right) zero outer rest = absurd (omega (arith, outer refl))
part_split (reads.both {ls} {rs} o rank left right) (suc m) outer rest =
    ap (split_from false (suc m)) (append_assoc ls (Part.Operator o ∷ rs) rest)
    ∙ part_split left (suc m) (λ e. cc) (Part.Operator o ∷ (rs ++ rest))
    ∙ ap (λ x. all_behind ls (behind (Part.Operator o) x)) (part_split right (suc m) (λ e. cc) rest)
    ∙ sym (all_behind-append ls (Part.Operator o ∷ rs) (split_from true (suc m) rest))

-- an operator before a split that binds no more tightly
looser_later : (o : Operator) (ps : List Part) (s : Split) → rank_of o ≤ rank_of s.operator → looser o ps (Some s) ≡ behind (Part.Operator o) (Some s)
looser_later o ps s le = grind arith

looser_here : (o : Operator) (ps : List Part) (x : Option Split) → Under (rank_of o) x → looser o ps x ≡ Some (split_of [] o ps)
looser_here o ps x h = grind arith

-- after an expression that binds no more loosely, a split is the split of both
pub later_split : {k d : ℕ} {ps : List Part} {v : Value} → Reads k d ps v → (rest : List Part) (s : Split) → split_from true zero rest ≡ Some s → k ≤ rank_of s.operator
    → split_from false zero (ps ++ rest) ≡ all_behind ps (Some s)
later_split {k = zero} {ps = ps} h rest s e le = part_split h zero (λ _. refl) rest ∙ ap (all_behind ps) e
later_split (reads.tighter h) rest s e le = later_split h rest s e (omega arith)
later_split (reads.both {r} {d} {ls} {rs} {v} {w} o rank left right) rest s e le =
    let lower : r ≤ rank_of s.operator = omega arith in
    let later : rank_of o ≤ rank_of s.operator = omega arith in
    let rights = later_split right rest s e lower ∙ all_behind-some rs s in
    let here : split_from true zero (Part.Operator o ∷ (rs ++ rest)) ≡ behind (Part.Operator o) (Some (with_left rs s)) =
    ap (looser o (rs ++ rest)) rights ∙ looser_later o (rs ++ rest) (with_left rs s) later in
    ap (split_from false zero) (append_assoc ls (Part.Operator o ∷ rs) rest)
    ∙ (later_split left (Part.Operator o ∷ (rs ++ rest)) (with_left (Part.Operator o ∷ rs) s) here le
    ∙ (ap (all_behind ls) (sym (all_behind-some (Part.Operator o ∷ rs) s)) ∙ sym (all_behind-append ls (Part.Operator o ∷ rs) (Some s))))

-- ---- the value

Under-more : (k : ℕ) (x : Option Split) → Under k x → Under (suc k) x
Under-more k None h = tt
Under-more k (Some s) h = omega arith

-- an operand has no split
operand_none : {d : ℕ} {ps : List Part} {v : Value} → Reads zero d ps v → split_from false zero ps ≡ None
operand_none {d} {ps} {v} h = ap (split_from false zero) (sym (append-nil ps)) ∙ (part_split h zero (λ _. refl) [] ∙ all_behind-none ps)

-- an operator between two sides, the left one of its rank and the right one of a tighter, is the split
joins : {r d : ℕ} {ls rs : List Part} {v : Value} (o : Operator) → rank_of o ≡ suc r → Reads (suc r) d ls v → Under (suc r) (split_from false zero rs) → split_from false zero (ls ++ Part.Operator o ∷ rs) ≡ Some (split_of ls o rs)
joins {r} {d} {ls} {rs} {v} o rank left under =
    let right : Under (rank_of o) (split_from false zero rs) = subst (λ k. Under k (split_from false zero rs)) (sym rank) under in
    let le : suc r ≤ rank_of o = omega arith in
    later_split left (Part.Operator o ∷ rs) (split_of [] o rs) (looser_here o rs (split_from false zero rs) right) le
    ∙ (all_behind-some ls (split_of [] o rs) ∙ ap (λ xs. Some (split_of xs o rs)) (append-nil ls))

-- an expression splits at no operator of a looser rank
reads_under : {k d : ℕ} {ps : List Part} {v : Value} → Reads k d ps v → Under (suc k) (split_from false zero ps)
reads_under {k = zero} h = rw (operand_none h) tt
reads_under (reads.tighter {r} {d} {ps} {v} h) = Under-more (suc r) (split_from false zero ps) (reads_under h)
reads_under (reads.both o rank left right) = rw (joins o rank left (reads_under right)) (omega arith)

closed-append : (ps : List Part) → closed (ps ++ Part.Close ∷ []) ≡ Some ps
closed-append [] = refl
closed-append (part ∷ []) = refl
closed-append (part ∷ next ∷ others) = ap (onto part) (closed-append (next ∷ others))

pub reads_value : {k d : ℕ} {ps : List Part} {v : Value} → Reads k d ps v → (n : ℕ) → length ps ≤ n → value_within n d ps ≡ Some v
unfolding value_within
reads_value (reads.tighter h) n le = reads_value h n le
reads_value (reads.both {ls} {rs} o rank left right) zero le = absurd (omega (arith, length-append ls (Part.Operator o ∷ rs)))
reads_value (reads.both {ls} {rs} o rank left right) (suc n) le =
    let few = length-append ls (Part.Operator o ∷ rs) in
    rw (joins o rank left (reads_under right), reads_value left n (omega arith), reads_value right n (omega arith)) refl
reads_value _ zero le = absurd (omega arith)
reads_value reads.operand (suc n) le = refl
reads_value (reads.negation h) (suc n) le = rw (operand_none h, reads_value h n (omega arith)) refl
reads_value (reads.plus h) (suc n) le = rw (operand_none h) (reads_value h n (omega arith))
reads_value (reads.minus h) (suc n) le = rw (operand_none h, reads_value h n (omega arith)) refl
reads_value (reads.parentheses {ps} h) (suc n) le =
    rw (operand_none (reads.parentheses h), closed-append ps) (reads_value h n (omega (arith, length-append ps (Part.Close ∷ []))))
