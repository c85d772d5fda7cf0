-- An expression is climbed whole.
use Rattle.std.proofs.Common.{◌≡◌, ℕ, zero, suc, ◌≤◌, true, false, List, [], ◌∷◌, ◌++◌, Some, None, refl, sym, ap, ◌∙◌, subst, arith, append_assoc, append-nil, ne_eqb, eq-eqb}
use Rattle.{std.specs.Prelude.◌==◌, redcode_text.specs.{declared.operator.Operator.Operator, declared.expression.Part.Part, Operators.{Value, rank_of, applied, negated, denied}}}
use Rattle.redcode_text.specs.Climbing.{Found, Climbs, Start, Begin, Continue, next_at, behind_close, under, signed_found, with_close, enclosed, is_refused}
use Rattle.redcode_text.proofs.Reading.{Reads, same_pair}
use Rattle.redcode_text.specs.Climbing as climbs
use Rattle.redcode_text.proofs.Reading as reads

-- no operator of a tighter rank stands at the front
abbrev pub StopsBelow : ℕ → List Part → Type 0
StopsBelow r (Part.Operator o ∷ ps) = r ≤ rank_of o
StopsBelow r _ = Unit {0}

stops_tighter : (r : ℕ) (ps : List Part) → StopsBelow (suc r) ps → StopsBelow r ps
stops_tighter r (Part.Operator o ∷ ps) h = omega arith
stops_tighter r _ h = tt

stops_next : (r : ℕ) (ps : List Part) → StopsBelow (suc r) ps → next_at r ps ≡ None
stops_next r (Part.Operator o ∷ ps) h = let differs : (rank_of o == r) ≡ false = ne_eqb (rank_of o) r (λ e. omega arith) in rw differs refl
stops_next r _ h = refl

stops_zero : (ps : List Part) → StopsBelow zero ps
stops_zero (Part.Operator o ∷ ps) = omega arith
stops_zero _ = tt

next_here : (r : ℕ) (o : Operator) (ps : List Part) → rank_of o ≡ r → next_at r (Part.Operator o ∷ ps) ≡ Some (o, ps)
next_here r o ps e = let same : (rank_of o == r) ≡ true = eq-eqb (rank_of o) r e in rw same refl

-- ---- what a climb must have done

-- after a value with no operator of the rank the climb ends
ends : {r d : ℕ} {v : Value} {ps : List Part} {out : Found} → Climbs (suc r) d (Continue v ps) out → next_at (suc r) ps ≡ None → out ≡ Some (v, ps)
ends (climbs.over e) none = refl
ends (climbs.broken o e c) none = absurd cc
ends (climbs.on o e c later) none = absurd cc

-- with one it goes on to the right side
goes_on : {r d : ℕ} {v : Value} {ps : List Part} {out : Found} → Climbs (suc r) d (Continue v ps) out → (o : Operator) (others : List Part) (w : Value) (rest : List Part)
    → next_at (suc r) ps ≡ Some (o, others) → ((right : Found) → Climbs r d (Begin others) right → right ≡ Some (w, rest)) → Climbs (suc r) d (Continue (applied o v w) rest) out
goes_on (climbs.over e) o others w rest next right = absurd cc
goes_on {r} {d} (climbs.broken {others = behind} p e c) o others w rest next right =
    let same = same_pair p o behind others (sym e ∙ next) in
    let none = right None (subst (λ (xs : List Part). Climbs r d (Begin xs) None) same.1 c) in
    absurd cc
goes_on {r} {d} {v} {ps} {out} (climbs.on {others = behind} {rest = after} {w = u} p e c later) o others w rest next right =
    let same = same_pair p o behind others (sym e ∙ next) in
    let found = same_pair u w after rest (right (Some (u, after)) (subst (λ (xs : List Part). Climbs r d (Begin xs) (Some (u, after))) same.1 c)) in
    rw (← same.0, ← found.0, ← found.1) later

-- ---- from an expression to its climb

-- the climb of a front goes on with its value
abbrev pub Follows : ℕ → ℕ → Value → List Part → Found → Type 0
Follows zero d v rest out = out ≡ Some (v, rest)
Follows (suc r) d v rest out = Climbs (suc r) d (Continue v rest) out

stop_follows : (r d : ℕ) (v : Value) (rest : List Part) (out : Found) → StopsBelow (suc r) rest → Follows r d v rest out → out ≡ Some (v, rest)
stop_follows zero d v rest out stops h = h
stop_follows (suc r) d v rest out stops h = ends h (stops_next (suc r) rest stops)

pub climb_follows : {r d : ℕ} {front : List Part} {v : Value} → Reads r d front v → (rest : List Part) (out : Found) → StopsBelow r rest → Climbs r d (Begin (front ++ rest)) out → Follows r d v rest out
climb_follows reads.operand rest out stops (climbs.refused {d = zero} e) = absurd cc
climb_follows reads.operand rest out stops (climbs.refused {d = suc d} e) = absurd cc
climb_follows reads.operand rest out stops climbs.operand = refl
climb_follows (reads.negation h) rest out stops (climbs.refused e) = absurd cc
climb_follows (reads.negation h) rest out stops (climbs.negation c) = ap (under denied) (climb_follows h rest _ (stops_zero rest) c)
climb_follows (reads.plus h) rest out stops (climbs.refused e) = absurd cc
climb_follows (reads.plus h) rest out stops (climbs.sign o c) = climb_follows h rest _ (stops_zero rest) c
climb_follows (reads.minus h) rest out stops (climbs.refused e) = absurd cc
climb_follows (reads.minus h) rest out stops (climbs.sign o c) = ap (under negated) (climb_follows h rest _ (stops_zero rest) c)
climb_follows (reads.parentheses h) rest out stops (climbs.refused e) = absurd cc
climb_follows (reads.parentheses {d} {ps} {v} h) rest out stops (climbs.parentheses {out = inner} c) =
    let whole = subst (λ (xs : List Part). Climbs 6 d (Begin xs) inner) (append_assoc ps (Part.Close ∷ []) rest) c in
    ap enclosed (stop_follows 6 d v (Part.Close ∷ rest) inner tt (climb_follows h (Part.Close ∷ rest) inner tt whole))
climb_follows (reads.tighter {r} {d} {ps} {v} h) rest out stops (climbs.unbegun c) =
    let found = stop_follows r d v rest None stops (climb_follows h rest None (stops_tighter r rest stops) c) in
    absurd cc
climb_follows (reads.tighter {r} {d} {ps} {v} h) rest out stops (climbs.begun {rest = behind} {v = w} c later) =
    let found = same_pair w v behind rest (stop_follows r d v rest (Some (w, behind)) stops (climb_follows h rest (Some (w, behind)) (stops_tighter r rest stops) c)) in
    rw (← found.0, ← found.1) later
climb_follows (reads.both {r} {d} {ls} {rs} {v} {w} o rank left right) rest out stops c =
    let whole = subst (λ (xs : List Part). Climbs (suc r) d (Begin xs) out) (append_assoc ls (Part.Operator o ∷ rs) rest) c in
    goes_on (climb_follows left (Part.Operator o ∷ (rs ++ rest)) out (omega arith) whole) o (rs ++ rest) w rest (next_here (suc r) o (rs ++ rest) rank)
    (λ found climbed. stop_follows r d w rest found stops (climb_follows right rest found (stops_tighter r rest stops) climbed))

pub climb_whole : {r d : ℕ} {ps : List Part} {v : Value} {out : Found} → Reads r d ps v → Climbs r d (Begin ps) out → out ≡ Some (v, [])
climb_whole {r} {d} {ps} {v} {out} h c =
    let whole = subst (λ (xs : List Part). Climbs r d (Begin xs) out) (sym (append-nil ps)) c in
    stop_follows r d v [] out tt (climb_follows h [] out tt whole)
