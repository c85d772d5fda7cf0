-- How an expression is read from the left: an operand, then each operator of the rank with a right side of tighter ranks.
use Rattle.std.specs.{Prelude.{◌≡◌, ℕ, zero, suc, Bool, true, false, ◌==◌, if◌then◌else◌, List, [], ◌∷◌, map, Option, Some, None, ℤ}, Option.option_map, Borrow.Bor}
use Rattle.redcode_text.specs.{declared.operator.Operator.Operator, declared.expression.Part.Part, declared.token.Token.Token, Tokens.pieces}
use Rattle.redcode_text.specs.{Operators.{Value, rank_of, applied, negated, denied}, Value.part_of}

abbrev pub parts_of : (List ℕ → Option ℤ) → List Token → List Part
parts_of names tokens = map (part_of names) (pieces tokens)

-- a value, and what is after its expression
abbrev pub Found : Type 0
Found = Option (Value × List Part)

abbrev pub found : (List ℕ → Option ℤ) → Option (Value × Bor (List Token)) → Found
found names result = option_map (λ f. (f.0, parts_of names f.1.now)) result

abbrev pub next : (List ℕ → Option ℤ) → Operator × Bor (List Token) → Operator × List Part
next names f = (f.0, parts_of names f.1.now)

abbrev pub first_of : List Part → Option (Part × List Part)
first_of [] = None
first_of (part ∷ others) = Some (part, others)

-- the operator of this rank at the front, and what is after it
abbrev pub next_at : ℕ → List Part → Option (Operator × List Part)
next_at rank (Part.Operator operator ∷ others) = if rank_of operator == rank then Some (operator, others) else None
next_at rank _ = None

abbrev pub behind_close : List Part → Option (List Part)
behind_close (Part.Close ∷ others) = Some others
behind_close _ = None

-- a value with an operator before it
abbrev pub under : (Value → Value) → Found → Found
under f None = None
under f (Some (v, rest)) = Some (f v, rest)

-- a value with a sign before it
abbrev pub signed_found : Operator → Found → Found
signed_found Operator.Plus out = out
signed_found Operator.Minus out = under negated out
signed_found _ out = None

-- a value with parentheses around it
abbrev pub with_close : Value → Option (List Part) → Found
with_close v None = None
with_close v (Some rest) = Some (v, rest)

abbrev pub enclosed : Found → Found
enclosed None = None
enclosed (Some (v, rest)) = with_close v (behind_close rest)

-- no operand begins with these parts if at most `depth` parentheses and unary operators may still stand around it
abbrev pub is_refused : ℕ → List Part → Bool
is_refused depth [] = true
is_refused depth (Part.Operand v ∷ others) = false
is_refused zero (part ∷ others) = true
is_refused (suc depth) (Part.Close ∷ others) = true
is_refused (suc depth) (Part.Other ∷ others) = true
is_refused (suc depth) (part ∷ others) = false

-- at the beginning of parts, or after a value in front of parts
pub data Start : Type 0 where
  Begin : List Part → Start
  Continue : Value → List Part → Start

pub data Climbs : ℕ → ℕ → Start → Found → Type 0 where
  refused : {d : ℕ} {ps : List Part} → is_refused d ps ≡ true → Climbs zero d (Begin ps) None
  operand : {d : ℕ} {v : Value} {ps : List Part} → Climbs zero d (Begin (Part.Operand v ∷ ps)) (Some (v, ps))
  negation : {d : ℕ} {ps : List Part} {out : Found} → Climbs zero d (Begin ps) out → Climbs zero (suc d) (Begin (Part.Not ∷ ps)) (under denied out)
  sign : {d : ℕ} {ps : List Part} {out : Found} (o : Operator) → Climbs zero d (Begin ps) out → Climbs zero (suc d) (Begin (Part.Operator o ∷ ps)) (signed_found o out)
  parentheses : {d : ℕ} {ps : List Part} {out : Found} → Climbs 6 d (Begin ps) out → Climbs zero (suc d) (Begin (Part.Open ∷ ps)) (enclosed out)
  unbegun : {r d : ℕ} {ps : List Part} → Climbs r d (Begin ps) None → Climbs (suc r) d (Begin ps) None
  begun : {r d : ℕ} {ps rest : List Part} {v : Value} {out : Found} → Climbs r d (Begin ps) (Some (v, rest)) → Climbs (suc r) d (Continue v rest) out → Climbs (suc r) d (Begin ps) out
  over : {r d : ℕ} {ps : List Part} {v : Value} → next_at (suc r) ps ≡ None → Climbs (suc r) d (Continue v ps) (Some (v, ps))
  broken : {r d : ℕ} {ps others : List Part} {v : Value} (o : Operator) → next_at (suc r) ps ≡ Some (o, others) → Climbs r d (Begin others) None → Climbs (suc r) d (Continue v ps) None
  on : {r d : ℕ} {ps others rest : List Part} {v w : Value} {out : Found} (o : Operator) → next_at (suc r) ps ≡ Some (o, others) → Climbs r d (Begin others) (Some (w, rest)) → Climbs (suc r) d (Continue (applied o v w) rest) out → Climbs (suc r) d (Continue v ps) out
