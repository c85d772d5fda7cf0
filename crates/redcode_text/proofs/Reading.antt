-- An expression of a rank: operands, joined by operators that bind no more loosely, each operator by those that bind more tightly on its right.
use Rattle.std.proofs.Common.{◌≡◌, ℕ, zero, suc, List, [], ◌∷◌, ◌++◌, ◌+◌, ◌-◌, ◌≤◌, Option, Some, subst, arith}
use Rattle.redcode_text.specs.{declared.operator.Operator.Operator, declared.expression.Part.Part, Operators.{Value, rank_of, applied, negated, denied}}

pub data Reads : ℕ → ℕ → List Part → Value → Type 0 where
  operand : {d : ℕ} {v : Value} → Reads zero d (Part.Operand v ∷ []) v
  negation : {d : ℕ} {ps : List Part} {v : Value} → Reads zero d ps v → Reads zero (suc d) (Part.Not ∷ ps) (denied v)
  plus : {d : ℕ} {ps : List Part} {v : Value} → Reads zero d ps v → Reads zero (suc d) (Part.Operator Operator.Plus ∷ ps) v
  minus : {d : ℕ} {ps : List Part} {v : Value} → Reads zero d ps v → Reads zero (suc d) (Part.Operator Operator.Minus ∷ ps) (negated v)
  parentheses : {d : ℕ} {ps : List Part} {v : Value} → Reads 6 d ps v → Reads zero (suc d) (Part.Open ∷ (ps ++ Part.Close ∷ [])) v
  tighter : {r d : ℕ} {ps : List Part} {v : Value} → Reads r d ps v → Reads (suc r) d ps v
  both : {r d : ℕ} {ls rs : List Part} {v w : Value} (o : Operator) → rank_of o ≡ suc r → Reads (suc r) d ls v → Reads r d rs w → Reads (suc r) d (ls ++ Part.Operator o ∷ rs) (applied o v w)

-- what is found in two ways is one
pub same_pair : {A B : Type 0} (a c : A) (b d : B) → ◌≡◌ {A = Option (A × B)} (Some (a, b)) (Some (c, d)) → (a ≡ c) × (b ≡ d)
same_pair a c b d e = (grind arith, grind arith)

-- what goes up from each number to the next goes up to each above
upward_by : (P : ℕ → Type 0) → ((m : ℕ) → P m → P (suc m)) → (n k r : ℕ) → r ≡ n + k → P k → P r
upward_by P step zero k r is h = let same : k ≡ r = omega arith in subst P same h
upward_by P step (suc n) k r is h = upward_by P step n (suc k) r (omega arith) (step k h)

pub upward : (P : ℕ → Type 0) → ((m : ℕ) → P m → P (suc m)) → (k r : ℕ) → k ≤ r → P k → P r
upward P step k r le h = upward_by P step (r - k) k r (omega arith) h
