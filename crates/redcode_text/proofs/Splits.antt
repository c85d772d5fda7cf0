-- What a split says of its sides.
use Rattle.std.proofs.Common.{◌≡◌, ℕ, zero, suc, ◌<◌, ◌≤◌, Bool, true, false, List, [], ◌∷◌, ◌++◌, Option, Some, None, refl, sym, ap, subst, inl, inr, arith}
use Rattle.{std.specs.Prelude.{pred, nat_le}, std.proofs.lemmas.Bool.{cases_Bool, leb-true, leb-false}}
use Rattle.redcode_text.specs.{declared.operator.Operator.Operator, declared.expression.Part.Part, Operators.rank_of, Value.{Split, behind, looser, split_from}}

-- there is no split, or one at an operator below the rank
abbrev pub Under : ℕ → Option Split → Type 0
Under r None = Unit {0}
Under r (Some s) = rank_of s.operator < r

pub record SplitIs (operand : Bool) (nested : ℕ) (ps : List Part) (s : Split) : Type 0 where
  pub together : ps ≡ s.left ++ Part.Operator s.operator ∷ s.right
  pub left : Under (suc (rank_of s.operator)) (split_from operand nested s.left)
  pub right : Under (rank_of s.operator) (split_from false zero s.right)

abbrev pub IsSplit : Bool → ℕ → List Part → Option Split → Type 0
IsSplit operand nested ps None = Unit {0}
IsSplit operand nested ps (Some s) = SplitIs operand nested ps s

Under-behind : (r : ℕ) (part : Part) (x : Option Split) → Under r x → Under r (behind part x)
Under-behind r part x h = grind arith

Under-looser : (r : ℕ) (o : Operator) (ps : List Part) (x : Option Split) → rank_of o < r → Under r x → Under r (looser o ps x)
Under-looser r o ps x here h = grind arith

behind_split : (a b : Bool) (m n : ℕ) (part : Part) (ps : List Part) (x : Option Split)
    → ((qs : List Part) → split_from a m (part ∷ qs) ≡ behind part (split_from b n qs)) → IsSplit b n ps x → IsSplit a m (part ∷ ps) (behind part x)
behind_split a b m n part ps None step h = tt
behind_split a b m n part ps (Some s) step h =
    record {
      together = ap (λ xs. part ∷ xs) h.together;
      left = subst (Under (suc (rank_of s.operator))) (sym (step s.left)) (Under-behind (suc (rank_of s.operator)) part (split_from b n s.left) h.left);
      right = h.right;
    }

looser_split : (o : Operator) (ps : List Part) (x : Option Split) → split_from false zero ps ≡ x → IsSplit false zero ps x → IsSplit true zero (Part.Operator o ∷ ps) (looser o ps x)
looser_split o ps None e h = record { together = refl; left = tt; right = subst (Under (rank_of o)) (sym e) tt }
looser_split o ps (Some s) e h = elim (cases_Bool (nat_le (rank_of o) (rank_of s.operator))) [
  | inl later ↦
      let below : rank_of o ≤ rank_of s.operator = leb-true (rank_of o) (rank_of s.operator) later in
      rw later (record {
        together = ap (λ xs. Part.Operator o ∷ xs) h.together;
        left = Under-looser (suc (rank_of s.operator)) o s.left (split_from false zero s.left) (omega arith) h.left;
        right = h.right;
      })
  | inr tighter ↦
      let above : rank_of s.operator < rank_of o = leb-false (rank_of o) (rank_of s.operator) tighter in
      rw tighter (record { together = refl; left = tt; right = subst (Under (rank_of o)) (sym e) above })
]

pub is_split : (operand : Bool) (nested : ℕ) (ps : List Part) → IsSplit operand nested ps (split_from operand nested ps)
is_split a n [] = tt
is_split a n (Part.Operand v ∷ ps) = behind_split a true n n (Part.Operand v) ps (split_from true n ps) (λ qs. refl) (is_split true n ps)
is_split a n (Part.Open ∷ ps) = behind_split a false n (suc n) Part.Open ps (split_from false (suc n) ps) (λ qs. refl) (is_split false (suc n) ps)
is_split a n (Part.Close ∷ ps) = behind_split a true n (pred n) Part.Close ps (split_from true (pred n) ps) (λ qs. refl) (is_split true (pred n) ps)
is_split a n (Part.Not ∷ ps) = behind_split a false n n Part.Not ps (split_from false n ps) (λ qs. refl) (is_split false n ps)
is_split a n (Part.Other ∷ ps) = behind_split a false n n Part.Other ps (split_from false n ps) (λ qs. refl) (is_split false n ps)
is_split true zero (Part.Operator o ∷ ps) = looser_split o ps (split_from false zero ps) refl (is_split false zero ps)
is_split true (suc n) (Part.Operator o ∷ ps) = behind_split true false (suc n) (suc n) (Part.Operator o) ps (split_from false (suc n) ps) (λ qs. refl) (is_split false (suc n) ps)
is_split false n (Part.Operator o ∷ ps) = behind_split false false n n (Part.Operator o) ps (split_from false n ps) (λ qs. refl) (is_split false n ps)
