-- What splits to a value is an expression with that value.
use Rattle.std.proofs.Common.{◌≡◌, ℕ, zero, suc, ◌-◌, ◌≤◌, false, List, [], ◌∷◌, ◌++◌, Option, Some, None, refl, sym, subst, arith}
use Rattle.redcode_text.specs.{declared.operator.Operator.Operator, declared.expression.Part.Part, Operators.{Value, rank_of, applied, negated, denied}}
use Rattle.redcode_text.specs.Value.{Split, behind, split_from, joined, option_of, signed, onto, closed, inside_of, whole, value_by, value_within}
use Rattle.redcode_text.proofs.{Reading.{Reads, upward}, Splits.{Under, SplitIs, IsSplit, is_split}}
use Rattle.redcode_text.proofs.Reading as reads

-- an expression of a rank is one of each looser rank
looser_reads : (r k d : ℕ) (ps : List Part) (v : Value) → r ≤ k → Reads r d ps v → Reads k d ps v
looser_reads r k d ps v le h = upward (λ m. Reads m d ps v) (λ m tight. reads.tighter tight) r k le h

-- each operator has a rank from 1 to 6
pub rank_range : (o : Operator) → (1 ≤ rank_of o) × (rank_of o ≤ 6)
rank_range o = (grind arith, grind arith)

pub Under-all : (x : Option Split) → Under 7 x
Under-all None = tt
Under-all (Some s) = omega (arith, (rank_range s.operator).1)

some_is : {A : Type 0} (a b : A) → Some a ≡ Some b → a ≡ b
some_is a b e = cc

onto_is : (part : Part) (ps inside : List Part) (x : Option (List Part)) → onto part x ≡ Some inside → ((xs : List Part) → x ≡ Some xs → ps ≡ xs ++ Part.Close ∷ []) → part ∷ ps ≡ inside ++ Part.Close ∷ []
onto_is part ps inside None e h = absurd cc
onto_is part ps inside (Some xs) e h = rw (← some_is (part ∷ xs) inside e, h xs refl) refl

pub closed_is : (ps inside : List Part) → closed ps ≡ Some inside → ps ≡ inside ++ Part.Close ∷ []
closed_is (Part.Close ∷ []) inside e = rw (← some_is [] inside e) refl
closed_is (part ∷ next ∷ others) inside e = onto_is part (next ∷ others) inside (closed (next ∷ others)) e (λ xs h. closed_is (next ∷ others) xs h)
closed_is _ inside e = absurd cc

-- ---- by the number of parts

-- what has a value within n parts is an expression of each rank that no operator passes
abbrev pub AllRead : ℕ → Type 0
AllRead n = (d : ℕ) (ps : List Part) (v : Value) (k : ℕ) → value_within n d ps ≡ Some v → Under (suc k) (split_from false zero ps) → Reads k d ps v

none_under : (part : Part) (x : Option Split) → behind part x ≡ None → Under 1 x
none_under part None e = tt
none_under part (Some s) e = absurd cc

reads_before : (f : Value → Value) (d : ℕ) (ps : List Part) (v : Value) (x : Option Value) → ((w : Value) → x ≡ Some w → Reads zero d ps (f w)) → option_of f x ≡ Some v → Reads zero d ps v
reads_before f d ps v None reads e = absurd cc
reads_before f d ps v (Some w) reads e = rw (← some_is (f w) v e) (reads w refl)

reads_sign : (n : ℕ) → AllRead n → (d : ℕ) (o : Operator) (ps : List Part) (v : Value) → Under 1 (split_from false zero ps) → signed o (value_within n d ps) ≡ Some v → Reads zero (suc d) (Part.Operator o ∷ ps) v
reads_sign n all d Operator.Plus ps v under e = reads.plus (all d ps v zero e under)
reads_sign n all d Operator.Minus ps v under e =
    reads_before negated (suc d) (Part.Operator Operator.Minus ∷ ps) v (value_within n d ps) (λ w is. reads.minus (all d ps w zero is under)) e
reads_sign n all d _ ps v under e = absurd cc

reads_inside : (n : ℕ) → AllRead n → (d : ℕ) (ps : List Part) (v : Value) (x : Option (List Part)) → closed ps ≡ x → inside_of (value_within n d) x ≡ Some v → Reads zero (suc d) (Part.Open ∷ ps) v
reads_inside n all d ps v None is e = absurd cc
reads_inside n all d ps v (Some inside) is e =
    subst (λ (xs : List Part). Reads zero (suc d) (Part.Open ∷ xs) v) (sym (closed_is ps inside is)) (reads.parentheses (all d inside v 6 e (Under-all (split_from false zero inside))))

reads_whole : (n : ℕ) → AllRead n → (d : ℕ) (ps : List Part) (v : Value) → split_from false zero ps ≡ None → whole (value_within n) d ps ≡ Some v → Reads zero d ps v
reads_whole n all zero (Part.Operand w ∷ []) v none e = rw (some_is w v e) reads.operand
reads_whole n all (suc d) (Part.Operand w ∷ []) v none e = rw (some_is w v e) reads.operand
reads_whole n all (suc d) (Part.Not ∷ ps) v none e =
    let under = none_under Part.Not (split_from false zero ps) none in
    reads_before denied (suc d) (Part.Not ∷ ps) v (value_within n d ps) (λ w is. reads.negation (all d ps w zero is under)) e
reads_whole n all (suc d) (Part.Operator o ∷ ps) v none e = reads_sign n all d o ps v (none_under (Part.Operator o) (split_from false zero ps) none) e
reads_whole n all (suc d) (Part.Open ∷ ps) v none e = reads_inside n all d ps v (closed ps) refl e
reads_whole n all _ _ v none e = absurd cc

reads_joined : (n : ℕ) → AllRead n → (d r : ℕ) (ps : List Part) (v : Value) (s : Split) (left right : Option Value) → rank_of s.operator ≡ suc r → SplitIs false zero ps s
    → value_within n d s.left ≡ left → value_within n d s.right ≡ right → joined s.operator left right ≡ Some v → Reads (suc r) d ps v
reads_joined n all d r ps v s None right rank is left-is right-is e = absurd cc
reads_joined n all d r ps v s (Some a) None rank is left-is right-is e = absurd cc
reads_joined n all d r ps v s (Some a) (Some b) rank is left-is right-is e =
    rw (is.together, ← some_is (applied s.operator a b) v e) (
    reads.both s.operator rank (all d s.left a (suc r) left-is (rw rank at is.left)) (all d s.right b r right-is (rw rank at is.right)))

reads_split : (n : ℕ) → AllRead n → (d : ℕ) (ps : List Part) (v : Value) (k : ℕ) (x : Option Split) → split_from false zero ps ≡ x → IsSplit false zero ps x → Under (suc k) x → value_by (value_within n) d ps x ≡ Some v → Reads k d ps v
reads_split n all d ps v k None none is under e = looser_reads zero k d ps v (omega arith) (reads_whole n all d ps v none e)
reads_split n all d ps v k (Some s) split is under e =
    let r = rank_of s.operator - 1 in
    let rank : rank_of s.operator ≡ suc r = omega (arith, (rank_range s.operator).0) in
    looser_reads (suc r) k d ps v (omega arith) (reads_joined n all d r ps v s (value_within n d s.left) (value_within n d s.right) rank is refl refl e)

pub value_reads : (n : ℕ) → AllRead n
unfolding value_within
value_reads zero d ps v k e under = absurd cc
value_reads (suc n) d ps v k e under = reads_split n (value_reads n) d ps v k (split_from false zero ps) refl (is_split false zero ps) under e
