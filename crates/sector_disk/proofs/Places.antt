-- One place among all: what an if at a sector's number gives there and elsewhere.
use Rattle.std.proofs.{Common.{◌≡◌, ℕ, inl, inr, subst, sym, ap, ◌==◌, if◌then◌else◌, ◌≢◌}, lemmas.Bool.{cases_eq, eq-eqb, ne_eqb}}

pub at_same : {X : Type 0} (n k : ℕ) (x y : X) → k ≡ n → (if k == n then x else y) ≡ x
at_same n k x y same = ap (λ b. if b then x else y) (eq-eqb k n same)

pub at_other : {X : Type 0} (n k : ℕ) (x y : X) → k ≢ n → (if k == n then x else y) ≡ y
at_other n k x y other = ap (λ b. if b then x else y) (ne_eqb k n other)

-- what holds at n, and at each other number, holds at each
pub by_place : (P : ℕ → Type 0) (n k : ℕ) → P n → (k ≢ n → P k) → P k
by_place P n k here elsewhere = elim (cases_eq k n) [ inl same ↦ subst P (sym same) here | inr other ↦ elsewhere other ]
