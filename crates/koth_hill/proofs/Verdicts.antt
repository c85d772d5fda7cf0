-- A challenger stays or falls: its verdict and its step.
use Rattle.std.proofs.{Common.{◌≡◌, ℕ, ◌+◌, Bool, true, false, cond, List, Option, refl, ap, ◌∙◌, inl, inr}, lemmas.Bool.{cond-true, cond-false, cases_Bool}}
use Rattle.{war_types.specs.Warrior.WarriorParts, koth_match.specs.declared.bout.Bout.Bout}
use Rattle.koth_hill.specs.{declared.verdict.Verdict.Verdict, Hill.{Hill, Results}, Step.{falling_by, stays_by, after_stay, after_fall, step_by, verdict_by, placed_verdict, fallen_verdict}}

either-stays : (b : Bool) (x y : Verdict) → x.stays ≡ true → y.stays ≡ false → (cond b x y).stays ≡ b
either-stays true x y placed fallen = placed
either-stays false x y placed fallen = fallen

pub verdict-stays : (f : Results) (bouts : List Bout) (h : Hill) (w : WarriorParts) → (verdict_by f bouts h w).stays ≡ stays_by f h w
unfolding verdict_by
verdict-stays f bouts h w =
    either-stays (stays_by f h w) (placed_verdict f bouts h w (falling_by f h w)) (fallen_verdict f bouts h w (falling_by f h w)) refl refl

either-entry : (b : Bool) (x y : Verdict) (entry : ℕ) → x.entry ≡ entry → y.entry ≡ entry → (cond b x y).entry ≡ entry
either-entry true x y entry placed fallen = placed
either-entry false x y entry placed fallen = fallen

pub verdict-entry : (f : Results) (bouts : List Bout) (h : Hill) (w : WarriorParts) → (verdict_by f bouts h w).entry ≡ h.counter + 1
unfolding verdict_by
verdict-entry f bouts h w =
    either-entry (stays_by f h w) (placed_verdict f bouts h w (falling_by f h w)) (fallen_verdict f bouts h w (falling_by f h w)) (h.counter + 1) refl refl

-- what a judged challenger is told
pub judged-entry : (f : Results) (bouts : List Bout) (h : Hill) (w : WarriorParts) (judged : Verdict) → judged ≡ verdict_by f bouts h w → judged.entry ≡ h.counter + 1
judged-entry f bouts h w judged is = ap (λ (v : Verdict). v.entry) is ∙ verdict-entry f bouts h w

either-falls : (b : Bool) (x y : Verdict) (falls : Option ℕ) → x.falls ≡ falls → y.falls ≡ falls → (cond b x y).falls ≡ falls
either-falls true x y falls placed fallen = placed
either-falls false x y falls placed fallen = fallen

pub verdict-falls : (f : Results) (bouts : List Bout) (h : Hill) (w : WarriorParts) → (verdict_by f bouts h w).falls ≡ falling_by f h w
unfolding verdict_by
verdict-falls f bouts h w =
    either-falls (stays_by f h w) (placed_verdict f bouts h w (falling_by f h w)) (fallen_verdict f bouts h w (falling_by f h w)) (falling_by f h w) refl refl

pub judged-falls : (f : Results) (bouts : List Bout) (h : Hill) (w : WarriorParts) (judged : Verdict) → judged ≡ verdict_by f bouts h w → judged.falls ≡ falling_by f h w
judged-falls f bouts h w judged is = ap (λ (v : Verdict). v.falls) is ∙ verdict-falls f bouts h w

pub verdict-placed : (f : Results) (bouts : List Bout) (h : Hill) (w : WarriorParts) → stays_by f h w ≡ true → verdict_by f bouts h w ≡ placed_verdict f bouts h w (falling_by f h w)
unfolding verdict_by
verdict-placed f bouts h w e = cond-true (stays_by f h w) (placed_verdict f bouts h w (falling_by f h w)) (fallen_verdict f bouts h w (falling_by f h w)) e

pub verdict-fallen : (f : Results) (bouts : List Bout) (h : Hill) (w : WarriorParts) → stays_by f h w ≡ false → verdict_by f bouts h w ≡ fallen_verdict f bouts h w (falling_by f h w)
unfolding verdict_by
verdict-fallen f bouts h w e = cond-false (stays_by f h w) (placed_verdict f bouts h w (falling_by f h w)) (fallen_verdict f bouts h w (falling_by f h w)) e

pub step-stays : (f : Results) (h : Hill) (w : WarriorParts) → stays_by f h w ≡ true → step_by f h w ≡ after_stay h w (falling_by f h w)
unfolding step_by
step-stays f h w e = cond-true (stays_by f h w) (after_stay h w (falling_by f h w)) (after_fall h) e

pub step-falls : (f : Results) (h : Hill) (w : WarriorParts) → stays_by f h w ≡ false → step_by f h w ≡ after_fall h
unfolding step_by
step-falls f h w e = cond-false (stays_by f h w) (after_stay h w (falling_by f h w)) (after_fall h) e

pub step-settings : (f : Results) (h : Hill) (w : WarriorParts) → (step_by f h w).settings ≡ h.settings
step-settings f h w = elim (cases_Bool (stays_by f h w)) [
  | inl stay ↦ ap (λ (x : Hill). x.settings) (step-stays f h w stay)
  | inr falls ↦ ap (λ (x : Hill). x.settings) (step-falls f h w falls)
]

pub step-counter : (f : Results) (h : Hill) (w : WarriorParts) → (step_by f h w).counter ≡ h.counter + 1
step-counter f h w = elim (cases_Bool (stays_by f h w)) [
  | inl stay ↦ ap (λ (x : Hill). x.counter) (step-stays f h w stay)
  | inr falls ↦ ap (λ (x : Hill). x.counter) (step-falls f h w falls)
]

either-bouts : (b : Bool) (x y : Verdict) (bouts : List Bout) → x.bouts ≡ bouts → y.bouts ≡ bouts → (cond b x y).bouts ≡ bouts
either-bouts true x y bouts placed fallen = placed
either-bouts false x y bouts placed fallen = fallen

pub verdict-bouts : (f : Results) (bouts : List Bout) (h : Hill) (w : WarriorParts) → (verdict_by f bouts h w).bouts ≡ bouts
unfolding verdict_by
verdict-bouts f bouts h w = either-bouts (stays_by f h w) (placed_verdict f bouts h w (falling_by f h w)) (fallen_verdict f bouts h w (falling_by f h w)) bouts refl refl
