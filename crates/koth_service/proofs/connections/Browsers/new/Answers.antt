-- One number more, which is free.
use Rattle.{std.proofs.{Common.{◌≡◌, ◌∙◌, ◌+◌, ap, length, ℕ, zero, suc, [], ◌∷◌, ◌++◌, None, refl}, lemmas.List.{length-append}}, koth_service.specs.Connections.{Connections, stage_at}}
use Rattle.koth_service.proofs.connections.Browsers.new.Goals as goal

nobody_more : {A : Type 0} (places : Connections A) → ((p : ℕ) → stage_at places p ≡ None) → (p : ℕ) → stage_at (places ++ None ∷ []) p ≡ None
nobody_more [] free zero = refl
nobody_more [] free (suc p) = refl
nobody_more (x ∷ xs) free zero = free zero
nobody_more (x ∷ xs) free (suc p) = nobody_more xs (λ q. free (suc q)) p

pub loop-number-preserved : goal.loop-number-preserved
loop-number-preserved g c =
    (rw c.in_ok-push.ensures.items (nobody_more c.loop-number.connections.items c.loop-number.invariant.0), ap length c.in_ok-push.ensures.items ∙ length-append c.loop-number.connections.items (None ∷ []) ∙ ap (λ k. k + 1) c.loop-number.invariant.1)
