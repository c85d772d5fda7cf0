use Rattle.std.proofs.{Common.{◌≡◌, ℕ, ◌<◌, List, [], replicate, sym, ap, subst, ◌∙◌, arith}, lemmas.List.Elements.All-nil}
use Rattle.{mars_core.specs.{Cells.blank, Queue.{Processes}, Round.IsQueue, Arena.round_in, declared.round.Side.Side}, mars_core.proofs.Loads.IsCore-replicate}
use Rattle.mars_core.proofs.arena.Arena.new.Goals as goal

pub returns : goal.returns
returns g c =
    let core : c.in_ok-core.core ≡ replicate c.args.settings.now.core blank = c.in_ok-core.ensures ∙ ap (λ (n : ℕ). replicate n blank) c.core.ensures.value in
    let first : c.in_ok-first.first.addresses ≡ [] = ap (λ (p : Processes). p.addresses) c.in_ok-first.ensures in
    let second : c.in_ok-second.second.addresses ≡ [] = ap (λ (p : Processes). p.addresses) c.in_ok-second.ensures in
    λ t. round_in c.args.settings.now (core t) (first t) (second t) Side.First 0

IsQueue-none : (size limit : ℕ) (queue : List ℕ) → queue ≡ [] → IsQueue size limit queue
IsQueue-none size limit queue is = subst (IsQueue size limit) (sym is) (record { room = omega arith; addresses = All-nil (λ a. a < size) })

pub invariant_of-result : goal.invariant_of-result
invariant_of-result g c =
    let settings = c.args.settings.now in
    record {
      round = record {
        settings = c.core.ensures.settings;
        core = IsCore-replicate settings.core c.in_ok-core.core (omega (arith, c.core.ensures.settings)) (c.in_ok-core.ensures ∙ ap (λ (n : ℕ). replicate n blank) c.core.ensures.value);
        first = IsQueue-none settings.core settings.processes c.in_ok-first.first.addresses (ap (λ (p : Processes). p.addresses) c.in_ok-first.ensures);
        second = IsQueue-none settings.core settings.processes c.in_ok-second.second.addresses (ap (λ (p : Processes). p.addresses) c.in_ok-second.ensures);
        used = omega arith;
      };
      first_limit = ap (λ (p : Processes). p.limit) c.in_ok-first.ensures ∙ c.processes.ensures.value;
      second_limit = ap (λ (p : Processes). p.limit) c.in_ok-second.ensures ∙ c.processes-2.ensures.value;
    }
