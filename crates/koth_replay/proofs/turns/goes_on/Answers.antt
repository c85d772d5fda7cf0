-- What the turn told is whether the round was over before it.
use Rattle.{std.proofs.Common.{true, false, not, inl, inr, refl, sym, ap}, mars_core.specs.declared.round.Turned.Turned, koth_replay.proofs.Endings.{was_over, goes_on-told}}
use Rattle.koth_replay.proofs.turns.goes_on.Goals as goal

pub returns-in-Over-clause-value : goal.returns-in-Over-clause-value
returns-in-Over-clause-value g c = goes_on-told Turned.Over c.args.arena.now false c.in-Over.ensures.turned refl

pub returns-in-Died : goal.returns-in-Died
returns-in-Died g c = record {
  value = goes_on-told c.turn.result c.args.arena.now true c.turn.ensures.turned (elim c.in-Died.is [
    | inl died ↦ sym (ap (λ t. not (was_over t)) died)
    | inr went ↦ sym (ap (λ t. not (was_over t)) went)
  ]);
  after = c.turn.ensures.after;
  round = c.turn.ensures.round;
}
