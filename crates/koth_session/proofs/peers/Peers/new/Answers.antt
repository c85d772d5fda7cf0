-- One slot more, which is free.
use Rattle.{std.proofs.{Common.{◌+◌, None, ap, refl, ◌∙◌}, lemmas.List.length_push}, koth_session.proofs.Slots.free_push}
use Rattle.koth_session.proofs.peers.Peers.new.Goals as goal

pub slots-preserved : goal.slots-preserved
slots-preserved g c = record {
  size = rw c.in_ok-push.ensures.items (length_push c.slots.slots.items None ∙ ap (λ n. n + 1) c.slots.invariant.size);
  free = rw c.in_ok-push.ensures.items (free_push c.slots.slots.items c.slots.invariant.free);
}

pub returns-clause-nobody : goal.returns-clause-nobody
returns-clause-nobody g c = c.slots.invariant.free

pub returns-clause-next : goal.returns-clause-next
returns-clause-next g c = refl
