-- The number was free, and its peer begins.
use Rattle.{std.proofs.{Common.{None, Some, subst}, lemmas.List.get_or-set_same}, koth_session.specs.Peers.IsFirstFree, koth_session.proofs.Slots.only_set}
use Rattle.koth_session.proofs.peers.Peers.connect.Goals as goal

pub returns-in-Ok-clause-connects : goal.returns-in-Ok-clause-connects
returns-in-Ok-clause-connects g c =
    let slots = c.args.self.now.slots.items in
    let n = c.in-Some.number in
    let slot = Some c.in-Ok.peer in
    let first : IsFirstFree slots n = subst (λ s. IsFirstFree s n) c.as_slice.ensures.value c.in-Some.ensures in
    (only_set slots n slot, first.within, first.free, first.before, c.in-Ok.peer, get_or-set_same slots n slot None first.within, c.in-Ok.ensures)
