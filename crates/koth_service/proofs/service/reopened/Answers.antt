-- The hill of the device that was left, and no submission is under way.
use Rattle.{std.proofs.Common.{◌≡◌, ◌∙◌, false, ap, subst, sym}, koth_session.specs.Judge.Judged, koth_service.specs.{History.OpensAgain, Standing.{fought_to, peers_of}}}
use Rattle.koth_service.proofs.service.reopened.Goals as goal

pub returns-in-Ok : goal.returns-in-Ok
returns-in-Ok g c = record {
  peers = λ none.
      let peers = peers_of c.args.desk in
      ap (λ (j : Judged _). fought_to peers.slots peers.seats peers.turn j.under_way peers) c.new.ensures
      ∙ ap (λ u. fought_to peers.slots peers.seats peers.turn u peers) (sym none);
  open_now = subst (λ (j : Judged _). j.store.reopen ≡ false) (sym c.new.ensures) c.in-Ok.ensures.open_now;
  again = subst (λ (j : Judged _). OpensAgain g.D.Device.facts c.args.desk.judge.store.device j.store) (sym c.new.ensures)
      (subst (λ device. OpensAgain g.D.Device.facts device c.in-Ok.store) c.close.ensures c.in-Ok.ensures.again);
}
