-- Nobody is there, and no submission is under way.
use Rattle.{std.proofs.Common.{◌∙◌, ap, refl, sym}, koth_session.specs.Judge.Judged}
use Rattle.koth_service.proofs.desk.Desk.seated.Goals as goal

pub returns-in-Ok-clause-begun : goal.returns-in-Ok-clause-begun
returns-in-Ok-clause-begun g c = record {
  nobody = c.requires.nobody;
  no_seats = c.in-Ok.ensures.free;
  places = c.in-Ok.ensures.most ∙ sym c.requires.most;
  ended = refl;
  turn = c.requires.next;
  under_way = ap (λ (j : Judged _). j.under_way) c.new-in-Ok.ensures;
  clock = refl;
  read_at = refl;
  shares = refl;
  sound = ap (λ (j : Judged _). j.store.reopen) c.new-in-Ok.ensures ∙ c.requires.sound;
}
