use Rattle.{std.proofs.Common.{◌∙◌, ap, subst, sym, rules}, war_types.specs.{declared.settings.RawSettings.RawSettings, Warrior.Fits}, redcode_asm.specs.Assembly.assembly}
use Rattle.{koth_hill.specs.Challenge.IsUnderWay, hill_store.specs.Seen.Seen}
use Rattle.hill_store.proofs.store.Store.begin.Goals as goal

pub returns-clause-begun : goal.returns-clause-begun
returns-clause-begun g c = (
  ap (λ (s : RawSettings). assembly s c.args.source.now) (sym (c.settings.ensures.value ∙ ap (λ (s : Seen _). s.hill.settings) c.self.view_is)) ∙ c.in-Ok.ensures.assembled,
  record {
    may = record {
      is_open = sym (ap (λ (s : Seen _). s.reopen) c.self.view_is) ∙ c.if-self.false;
      more = search rules;
      fits = subst (λ (s : RawSettings). Fits s c.in-Ok.warrior) (c.settings.ensures.value ∙ ap (λ (s : Seen _). s.hill.settings) c.self.view_is) c.in-Ok.ensures.fits;
    };
    challenge = subst (λ (s : Seen _). IsUnderWay s.hill c.in-Ok.warrior c.new-challenge.result) c.self.view_is (c.new-challenge.ensures c.in-Ok.warrior);
  },
)
