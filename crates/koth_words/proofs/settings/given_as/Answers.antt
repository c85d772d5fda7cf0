-- The settings are in their ranges.
use Rattle.{std.proofs.Common.{◌≡◌, ◌∙◌, ap}, war_types.specs.{declared.settings.RawSettings.RawSettings, Settings.settings_of}}
use Rattle.{koth_words.specs.Settings.{given_as}, koth_words.proofs.Back.{given_back, limit_of_core}}
use Rattle.koth_words.proofs.settings.given_as.Goals as goal

pub returns-clause-back : goal.returns-clause-back
returns-clause-back c =
    let s = c.args.settings.now in
    let core = c.from-core.ensures ∙ c.core.ensures.value in
    let raw : RawSettings = record { core = c.from-core.result; cycles = c.cycles.result; processes = c.from.result; length = c.from-2.result; distance = c.from-3.result; rounds = c.from-4.result; seed = c.seed.result; capacity = c.from-5.result; read_limit = c.limit_given.result; write_limit = c.limit_given-2.result } in
    let same : raw ≡ given_as s = λ i. record {
      core = core i;
      cycles = c.cycles.ensures.value i;
      processes = (c.from.ensures ∙ c.processes.ensures.value) i;
      length = (c.from-2.ensures ∙ c.length.ensures.value) i;
      distance = (c.from-3.ensures ∙ c.distance.ensures.value) i;
      rounds = (c.from-4.ensures ∙ c.rounds.ensures.value) i;
      seed = c.seed.ensures.value i;
      capacity = (c.from-5.ensures ∙ c.capacity.ensures.value) i;
      read_limit = (c.limit_given.ensures ∙ limit_of_core _ _ _ _ core (c.from-6.ensures ∙ c.read_limit.ensures.value)) i;
      write_limit = (c.limit_given-2.ensures ∙ limit_of_core _ _ _ _ core (c.from-7.ensures ∙ c.write_limit.ensures.value)) i;
    } in
    ap settings_of same ∙ given_back s c.core.ensures.settings
