-- A round keeps the settings that it began with.
use Rattle.{std.proofs.Common.{◌∙◌, ap}, mars_core.specs.Round.Round, koth_match.proofs.Kept.after_turns-settings}
use Rattle.koth_match.proofs.rounds.play_round.Goals as goal

pub returns-clause-settings : goal.returns-clause-settings
returns-clause-settings g c =
    ap (λ (r : Round). r.settings) c.play.ensures.after ∙ after_turns-settings _ c.begin.new.self
    ∙ ap (λ (r : Round). r.settings) c.begin.ensures.opening
