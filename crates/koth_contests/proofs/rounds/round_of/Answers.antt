-- The round that was played is that of the match, and it keeps the settings that it began with.
use Rattle.{std.proofs.Common.{◌∙◌, ◌+◌, ap}, mars_core.specs.Round.Round, koth_match.proofs.Kept.after_turns-settings, koth_contests.proofs.Due.is_round}
use Rattle.koth_contests.proofs.rounds.round_of.Goals as goal

pub returns-clause-played : goal.returns-clause-played
returns-clause-played g c = is_round c.args.settings.now c.args.older.now c.args.younger.now c.args.round _ _ _ _ _ _ c.args.arena.now.settings c.begin.new.self
    c.play-outcome.new.self c.requires.settings (ap (λ n. n + 1) c.from.ensures) c.seed_of_round-seed.ensures.value c.position-position.ensures.value c.first_in-first.ensures c.begin.ensures.opening
    c.play-outcome.ensures.after c.play-outcome.ensures.outcome c.used.ensures.value

pub returns-clause-settings : goal.returns-clause-settings
returns-clause-settings g c =
    ap (λ (r : Round). r.settings) c.play-outcome.ensures.after ∙ after_turns-settings _ c.begin.new.self
    ∙ ap (λ (r : Round). r.settings) c.begin.ensures.opening
