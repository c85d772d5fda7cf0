-- The turns that are kept and those that are played after them are all of the round.
use Rattle.{std.proofs.Common.{◌∙◌, ap}, mars_core.specs.Round.Round, koth_match.proofs.Kept.{after_turn-settings, after_turns-settings}, koth_replay.proofs.Histories.kept-of}
use Rattle.koth_replay.proofs.playing.played.Goals as goal

pub returns-clause-replay : goal.returns-clause-replay
returns-clause-replay g c =
    kept-of c.args.arena.now c.kept_turns.new.arena c.goes_on-is_cut.new.arena c.play.new.self c.args.opening c.args.most _
    c.new-loaded.result.items c.push_loaded.new.events.items c.in_ok-turns.turns.items c.play.result c.goes_on-is_cut.result
    c.requires.core c.requires.used c.new-loaded.ensures.items c.in_ok-push_loaded.ensures
    c.in_ok-turns.ensures.turns c.in_ok-turns.ensures.after c.in_ok-turns.ensures.used c.in_ok-turns.ensures.most c.in_ok-turns.ensures.over
    c.goes_on-is_cut.ensures.value c.goes_on-is_cut.ensures.after c.play.ensures.after c.play.ensures.over c.play.ensures.outcome

pub returns-clause-settings : goal.returns-clause-settings
returns-clause-settings g c =
    ap (λ (r : Round). r.settings) c.play.ensures.after ∙ after_turns-settings _ c.goes_on-is_cut.new.arena
    ∙ ap (λ (r : Round). r.settings) c.goes_on-is_cut.ensures.after ∙ after_turn-settings c.kept_turns.new.arena ∙ c.kept_turns.ensures.settings
