-- The round begins as that of the match.
use Rattle.{std.proofs.Common.{◌+◌, ap}, koth_replay.proofs.Histories.replays}
use Rattle.koth_replay.proofs.playing.replay.Goals as goal

pub returns-clause-replay : goal.returns-clause-replay
returns-clause-replay g c =
    replays c.args.settings.now c.args.arena.now.settings c.args.older.now c.args.younger.now c.args.round c.args.most c.seed_of_round.result c.position-position.result
    c.core.result c.start.result _ c.first_in.result c.begin.new.self c.played.result
    c.requires.settings c.seed_of_round.ensures.value c.position-position.ensures.value c.first_in.ensures c.begin.ensures.opening c.begin.ensures.round
    c.core.ensures.value c.start.ensures.value (ap (λ n. c.position-position.result + n) c.start-2.ensures.value) c.played.ensures.replay
