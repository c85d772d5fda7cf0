-- All rounds are those that the settings say.
use Rattle.{std.proofs.Common.{◌≡◌, ◌∙◌, arith, ap}, koth_match.specs.{Match.{match_of, rounds_in}}}
use Rattle.koth_match.proofs.Kept.{so_many}
use Rattle.koth_match.proofs.rounds.fight.Goals as goal

pub play-requires-clause-played : goal.play-requires-clause-played
play-requires-clause-played g c = c.new-fought.ensures.played c.args.older.now c.args.younger.now

pub returns-clause-bout : goal.returns-clause-bout
unfolding match_of
returns-clause-bout g c =
    let all : c.play.new.self.round ≡ c.args.settings.now.rounds = omega (arith, c.play.ensures.rounds, c.new-fought.ensures.rounds, c.from-all.ensures, c.rounds.ensures.value) in
    c.bout.ensures ∙ rw all at c.play.ensures.played.bout

pub returns-clause-rounds : goal.returns-clause-rounds
returns-clause-rounds g c =
    let all : c.play.new.self.round ≡ c.args.settings.now.rounds = omega (arith, c.play.ensures.rounds, c.new-fought.ensures.rounds, c.from-all.ensures, c.rounds.ensures.value) in
    ap rounds_in c.bout.ensures ∙ so_many c.args.settings.now c.args.older.now c.args.younger.now c.play.new.self.bout c.play.new.self.round c.play.ensures.played.bout ∙ all
