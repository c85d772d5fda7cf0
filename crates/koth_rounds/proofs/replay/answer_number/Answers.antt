-- The page and the sentence are those of the round that is asked for.
use Rattle.koth_rounds.proofs.replay.answer_number.Goals as goal

pub returns : goal.returns
returns g c = record {
  older = c.args.pair.now.older;
  younger = c.args.pair.now.younger;
  older_comes = c.requires.pair.older;
  younger_comes = c.requires.pair.younger;
  number = c.args.number;
  asked = c.requires.shown;
  shown = c.in_ok-text.ensures;
  said = record { told = c.told_round-told.result; ends = c.told_round-told.ensures.told; tells = c.in_ok-note.ensures };
}
