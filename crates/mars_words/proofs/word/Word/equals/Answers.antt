use Rattle.mars_words.proofs.Words.{are_equal-shifted}
use Rattle.mars_words.proofs.word.Word.equals.Goals as goal

pub returns : goal.returns
returns c = are_equal-shifted c.args.self c.args.other c.self.inside.bits c.other.inside.bits c.self.invariant c.other.invariant c.self.view_is c.other.view_is
