use Rattle.{std.proofs.Common.ap, mars_words.specs.Words.Word, mars_words.proofs.Words.IsWordOf-mark}
use Rattle.mars_words.proofs.word.Word.marked.Goals as goal

pub invariant_of-result : goal.invariant_of-result
invariant_of-result c = (IsWordOf-mark c.args.self c.self.inside.bits c.self.invariant c.self.view_is).word

pub returns-clause-instr : goal.returns-clause-instr
returns-clause-instr c = ap (λ (w : Word). w.instr) (IsWordOf-mark c.args.self c.self.inside.bits c.self.invariant c.self.view_is).is

pub returns-clause-mark : goal.returns-clause-mark
returns-clause-mark c = ap (λ (w : Word). w.is_marked) (IsWordOf-mark c.args.self c.self.inside.bits c.self.invariant c.self.view_is).is
