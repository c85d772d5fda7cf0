use Rattle.{std.proofs.Common.{ap}, mars_words.specs.Words.Word, mars_words.proofs.Words.{IsWordOf, unmarked, packed, IsWordOf-packed}}
use Rattle.mars_words.proofs.word.Word.of.Goals as goal

packed_word : (c : goal.After-place_of) → IsWordOf (unmarked c.args.i) (packed c.wide.result c.wide-2.result c.kind_of-kind.result c.place_of.result)
packed_word c =
    IsWordOf-packed c.args.i _ _ _ _ c.wide.ensures.value c.wide-2.ensures.value c.kind_of-kind.ensures.value c.place_of.ensures c.wide.ensures.small c.wide-2.ensures.small

pub invariant_of-result : goal.invariant_of-result
invariant_of-result c = (packed_word c).word

pub returns-clause-instr : goal.returns-clause-instr
returns-clause-instr c = ap (λ (w : Word). w.instr) (packed_word c).is

pub returns-clause-unmarked : goal.returns-clause-unmarked
returns-clause-unmarked c = ap (λ (w : Word). w.is_marked) (packed_word c).is
