use Rattle.{std.proofs.Common.{sym, ap, subst, ◌∙◌}, war_types.specs.Warrior.HasNumbersBelow, mars_words.specs.Words.Word, mars_words.proofs.Words.{IsWordOf-another_a, IsWordOf-another_b}}
use Rattle.mars_words.proofs.word.Word.with_number.Goals as goal

pub in_bits-requires : goal.in_bits-requires
in_bits-requires c = (IsWordOf-another_a c.args.self c.self.inside.bits c.args.n _ c.self.invariant c.self.view_is c.from.ensures c.requires).word

pub returns-in-A-clause-value : goal.returns-in-A-clause-value
returns-in-A-clause-value c =
    rw c.in-A.is (ap (λ (w : Word). w.instr) (c.in_bits.ensures ∙ (IsWordOf-another_a c.args.self c.self.inside.bits c.args.n _ c.self.invariant c.self.view_is c.from.ensures c.requires).is))

pub returns-in-A-clause-below : goal.returns-in-A-clause-below
returns-in-A-clause-below c size numbers small =
    subst (λ (w : Word). HasNumbersBelow size w.instr) (sym (c.in_bits.ensures ∙ (IsWordOf-another_a c.args.self c.self.inside.bits c.args.n _ c.self.invariant c.self.view_is c.from.ensures c.requires).is))
    (record { a = small; b = numbers.b })

pub returns-in-A-clause-mark : goal.returns-in-A-clause-mark
returns-in-A-clause-mark c = ap (λ (w : Word). w.is_marked) (c.in_bits.ensures ∙ (IsWordOf-another_a c.args.self c.self.inside.bits c.args.n _ c.self.invariant c.self.view_is c.from.ensures c.requires).is)

pub in_bits-requires-in-B : goal.in_bits-requires-in-B
in_bits-requires-in-B c = (IsWordOf-another_b c.args.self c.self.inside.bits c.args.n _ c.self.invariant c.self.view_is c.from-in-B.ensures c.requires).word

pub returns-in-B-clause-value : goal.returns-in-B-clause-value
returns-in-B-clause-value c =
    rw c.in-B.is (ap (λ (w : Word). w.instr) (c.in_bits-in-B.ensures ∙ (IsWordOf-another_b c.args.self c.self.inside.bits c.args.n _ c.self.invariant c.self.view_is c.from-in-B.ensures c.requires).is))

pub returns-in-B-clause-below : goal.returns-in-B-clause-below
returns-in-B-clause-below c size numbers small =
    subst (λ (w : Word). HasNumbersBelow size w.instr) (sym (c.in_bits-in-B.ensures ∙ (IsWordOf-another_b c.args.self c.self.inside.bits c.args.n _ c.self.invariant c.self.view_is c.from-in-B.ensures c.requires).is))
    (record { a = numbers.a; b = small })

pub returns-in-B-clause-mark : goal.returns-in-B-clause-mark
returns-in-B-clause-mark c = ap (λ (w : Word). w.is_marked) (c.in_bits-in-B.ensures ∙ (IsWordOf-another_b c.args.self c.self.inside.bits c.args.n _ c.self.invariant c.self.view_is c.from-in-B.ensures c.requires).is)
