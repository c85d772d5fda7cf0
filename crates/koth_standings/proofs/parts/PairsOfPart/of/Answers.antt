-- The parts share out the pairs of the field.
use Rattle.std.proofs.Common.{◌∙◌, ◌-◌, ap, arith}
use Rattle.{koth_standings.specs.{Pairs.pairs, Parts.each_nth}, koth_standings.proofs.Shared.{counts_shared, few_of_part, only_part, shares_out}}
use Rattle.koth_standings.proofs.parts.PairsOfPart.of.Goals as goal

pub returns-clause-left : goal.returns-clause-left
returns-clause-left c =
    ap (each_nth c.args.count c.saturating_sub.result) c.of.ensures.left
    ∙ ap (λ k. each_nth c.args.count k (pairs c.args.places)) c.saturating_sub.ensures

pub returns-clause-few : goal.returns-clause-few
returns-clause-few c = λ m most.
    let few = few_of_part c.args.count (c.args.number - 1) (pairs c.args.places) in
    omega (arith, few, c.of.ensures.few m most)

pub returns-clause-shared : goal.returns-clause-shared
returns-clause-shared c = λ some. shares_out c.args.count (pairs c.args.places) some

pub returns-clause-counts : goal.returns-clause-counts
returns-clause-counts c = λ match_of some.
    counts_shared match_of c.args.places c.args.count (pairs c.args.places) (shares_out c.args.count (pairs c.args.places) some)

pub returns-clause-whole : goal.returns-clause-whole
returns-clause-whole c = only_part (pairs c.args.places)
