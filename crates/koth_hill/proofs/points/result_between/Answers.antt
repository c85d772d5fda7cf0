use Rattle.{std.proofs.Common.{◌≤◌, ◌∙◌, IfSome, Option, ap, subst, sym}, koth_match.specs.{declared.bout.Bout.Bout, Match.rounds_in}}
use Rattle.{koth_hill.specs.Kept.or_no_rounds, koth_hill.proofs.Places.{both-placed, rounds-placed}}
use Rattle.koth_hill.proofs.points.result_between.Goals as goal

pub returns-in-Some-clause-value : goal.returns-in-Some-clause-value
returns-in-Some-clause-value c =
    ap or_no_rounds (sym c.in-Some.is ∙ c.result_at.ensures ∙ sym (both-placed c.args.standings.now c.args.older c.args.younger _ c.requires.standings.apart c.requires.older c.requires.younger))

pub returns-in-None-clause-value : goal.returns-in-None-clause-value
returns-in-None-clause-value c =
    ap or_no_rounds (sym c.in-None.is ∙ c.result_at.ensures ∙ sym (both-placed c.args.standings.now c.args.older c.args.younger _ c.requires.standings.apart c.requires.older c.requires.younger))

pub returns-in-Some-clause-rounds : goal.returns-in-Some-clause-rounds
returns-in-Some-clause-rounds c =
    let P : Option Bout → Type 0 = λ o. IfSome o (λ b. rounds_in b ≤ 1000) in
    subst P (sym c.result_at.ensures ∙ c.in-Some.is) (rounds-placed c.args.standings.now c.args.older c.args.younger _ c.requires.standings.rounds c.requires.younger)
