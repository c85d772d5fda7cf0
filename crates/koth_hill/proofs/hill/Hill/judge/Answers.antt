use Rattle.{std.proofs.Common.{◌∙◌, ap, refl}, koth_hill.specs.{declared.verdict.Verdict.Verdict, Kept.{fresh, hill_in, known}}}
use Rattle.koth_hill.proofs.{Verdicts.{verdict-entry, verdict-bouts}, HillLaws.least-falls, Truths.true-verdict}
use Rattle.koth_hill.proofs.hill.Hill.judge.Goals as goal

pub returns-clause-verdict : goal.returns-clause-verdict
returns-clause-verdict g c = λ holds.
    c.fight_out.ensures.verdict ∙ true-verdict c.args.self.now c.args.challenger.now c.fight_out.ensures.hill holds

pub returns-clause-bouts : goal.returns-clause-bouts
returns-clause-bouts g c =
    ap (λ (v : Verdict). v.bouts) c.fight_out.ensures.verdict
    ∙ verdict-bouts (known c.args.self.now c.args.challenger.now) (fresh c.args.self.now c.args.challenger.now) (hill_in c.args.self.now) c.args.challenger.now

pub returns-clause-entry : goal.returns-clause-entry
returns-clause-entry g c =
    ap (λ (v : Verdict). v.entry) c.fight_out.ensures.verdict
    ∙ verdict-entry (known c.args.self.now c.args.challenger.now) (fresh c.args.self.now c.args.challenger.now) (hill_in c.args.self.now) c.args.challenger.now

pub returns-clause-lowest : goal.returns-clause-lowest
returns-clause-lowest g c = λ holds.
    least-falls (hill_in c.args.self.now) (hill_in c.args.self.now) c.args.challenger.now c.fight_out.result refl c.fight_out.ensures.hill.hill (returns-clause-verdict g c holds)

pub fight_out-requires-clause-under_way : goal.fight_out-requires-clause-under_way
fight_out-requires-clause-under_way g c = c.new-challenge.ensures c.args.challenger.now
