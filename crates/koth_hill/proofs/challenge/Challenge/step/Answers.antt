use Rattle.{std.proofs.Common.ap, koth_hill.specs.Hill.Member, koth_hill.proofs.Challenges.{all_fought, one_left, under_way_still}}
use Rattle.koth_hill.proofs.challenge.Challenge.step.Goals as goal

pub returns-in-Some-clause-under_way : goal.returns-in-Some-clause-under_way
returns-in-Some-clause-under_way g c =
    under_way_still c.args.turns c.args.hill.now c.args.challenger.now c.args.self.now c.fight_on.new.self c.in-Some.member c.member-in-Some.inside.warrior.now c.settings.result.now c.as_slice.result.now
    c.in-Some.ensures.hill c.settings.ensures.value (ap (λ (m : Member). m.warrior) c.member-in-Some.view_is) c.as_slice.ensures.value c.in-Some.ensures.value
    c.requires.under_way c.fight_on.ensures.fought

pub returns-in-Some-clause-more : goal.returns-in-Some-clause-more
returns-in-Some-clause-more g c = λ none. one_left c.args.hill.now c.in-Some.member c.args.self.now.bouts c.as_slice.result.now c.as_slice.ensures.value c.in-Some.ensures.value

pub returns-in-None-clause-last : goal.returns-in-None-clause-last
returns-in-None-clause-last g c =
    c.verdict_by.ensures c.args.challenger.now
    (all_fought c.args.hill.now c.args.challenger.now c.args.self.now c.as_slice-in-None.result.now c.as_slice.result.now c.as_slice-in-None.ensures.value c.as_slice.ensures.value c.in-None.ensures.value c.requires.under_way)
