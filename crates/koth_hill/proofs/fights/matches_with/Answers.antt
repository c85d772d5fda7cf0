use Rattle.{std.proofs.{Common.{◌∙◌, ◌≡◌, All, List, arith, refl, subst, sym}, lemmas.List.Elements.All-nil}, koth_match.specs.{declared.bout.Bout.Bout, Match.rounds_in}}
use Rattle.koth_hill.proofs.Matches.{all-matched, fits-at, many-matches, matched-more, rounds-more}
use Rattle.koth_hill.proofs.fights.matches_with.Goals as goal

pub fight-requires-clause-older : goal.fight-requires-clause-older
fight-requires-clause-older g c =
    fits-at c.args.settings.now c.args.older.now c.loop-member.member-index c.member-item.result c.warrior.result.now
    c.loop-member-test.true c.member-item.is c.warrior.ensures c.requires.older

pub loop-member-preserved : goal.loop-member-preserved
loop-member-preserved g c = record {
  value = matched-more c.args.settings.now c.args.older.now c.loop-member.member-index c.member-item.result c.args.warrior.now c.warrior.result.now c.loop-member.bouts c.push.new.self c.fight.result
      c.loop-member-test.true c.member-item.is c.warrior.ensures c.fight.ensures.bout c.push.ensures c.loop-member.invariant.value;
  rounds = rounds-more c.args.settings.now.rounds c.loop-member.bouts c.push.new.self c.fight.result c.fight.ensures.rounds c.push.ensures c.loop-member.invariant.rounds;
  settings = c.fight.ensures.settings ∙ c.loop-member.invariant.settings;
}

pub loop-member-init : goal.loop-member-init
loop-member-init g c =
    let P : List Bout → Type 0 = λ xs. All (λ b. rounds_in b ≡ c.args.settings.now.rounds) xs in
    record { value = c.new-bouts.ensures; rounds = subst P (sym c.new-bouts.ensures) (All-nil (λ b. rounds_in b ≡ c.args.settings.now.rounds)); settings = refl }

pub fight-requires-clause-settings : goal.fight-requires-clause-settings
fight-requires-clause-settings g c = c.loop-member.invariant.settings ∙ c.requires.settings

pub fight-requires-clause-younger : goal.fight-requires-clause-younger
fight-requires-clause-younger g c = c.requires.fits

pub push-requires : goal.push-requires
push-requires g c =
    omega (arith, c.loop-member-test.true, c.requires.few, many-matches c.args.settings.now c.args.older.now c.loop-member.member-index c.args.warrior.now c.loop-member.bouts (omega (arith, c.loop-member-test.true)) c.loop-member.invariant.value)

pub returns-clause-value : goal.returns-clause-value
returns-clause-value g c = all-matched c.args.settings.now c.args.older.now c.loop-member.member-index c.args.warrior.now c.loop-member.bouts c.loop-member-test.false c.loop-member.invariant.value

pub returns-clause-rounds : goal.returns-clause-rounds
returns-clause-rounds g c = c.loop-member.invariant.rounds

pub returns-clause-settings : goal.returns-clause-settings
returns-clause-settings g c = c.loop-member.invariant.settings
