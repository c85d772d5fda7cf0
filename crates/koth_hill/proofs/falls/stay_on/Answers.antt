use Rattle.{std.proofs.Common.{◌^◌, arith, refl}, koth_hill.proofs.Staying.{age-left, all-stayed, stayed-more}}
use Rattle.koth_hill.proofs.falls.stay_on.Goals as goal

pub loop-member-preserved : goal.loop-member-preserved
loop-member-preserved g c =
    stayed-more c.args.place c.args.members.now _ _ _ _ c.loop-member-test.true c.loop-member.invariant c.member-item.is c.stay.ensures

pub loop-member-init : goal.loop-member-init
loop-member-init g c = refl

pub stay-requires : goal.stay-requires
stay-requires g c = age-left c.args.place c.args.members.now c.loop-member.members c.loop-member.member-index c.member-item.result (2 ^ 64) c.loop-member-test.true c.loop-member.invariant c.requires

pub returns : goal.returns
returns g c = all-stayed c.args.place c.args.members.now c.loop-member.members c.loop-member.member-index c.loop-member-test.false c.loop-member.invariant

pub bounds-members-member-index : goal.bounds-members-member-index
bounds-members-member-index g c = omega (arith, c.loop-member-test.true, c.loop-member.auto.members)
