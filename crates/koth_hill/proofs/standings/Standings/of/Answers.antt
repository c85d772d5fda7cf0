use Rattle.{std.proofs.{Common.{◌+◌, ◌∙◌, ap, arith, length, map}, lemmas.List.length_push}, koth_hill.specs.Standings.standing_parts}
use Rattle.koth_hill.proofs.ByEntry.{all-standings, many-standings, standing-more}
use Rattle.koth_hill.proofs.standings.Standings.of.Goals as goal

pub loop-member-init : goal.loop-member-init
loop-member-init g c = record { parts = ap (map standing_parts) c.new-standings.ensures; each = ap length c.new-standings.ensures }

pub push-requires : goal.push-requires
push-requires g c = omega (arith, c.loop-member.invariant.each, c.loop-member-test.true, c.requires)

pub loop-member-preserved : goal.loop-member-preserved
loop-member-preserved g c = record {
  parts = standing-more c.args.members.now c.loop-member.member-index c.member-item.result c.standing.result c.loop-member.standings c.push.new.self
      c.loop-member-test.true c.member-item.is c.standing.ensures c.push.ensures c.loop-member.invariant.parts;
  each = ap length c.push.ensures ∙ length_push c.loop-member.standings c.standing.result ∙ ap (λ n. n + 1) c.loop-member.invariant.each;
}

pub returns-clause-parts : goal.returns-clause-parts
returns-clause-parts g c = all-standings c.args.members.now c.loop-member.member-index c.loop-member.standings c.loop-member-test.false c.loop-member.invariant.parts

pub returns-clause-each : goal.returns-clause-each
returns-clause-each g c = many-standings c.args.members.now c.loop-member.standings (returns-clause-parts g c)
