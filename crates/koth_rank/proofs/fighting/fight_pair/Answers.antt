-- The match is that of the two members at the places of the pair.
use Rattle.{std.proofs.{Common.{◌<◌, ◌++◌, ◌∷◌, ◌∙◌, [], length, ap, arith, subst, sym}}, koth_contests.specs.Met.EndsLine}
use Rattle.{koth_field.specs.Field.{entrants_of}, koth_standings.specs.Standings.AreOf, koth_rank.{specs.Matches.{pair_tally}, proofs.Fought.{kept_is, line_is, member_at, pair_is}}}
use Rattle.koth_rank.proofs.fighting.fight_pair.Goals as goal

pub returns-clause-counts : goal.returns-clause-counts
returns-clause-counts g c ps are =
    let s = c.args.settings.now in
    let entrants = entrants_of c.args.members.now in
    let mine = pair_tally s c.args.plan.terms.both entrants in
    let below : c.args.pair.older < length c.args.members.now = omega (arith, c.requires.pair.apart, c.requires.pair.within) in
    let first = member_at c.args.members.now c.args.pair.older c.index-members-pair.result below c.index-members-pair.is in
    let second = member_at c.args.members.now c.args.pair.younger c.index-members-pair-2.result c.requires.pair.within c.index-members-pair-2.is in
    let is = pair_is s c.args.plan.terms.both entrants c.args.pair _ _ c.contest_tally-tally.result first second c.contest_tally-tally.ensures.tally in
    subst (λ n. AreOf mine n (ps ++ c.args.pair ∷ []) c.add.new.self) c.requires.many
    (c.add.ensures.counts mine ps is (subst (λ n. AreOf mine n ps c.args.fought.now.standings) (sym c.requires.many) are))

pub returns-clause-kept : goal.returns-clause-kept
returns-clause-kept g c done =
    let s = c.args.settings.now in
    let below : c.args.pair.older < length c.args.members.now = omega (arith, c.requires.pair.apart, c.requires.pair.within) in
    let first = member_at c.args.members.now c.args.pair.older c.index-members-pair.result below c.index-members-pair.is in
    let second = member_at c.args.members.now c.args.pair.younger c.index-members-pair-2.result c.requires.pair.within c.index-members-pair-2.is in
    c.keep_and_tell.ensures.kept done
    ∙ ap (λ l. c.args.fought.now.kept.items ++ l)
    (kept_is s c.args.plan (entrants_of c.args.members.now) c.args.pair _ _ c.contest_tally-tally.result first second c.contest_tally-tally.ensures.tally)

pub returns-clause-ends : goal.returns-clause-ends
returns-clause-ends g c =
    let s = c.args.settings.now in
    let below : c.args.pair.older < length c.args.members.now = omega (arith, c.requires.pair.apart, c.requires.pair.within) in
    let first = member_at c.args.members.now c.args.pair.older c.index-members-pair.result below c.index-members-pair.is in
    let second = member_at c.args.members.now c.args.pair.younger c.index-members-pair-2.result c.requires.pair.within c.index-members-pair-2.is in
    subst (λ line. EndsLine line c.keep_and_tell.result (g.O.Write.contents c.args.output.now) (g.O.Write.contents c.keep_and_tell.new.output)
    (g.E.Write.contents c.args.errors.now) (g.E.Write.contents c.keep_and_tell.new.errors))
    (line_is s c.args.plan.terms (entrants_of c.args.members.now) c.args.pair _ _ c.contest_tally-tally.result first second c.contest_tally-tally.ensures.tally) c.keep_and_tell.ensures.ends
