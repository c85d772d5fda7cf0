-- Each match adds its pair, until none is left.
use Rattle.{std.proofs.{Common.{◌≤◌, ◌∙◌, length, arith}}}
use Rattle.koth_rank.{specs.Matches.pairs_fought, proofs.Fought.{as_many, ends_all, ends_early, many_counts, none_so_far, notes_kept, notes_more, notes_none, one_more, room}}
use Rattle.koth_rank.proofs.fighting.fight_pairs.Goals as goal

pub loop-pair-init : goal.loop-pair-init
loop-pair-init g c =
    let most : length (pairs_fought c.args.plan (length c.args.members.now)) ≤ 4294967296 = omega (arith, rw (c.number_of-number.ensures, c.count_of-count.ensures) at (c.of-left.ensures.few 65536 c.requires.few), c.requires.few) in
    record {
      fought = none_so_far _ _ _ _ c.of-left.result _ _ _ (rw (c.number_of-number.ensures, c.count_of-count.ensures) at c.of-left.ensures.left) c.of-left.ensures.next c.of-left.ensures.places most c.requires.none c.requires.empty;
      notes = notes_none c.args.plan.terms.view (g.E.Write.contents c.args.errors.now);
      settings = c.requires.settings;
    }

pub loop-pair-preserved : goal.loop-pair-preserved
loop-pair-preserved g c = record {
  fought = one_more _ _ _ _ _ _ c.in-Some.pair _ _ _ _ _ c.loop-pair.invariant.fought c.in-Some.ensures.left _ _ c.next.ensures.next c.next.ensures.places
      c.fight_pair.ensures.counts (c.fight_pair.ensures.kept c.in-Done.is) c.in-Done.ensures.ends.0;
  notes = notes_more c.args.plan.terms.view _ _ _
      (notes_more c.args.plan.terms.view _ _ _ c.loop-pair.invariant.notes (notes_kept c.args.plan.terms.view _ _ c.in-Done.ensures.ends.1)) c.tell.ensures;
  settings = c.fight_pair.ensures.settings ∙ c.loop-pair.invariant.settings;
}

pub fight_pair-requires-clause-few : goal.fight_pair-requires-clause-few
fight_pair-requires-clause-few g c = room _ _ _ _ _ c.next.new.self c.in-Some.pair _ _ _ _ (g.O.Write.contents c.loop-pair.output) c.loop-pair.invariant.fought c.in-Some.ensures.left

pub fight_pair-requires-clause-many : goal.fight_pair-requires-clause-many
fight_pair-requires-clause-many g c = many_counts _ _ _ _ c.loop-pair.invariant.fought.counts

pub returns-in_default-fight_pair : goal.returns-in_default-fight_pair
returns-in_default-fight_pair g c =
    ends_early _ _ _ _ (as_many c.args.members.now) _ c.next.new.self c.in-Some.pair _ _ _ _ _ _ _ _ _ _ c.loop-pair.invariant.fought c.in-Some.ensures.left c.loop-pair.invariant.notes
    c.fight_pair.result c.in_default-fight_pair.not-Done c.fight_pair.ensures.ends

pub returns : goal.returns
returns g c =
    ends_all _ _ _ _ (as_many c.args.members.now) _ _ _ _ _ _ _ c.loop-pair.invariant.fought c.in_default.ensures.left c.loop-pair.invariant.notes
