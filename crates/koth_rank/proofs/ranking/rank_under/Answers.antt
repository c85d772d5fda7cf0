-- The field is ranked, or is too large, or memory ran out.
use Rattle.{std.proofs.{Common.{◌<◌, inl, inr, length, arith, subst}, KnownBytes.Keeps-refl}, koth_contests.{specs.Opponents.{AreFiles, names_of}, proofs.Meetings.as_many}, koth_rank.{specs.Rank.{EndsRankUnder, most_of, plan_of}, proofs.Ranked.none_found}}
use Rattle.koth_rank.proofs.ranking.rank_under.Goals as goal

pub returns-in_default : goal.returns-in_default
returns-in_default g c = none_found c.args.settings.now (plan_of c.args.ranking.now c.args.view) c.args.ranking.now.field.items c.memory.result c.tell.result _ _ _ c.memory.ensures c.tell.ensures

pub returns-then-len-most_of : goal.returns-then-len-most_of
returns-then-len-most_of g c =
    let many : most_of c.plan_of-plan.result < length (names_of c.in-Ok.sources.items) = omega (arith, as_many c.in-Ok.sources.items, c.most_of.ensures.value, c.if-len-most_of.true) in
    subst (λ p. EndsRankUnder c.args.settings.now p c.args.ranking.now.field.items c.refuse_many.result (g.O.Write.contents c.args.output.now) (g.O.Write.contents c.args.output.now)
    (g.E.Write.contents c.args.errors.now) (g.E.Write.contents c.refuse_many.new.errors)) c.plan_of-plan.ensures
    (inl (_, subst (λ l. AreFiles l (names_of c.in-Ok.sources.items)) c.as_slice.ensures.value c.in-Ok.ensures, inr (many, c.refuse_many.ensures.status, Keeps-refl (g.O.Write.contents c.args.output.now), c.refuse_many.ensures.told)))

pub returns : goal.returns
returns g c =
    subst (λ p. EndsRankUnder c.args.settings.now p c.args.ranking.now.field.items c.rank_sources.result (g.O.Write.contents c.args.output.now) (g.O.Write.contents c.rank_sources.new.output)
    (g.E.Write.contents c.args.errors.now) (g.E.Write.contents c.rank_sources.new.errors)) c.plan_of-plan.ensures
    (inl (
      _,
      subst (λ l. AreFiles l (names_of c.in-Ok.sources.items)) c.as_slice.ensures.value c.in-Ok.ensures,
      inl (rw c.as_slice-found.ensures.value at c.rank_sources.ensures),
    ))
