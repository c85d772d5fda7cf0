-- Each part is joined to those before it.
use Rattle.{std.proofs.{Common.{◌≡◌, ◌∙◌, ◌+◌, ◌-◌, length, refl, sym, subst, arith}, KnownBytes.{Keeps-refl, Keeps-trans}}, koth_standings.specs.PartText.head_parts}
use Rattle.koth_rank.{specs.Join.Joined, proofs.PartsJoined.{fails_after, fails_all, one_fails}}
use Rattle.koth_rank.proofs.joining.join_all.Goals as goal

pub loop-place-init : goal.loop-place-init
loop-place-init g c = record { joined = c.requires.none; many = refl; kept = Keeps-refl (g.E.Write.contents c.args.errors.now) }

pub loop-place-preserved : goal.loop-place-preserved
loop-place-preserved g c =
    let head = head_parts c.args.first in
    let place = c.loop-place.place in
    let old = c.loop-place.standings in
    let back : place + 1 - 1 ≡ place = omega arith in
    record {
      joined = subst (λ m. Joined head m (place + 1) c.join_file.new.standings) (sym c.join_file.ensures.places)
          (c.in-Done.ensures.joins.0 (subst (λ k. Joined head (length old.counts) k old) (sym back) c.loop-place.invariant.joined));
      many = c.join_file.ensures.places ∙ c.loop-place.invariant.many;
      kept = Keeps-trans _ _ _ c.loop-place.invariant.kept c.in-Done.ensures.joins.1;
    }

pub returns-in_default-clause-joins : goal.returns-in_default-clause-joins
returns-in_default-clause-joins g c = fails_all _ _ _ _ c.refuse.result _ _ (fails_after c.refuse.result _ _ _ c.loop-place.invariant.kept c.refuse.ensures)

pub returns-in_default-join_file-clause-joins : goal.returns-in_default-join_file-clause-joins
returns-in_default-join_file-clause-joins g c =
    fails_all _ _ _ _ c.join_file.result _ _ (fails_after c.join_file.result _ _ _ c.loop-place.invariant.kept
    (one_fails _ _ _ _ _ c.join_file.result _ _ c.in_default-join_file.not-Done c.join_file.ensures.joins))

pub returns-clause-joins : goal.returns-clause-joins
returns-clause-joins g c =
    let head = head_parts c.args.first in
    let st = c.loop-place.standings in
    let all : c.loop-place.place ≡ length c.args.order.now = omega (arith, c.loop-place.auto.place-end, c.loop-place-test.false) in
    (subst (λ m. Joined head m (length c.args.order.now) st) c.loop-place.invariant.many (subst (λ k. Joined head (length st.counts) k st) all c.loop-place.invariant.joined), c.loop-place.invariant.kept)
