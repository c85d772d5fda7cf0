use Rattle.{std.proofs.Common.{ℕ, ◌∙◌, List, ap, arith, map, sym}, koth_hill.specs.Standings.{entry_at, kept_in, points_among, standing_parts}}
use Rattle.{koth_hill.proofs.Places.{left-passed, left-taken}, koth_hill.proofs.points.points.Goals.{then-not-is_entry, else-not-is_entry}}
use Rattle.koth_hill.proofs.points.points.Goals as goal

pub loop-i-preserved : goal.loop-i-preserved
loop-i-preserved c =
    let ss = c.args.standings.now in
    let earned : List ℕ → ℕ = λ es. points_among (kept_in (map standing_parts ss)) es (entry_at (map standing_parts ss) c.args.place) in
    elim c.if-not-is_entry.branch [
      | then-not-is_entry w ↦
          (let more = ap earned (left-taken ss c.args.out c.loop-i.i _ c.loop-i-test.true (sym c.is_entry.ensures ∙ w.if-not-is_entry.true)) in
          record {
            value = omega (arith, w.sum-is, w.points_between-sum.ensures.value, c.loop-i.invariant.value, more);
            small = omega (arith, w.sum-is, w.points_between-sum.ensures.small, c.loop-i.invariant.small);
          })
      | else-not-is_entry w ↦
          (let same = ap earned (left-passed ss c.args.out c.loop-i.i _ c.loop-i-test.true (sym c.is_entry.ensures ∙ w.if-not-is_entry.false)) in
          record {
            value = omega (arith, w.sum-is, c.loop-i.invariant.value, same);
            small = omega (arith, w.sum-is, c.loop-i.invariant.small);
          })
    ]
