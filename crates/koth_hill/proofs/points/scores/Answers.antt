use Rattle.{std.proofs.Common.{ℕ, ◌+◌, ◌∙◌, ◌++◌, ◌∷◌, [], List, ap, ap₂, append_assoc, arith, length, map, sym}, std.proofs.lemmas.List.length_push}
use Rattle.koth_hill.specs.{declared.score.Score.Score, Standings.{entries_in, entry_at, kept_in, left, score_among, standing_parts}}
use Rattle.{koth_hill.proofs.Places.{entry_standing, left-from, left-passed, left-taken}, koth_hill.proofs.points.scores.Goals.{then-not-is_entry, else-not-is_entry}}
use Rattle.koth_hill.proofs.points.scores.Goals as goal

pub loop-i-preserved : goal.loop-i-preserved
loop-i-preserved c =
    let ss = c.args.standings.now in
    let scored : ℕ → Score = λ e. score_among (kept_in (map standing_parts ss)) (left c.args.out (entries_in (map standing_parts ss))) e in
    let before : List Score = c.loop-i.scores in
    elim c.if-not-is_entry.branch [
      | then-not-is_entry w ↦ record {
        value = ap (λ (xs : List Score). xs ++ map scored (left-from ss c.args.out (c.loop-i.i + 1))) (w.scores-is ∙ w.push.ensures
            ∙ ap₂ (λ (e n : ℕ). before ++ record { entry = e; points = n } ∷ []) (entry_standing ss c.loop-i.i _ c.loop-i-test.true) w.points.ensures)
            ∙ append_assoc before (scored (entry_at (map standing_parts ss) c.loop-i.i) ∷ []) _
            ∙ ap (λ (es : List ℕ). before ++ map scored es) (sym (left-taken ss c.args.out c.loop-i.i _ c.loop-i-test.true (sym c.is_entry.ensures ∙ w.if-not-is_entry.true)))
            ∙ c.loop-i.invariant.value;
        few = omega (arith, ap length (w.scores-is ∙ w.push.ensures) ∙ length_push before _, c.loop-i.invariant.few);
      }
      | else-not-is_entry w ↦ record {
        value = ap₂ (λ (xs : List Score) (es : List ℕ). xs ++ map scored es) w.scores-is (sym (left-passed ss c.args.out c.loop-i.i _ c.loop-i-test.true (sym c.is_entry.ensures ∙ w.if-not-is_entry.false)))
            ∙ c.loop-i.invariant.value;
        few = omega (arith, ap length w.scores-is, c.loop-i.invariant.few);
      }
    ]
