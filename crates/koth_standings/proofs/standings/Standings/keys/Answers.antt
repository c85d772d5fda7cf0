-- The key of one place more.
use Rattle.std.{proofs.Common.{◌∙◌, ℕ, List, [], ◌∷◌, ◌++◌, ap, ap₂, arith, sym}, specs.declared.cmp.Reverse.Reverse, proofs.lemmas.List.FromFn.map-range_with_len_more}
use Rattle.{koth_text.specs.Tally.points_of, koth_standings.specs.Ranking.key_at}
use Rattle.koth_standings.proofs.standings.Standings.keys.Goals as goal

pub loop-place-preserved : goal.loop-place-preserved
loop-place-preserved g c =
    let place = c.loop-place.place in
    c.in_ok-push.ensures.items
    ∙ ap₂ (λ (l : List (Reverse ℕ × ℕ)) (p : ℕ). l ++ (record { 0 = p }, place) ∷ []) c.loop-place.invariant (c.points.ensures ∙ ap points_of c.tally.ensures.value)
    ∙ sym (map-range_with_len_more (key_at c.args.self.now.counts) 0 place place (omega arith))
