-- After the loop the array begins with the whole text as it is shown.
use Rattle.{std.proofs.{Common.{◌≡◌, length, map, take, arith, sym, ap, ◌∙◌}, lemmas.List.take_all}, war_types.specs.Title.shown, war_types.proofs.Titles.IsTitle-map-shown}
use Rattle.war_types.proofs.title.Title.of_shown.Goals as goal

pub invariant_of-result : goal.invariant_of-result
invariant_of-result c =
    let text = c.args.text.now in
    let i : c.loop-i.i ≡ length text = omega arith in
    let filled : take (length text) c.loop-i.bytes ≡ map shown text =
    ap (λ n. take n c.loop-i.bytes) (sym i) ∙ (c.loop-i.invariant.0 ∙ ap (map shown) (take_all c.loop-i.i text (omega arith))) in
    (rw filled (IsTitle-map-shown text c.requires.not_empty c.requires.short), c.requires.short)
