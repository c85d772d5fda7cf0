use Rattle.{std.proofs.{Common.{rules, ◌≡◌, take, drop, ap, ◌∙◌}, lemmas.List.take_at}, hill_bytes.specs.Layout.filled, hill_bytes.proofs.SlotBytes.{filled-zeros, length-filled}}
use Rattle.hill_bytes.proofs.slot.title_at.Goals as goal

pub returns : goal.returns
returns c = λ title rest is stands.
    let copied : c.copy_from_slice.new.self ≡ take 48 (drop c.args.at c.args.sector.now) = search rules in
    c.read.ensures.every title is (copied ∙ ap (take 48) stands ∙ take_at (filled 48 title) rest 48 (length-filled 48 title) ∙ filled-zeros 48 title is.short)
