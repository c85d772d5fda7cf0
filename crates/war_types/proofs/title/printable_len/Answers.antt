use Rattle.{std.proofs.lemmas.List.Elements.All-more, war_types.specs.Title.IsPrintable}
use Rattle.war_types.proofs.title.printable_len.Goals as goal

pub loop-i-preserved : goal.loop-i-preserved
loop-i-preserved c =
    All-more IsPrintable c.args.text.now c.loop-i.i 0 c.loop-i-test.true c.loop-i.invariant (c.is_printable.ensures.0 c.if-not-is_printable.false)
