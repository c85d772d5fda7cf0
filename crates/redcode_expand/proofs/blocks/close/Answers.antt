use Rattle.{std.proofs.Common.{sym, ◌∙◌}, redcode_expand.specs.{Marks.line_in, Rest.counters_of}, redcode_expand.proofs.Marks.closed-bare}
use Rattle.redcode_expand.proofs.blocks.close.Goals as goal

pub returns-then-mark-clause-closed : goal.returns-then-mark-clause-closed
returns-then-mark-clause-closed g c =
    closed-bare c.args.settings.now (counters_of c.args.blocks.now) (line_in c.args.lines.now c.args.at) c.args.walk.now c.requires.word (sym c.mark.ensures.bare ∙ c.if-mark.true)
