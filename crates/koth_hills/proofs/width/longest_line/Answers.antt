-- A byte more, which ends a line or stands in it.
use Rattle.std.proofs.Common.{◌∙◌, ap, arith, max, sym}
use Rattle.{std.proofs.lemmas.List.at_drop_all, koth_hills.specs.Width.longest_from, koth_hills.proofs.Widths.{line_ends, line_goes_on}}
use Rattle.koth_hills.proofs.width.longest_line.Goals.{then-byte-eq10, else-byte-eq10}
use Rattle.koth_hills.proofs.width.longest_line.Goals as goal

pub loop-byte-preserved : goal.loop-byte-preserved
loop-byte-preserved c =
    let text = c.args.text.now in
    let place = c.loop-byte.byte-index in
    let before = c.loop-byte.before in
    elim c.if-byte-eq10.branch [
      | then-byte-eq10 w ↦ record {
        due = line_ends text place before c.loop-byte-test.true c.loop-byte.longest _ _ _ w.if-byte-eq10.true
            (w.longest-is ∙ w.max-longest.ensures) w.before-is c.loop-byte.invariant.due;
        within = omega (arith, w.before-is);
      }
      | else-byte-eq10 w ↦ record {
        due = line_goes_on text place before c.loop-byte-test.true c.loop-byte.longest _ _ _ w.if-byte-eq10.false
            w.longest-is w.before-is c.loop-byte.invariant.due;
        within = omega (arith, w.before-is, c.loop-byte.invariant.within);
      }
    ]

pub returns : goal.returns
returns c =
    c.max.ensures
    ∙ ap (λ n. max n c.loop-byte.longest) (sym (at_drop_all (longest_from c.loop-byte.before) c.args.text.now c.loop-byte.byte-index c.loop-byte-test.false))
    ∙ c.loop-byte.invariant.due
