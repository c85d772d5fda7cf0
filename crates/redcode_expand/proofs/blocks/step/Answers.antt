use Rattle.{std.proofs.{lemmas.Grind.common_steps, Common.{arith, sym, ◌∙◌}}, redcode_lines.specs.Views.line_read, redcode_expand.specs.{Marks.line_in, Rest.counters_of}}
use Rattle.redcode_expand.proofs.{GoingOn.{line-fails, line-goes-on}, GoingSteps.line-taken, Latest.kept-later, Marks.{word-for, word-rof}, Short.{fails-read, step-read}}
use Rattle.redcode_expand.proofs.blocks.step.Goals as goal

pub returns-in_ok-step-in-Neither-clause-kept : goal.returns-in_ok-step-in-Neither-clause-kept
returns-in_ok-step-in-Neither-clause-kept g c =
    let cs = counters_of c.args.blocks.now in
    kept-later c.args.settings.now c.args.lines.now cs cs c.args.walk.now c.step.new.self c.args.counts.now c.rise-in-Neither.new.self c.in_ok-rise-in-Neither.ensures c.requires.kept

pub begin-requires-clause-word : goal.begin-requires-clause-word
begin-requires-clause-word g c = word-for _ (sym c.mark.ensures.edge ∙ c.in-For.is)

pub end_copy-requires-clause-word : goal.end_copy-requires-clause-word
end_copy-requires-clause-word g c = word-rof _ (sym c.mark.ensures.edge ∙ c.in-Rof.is)

pub returns-in_err-step-in-Neither-clause-goes_on : goal.returns-in_err-step-in-Neither-clause-goes_on
returns-in_err-step-in-Neither-clause-goes_on g c =
    let line = line_in c.args.lines.now c.args.at in
    let fails = line-fails c.args.settings.now c.args.lines.now c.args.blocks.now c.args.at c.args.walk.now _ c.requires.some c.requires.goes_on (sym c.mark.ensures.edge ∙ c.in-Neither.is)
    (fails-read c.args.settings.now (counters_of c.args.blocks.now) line (line_read c.shortened.result) c.args.walk.now _ c.shortened.ensures c.in_err-step-in-Neither.ensures.step) in
    grind (arith, common_steps)

pub returns-in_ok-step-in-Neither-clause-goes_on : goal.returns-in_ok-step-in-Neither-clause-goes_on
returns-in_ok-step-in-Neither-clause-goes_on g c =
    let line = line_in c.args.lines.now c.args.at in
    line-goes-on c.args.settings.now c.args.lines.now c.args.blocks.now c.args.at c.args.walk.now c.step.new.self c.requires.some c.requires.goes_on
    (sym c.mark.ensures.edge ∙ c.in-Neither.is) c.requires.opened
    (sym (step-read c.args.settings.now (counters_of c.args.blocks.now) line (line_read c.shortened.result) c.args.walk.now c.shortened.ensures) ∙ c.in_ok-step-in-Neither.ensures.step)
    c.in_ok-step-in-Neither.ensures.counted.0 c.in_ok-step-in-Neither.ensures.counted.1 c.requires.few

pub returns-in_ok-step-in-Neither-clause-taken : goal.returns-in_ok-step-in-Neither-clause-taken
returns-in_ok-step-in-Neither-clause-taken g c =
    let line = line_in c.args.lines.now c.args.at in
    omega (
      arith,
      line-taken c.args.settings.now c.args.lines.now c.args.blocks.now c.args.at c.args.walk.now c.step.new.self c.requires.some c.requires.goes_on
          (sym c.mark.ensures.edge ∙ c.in-Neither.is)
          (sym (step-read c.args.settings.now (counters_of c.args.blocks.now) line (line_read c.shortened.result) c.args.walk.now c.shortened.ensures) ∙ c.in_ok-step-in-Neither.ensures.step),
    )

pub overflow_add-result : goal.overflow_add-result
overflow_add-result g c = omega (arith, c.requires.some, c.requires.few)
