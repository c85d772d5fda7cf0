-- One source more.
use Rattle.std.proofs.Common.{ap, sym, ◌∙◌}
use Rattle.{koth_words.specs.Sources.place, koth_commands.{specs.{Check.is_over, Report.manner_of}, proofs.Checks.{next_left, next_taken, none_checked, one_next, stopped}}}
use Rattle.koth_commands.proofs.check.check_files.Goals as goal

pub loop-source-init : goal.loop-source-init
loop-source-init g c = none_checked _ _ _

pub returns-then-is_over : goal.returns-then-is_over
returns-then-is_over g c =
    let over = ap (λ b. is_over b c.deliver-end.result) (sym c.is_ok-is_read.ensures.value) ∙ sym c.is_over.ensures ∙ c.if-is_over.true in
    stopped _ _ _ _ _ _ _ _ c.loop-source.source-index _ _ c.check_source-done.result c.loop-source.invariant c.check_source-done.ensures c.deliver-end.ensures over
    (next_left place c.args.checked.now.files.items c.as_slice-source-items.result.now c.loop-source.source-index _ c.as_slice-source-items.ensures.value
    c.loop-source-test.true)

pub loop-source-preserved : goal.loop-source-preserved
loop-source-preserved g c =
    let going = ap (λ b. is_over b c.deliver-end.result) (sym c.is_ok-is_read.ensures.value) ∙ sym c.is_over.ensures ∙ c.if-is_over.false in
    one_next c.args.settings.now (manner_of c.args.checked.now) _ c.deliver-end.result _ _ _ _ c.loop-source.status c.worse-status.result _
    c.check_source-done.result c.loop-source.invariant c.check_source-done.ensures c.deliver-end.ensures going c.worse-status.ensures
    (next_taken place c.args.checked.now.files.items c.as_slice-source-items.result.now c.loop-source.source-index _ c.as_slice-source-items.ensures.value
    c.loop-source-test.true)
