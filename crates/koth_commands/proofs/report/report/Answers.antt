-- What was found is reported.
use Rattle.std.proofs.Common.{ap, ◌∙◌, ◌++◌}
use Rattle.koth_commands.{specs.Report.manner_of, proofs.Reports.answered}
use Rattle.koth_commands.proofs.report.report.Goals as goal

pub returns : goal.returns
returns g c =
    answered (λ d. d.fault) (λ w. (w.kind, w.line)) c.args.settings.now (manner_of c.args.checked.now) c.args.name.now c.args.source.now c.in_ok-found.found.items
    c.as_slice-faults.result.now c.in_ok-warned.warned.items c.as_slice-seen.result.now c.is_refused.result c.status_of.result c.in_ok-text.text.items
    c.in_ok-more.more.items c.extend_from_slice.new.self.items c.in_ok-slow_note.field-0.items c.as_slice-faults.ensures.value c.as_slice-seen.ensures.value
    c.in_ok-found.ensures.told c.in_ok-found.ensures.all c.in_ok-warned.ensures.told c.is_refused.ensures c.status_of.ensures c.in_ok-text.ensures c.in_ok-more.ensures
    (c.in_ok-extend_from_slice.ensures.items ∙ ap (λ t. c.in_ok-text.text.items ++ t) c.as_slice.ensures.value) c.in_ok-slow_note.ensures
