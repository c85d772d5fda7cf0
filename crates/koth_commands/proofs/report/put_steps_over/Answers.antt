-- The words are put, the number and the words after it.
use Rattle.std.proofs.Common.{ap, ◌∙◌, ◌++◌}
use Rattle.{std.specs.Prelude.{decimal}, koth_commands.proofs.Reports.{three_put}}
use Rattle.koth_commands.proofs.report.put_steps_over.Goals as goal

pub returns : goal.returns
returns g c =
    three_put c.extend_from_slice-2.result c.extend_from_slice-2.new.self.items c.put_number.new.page.items c.args.note.now.items c.extend_from_slice.new.self.items _ _ _
    c.in_ok-extend_from_slice.ensures.items (c.in_ok-put_number.ensures ∙ ap (λ n. c.extend_from_slice.new.self.items ++ decimal n) c.from.ensures)
    c.extend_from_slice-2.ensures.items
