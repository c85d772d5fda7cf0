use Rattle.{std.proofs.Common.{◌∙◌, ap}, koth_protocol.specs.Lines.without_return, koth_protocol.proofs.Readings.command_ends}
use Rattle.koth_protocol.proofs.script.Script.end_command_line.Goals as goal

pub returns : goal.returns
returns g c =
    command_ends c.args.self.now _ c.without_return-line.result.now _ c.requires
    (c.without_return-line.ensures ∙ ap without_return c.as_slice.ensures) c.clear.ensures c.take_command_line-met.ensures
