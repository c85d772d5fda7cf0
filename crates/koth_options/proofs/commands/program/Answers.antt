-- The command is built field by field.
use Rattle.{std.proofs.Common.{ap, true}, clap.specs.declared.builder.command.Command.TheViews.out-Command, koth_options.specs.Commands.{wants_subcommand, with_version}, koth_options.proofs.Build.changed}
use Rattle.koth_options.proofs.commands.program.Goals as goal

pub returns : goal.returns
returns c =
    let version = changed _ c.version.ensures (ap with_version c.described.ensures.0) c.described.ensures.1 in
    let after = changed c.after_help.result c.after_help.ensures version.0 version.1 in
    changed {fields = record (out-Command c.after_help.result) { subcommand_required = true }} _ c.subcommand_required.ensures (ap wants_subcommand after.0) after.1
