-- Commands as they are built.
use Rattle.{std.proofs.Common.{◌≡◌, ◌∙◌, ap, false}, clap.specs.{Simple.{App, app_of_fields}, declared.builder.command.Command.Command, declared.builder.command.Command.TheOpen.Command-F}}
use Rattle.{clap.specs.declared.builder.command.Command.TheViews.out-Command, koth_options.specs.Commands.IsReadAs}

-- a command with other fields
pub changed : {app : App} {fields : Command-F Command} (new : Command) → out-Command new ≡ fields → app_of_fields fields ≡ app → fields.has_globals ≡ false
    → IsReadAs app new
changed new e is local = (ap app_of_fields e ∙ is, ap (λ (f : Command-F Command). f.has_globals) e ∙ local)
