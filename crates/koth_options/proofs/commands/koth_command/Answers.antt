-- The commands are those of the program's words.
use Rattle.koth_options.specs.Commands.{koth_app}
use Rattle.koth_options.proofs.commands.koth_command.Goals as goal

pub returns : goal.returns
unfolding koth_app
returns c = c.with_rows.ensures _ c.commands_to_serve.ensures
