-- The commands are those of the program's words.
use Rattle.koth_options.proofs.commands.commands_to_fight.Goals as goal

pub returns : goal.returns
returns c = c.with_rows.ensures _ c.program.ensures
