-- Options under two headings, which change no word.
use Rattle.koth_options.proofs.options.with_settings.Goals as goal

pub returns : goal.returns
returns c app is = c.with_arguments.ensures _ (c.headed-2.ensures _ (c.with_arguments-command.ensures _ (c.headed.ensures _ is)))
