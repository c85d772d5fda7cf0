-- Of a file no bytes are known.
use Rattle.{std.proofs.Common.{◌∙◌, ap, sym}, war_types.specs.Settings.settings_of}
use Rattle.koth_commands.{specs.{Asm.wanted_of, Streams.is_input}, proofs.Ends.from_file}
use Rattle.koth_commands.proofs.asm.perform_asm.Goals as goal

pub returns-in-Ok-open_source : goal.returns-in-Ok-open_source
returns-in-Ok-open_source g c =
    from_file (is_input c.args.wanted.source) (wanted_of c.args.wanted) (settings_of c.args.given) c.in-Ok.settings c.done_from-in-Ok-open_source.result _ _ _
    (ap is_input c.in-File.is) (sym c.new.ensures ∙ c.in-Ok.is) c.done_from-in-Ok-open_source.ensures
