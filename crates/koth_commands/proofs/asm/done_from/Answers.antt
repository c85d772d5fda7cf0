-- The source that was read is answered.
use Rattle.std.proofs.Common.{refl}
use Rattle.koth_commands.{specs.Asm.wanted_of, proofs.Ends.{performed, undefined}}
use Rattle.koth_commands.proofs.asm.done_from.Goals as goal

pub returns : goal.returns
returns g c =
    performed _ _ c.in-Ok.source.items c.in-Ok-defined_text.text.items c.as_slice.result.now c.assembled.result _ _ c.as_slice.ensures.value c.in-Ok-defined_text.ensures c.assembled.ensures c.in-Ok.ensures.taken

pub returns-in-Err-defined_text : goal.returns-in-Err-defined_text
returns-in-Err-defined_text g c =
    let wanted = wanted_of c.args.wanted in
    undefined wanted.define c.in-Ok.source.items c.in-Err-defined_text.trouble wanted c.args.settings.now (g.I.Read.remaining c.args.reader.now) (g.I.Read.remaining c.text_from.new.input)
    refl c.in-Err-defined_text.ensures c.in-Ok.ensures.taken
