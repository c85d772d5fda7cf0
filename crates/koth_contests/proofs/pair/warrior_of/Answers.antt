-- The source that was taken assembles to the warrior.
use Rattle.std.proofs.Common.{option_copied}
use Rattle.koth_contests.proofs.Taken.{assembled, undefined_comes, undefined_taken}
use Rattle.koth_contests.proofs.pair.warrior_of.Goals as goal

pub returns-in-Ok-assemble-clause-taken : goal.returns-in-Ok-assemble-clause-taken
returns-in-Ok-assemble-clause-taken g c =
    let define = option_copied c.args.definition in
    assembled define c.args.settings.now c.as_slice.result.now c.in-Ok-defined_text.text.items c.in-Ok.source.items c.in-Ok-assemble.warrior _ _ c.as_slice.ensures.value
    c.in-Ok-assemble.ensures.assembled c.in-Ok-assemble.ensures.fits c.in-Ok-defined_text.ensures c.in-Ok.ensures.taken

pub returns-in-Err-defined_text-clause-comes : goal.returns-in-Err-defined_text-clause-comes
returns-in-Err-defined_text-clause-comes g c =
    let define = option_copied c.args.definition in
    let source = c.in-Ok.source.items in
    undefined_comes define c.args.settings.now source c.undefined.result (c.undefined.ensures define source c.in-Err-defined_text.ensures)

pub returns-in-Err-defined_text-clause-taken : goal.returns-in-Err-defined_text-clause-taken
returns-in-Err-defined_text-clause-taken g c =
    let define = option_copied c.args.definition in
    let source = c.in-Ok.source.items in
    undefined_taken define c.args.settings.now source c.undefined.result (g.I.Read.remaining c.args.reader.now) (g.I.Read.remaining c.text_from.new.input)
    (c.undefined.ensures define source c.in-Err-defined_text.ensures) c.in-Ok.ensures.taken
