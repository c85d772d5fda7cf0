-- A text that is written is some text.
use Rattle.{std.proofs.Common.refl, koth_commands.proofs.Told.in_part}
use Rattle.koth_server.proofs.arguments.refuse_arguments.Goals as goal

pub returns-in-Err-clause-told : goal.returns-in-Err-clause-told
returns-in-Err-clause-told g c =
    let text = c.as_bytes-in-Err.result.now in
    (text, in_part c.write_whole-in-Err.result _ _ text text refl c.write_whole-in-Err.ensures.whole c.write_whole-in-Err.ensures.part)
