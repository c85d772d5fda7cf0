-- The line stands after the end of the one before it, as far as the output took it.
use Rattle.{std.proofs.Common.refl, koth_commands.proofs.Told.{in_part, writes_more}, koth_server.proofs.Logged.is_log}
use Rattle.koth_server.proofs.log.put_line.Goals as goal

pub returns-then-begin_line : goal.returns-then-begin_line
returns-then-begin_line g c =
    let line = c.args.line.now in
    let part = in_part c.write_whole.result _ _ line line refl c.write_whole.ensures.whole c.write_whole.ensures.part in
    writes_more _ _ _ (is_log _ _ c.begin_line.ensures) (line, part)
