-- Memory ran out before the first match.
use Rattle.{koth_field.specs.Field.entrants_of, koth_rank.proofs.Fought.{no_arena}}
use Rattle.koth_rank.proofs.fighting.fight_field.Goals as goal

pub returns-in-Err : goal.returns-in-Err
returns-in-Err g c =
    no_arena c.args.settings.now c.args.plan (entrants_of c.args.members.now) c.args.fought.now.standings c.args.fought.now.kept.items c.memory.result c.tell.result
    (g.O.Write.contents c.args.output.now) (g.E.Write.contents c.args.errors.now) (g.E.Write.contents c.tell.new.errors) c.memory.ensures c.tell.ensures
