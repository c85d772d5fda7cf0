-- The front process is executed if there is a turn.
use Rattle.koth_replay.proofs.Falls.{next-made}
use Rattle.koth_replay.proofs.ending.next_turn.Goals as goal

pub returns-clause-made : goal.returns-clause-made
returns-clause-made g c =
    next-made c.goes_on-went.result c.front-front.result c.only_if.result c.args.side c.args.arena.now c.args.turn
    c.goes_on-went.ensures.value c.requires c.front-front.ensures c.only_if.ensures
