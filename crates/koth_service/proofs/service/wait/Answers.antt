-- Nobody was silent for too long before the wait.
use Rattle.koth_service.{specs.Standing.peers_of, proofs.Steps.waited}
use Rattle.koth_service.proofs.service.wait.Goals as goal

pub returns : goal.returns
returns g c = λ host start browsers on.
    waited g.S.Sockets.happened g.D.Device.facts (g.H.Host.shows host) start browsers c.args.sockets.now c.wait.new.self (peers_of c.args.desk.now) c.args.desk.now.judge.store c.wait.result
    c.max-desk.result c.wait.ensures c.max-desk.ensures c.requires on
