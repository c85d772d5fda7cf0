-- Without connections nothing is reported.
use Rattle.koth_service.{specs.Services.start_at, proofs.{Ends.at_once, Told.stays}}
use Rattle.koth_service.proofs.service.serve_at.Goals as goal

pub returns-in-Err-clause-told : goal.returns-in-Err-clause-told
returns-in-Err-clause-told g c = stays _

pub returns-in-Err-clause-served : goal.returns-in-Err-clause-served
returns-in-Err-clause-served g c = λ none. at_once g.S.Sockets.happened g.D.Device.facts (g.H.Host.shows c.args.host.now) (start_at c.args.desk) c.args.desk.limits.connections _ c.args.sockets.now none
