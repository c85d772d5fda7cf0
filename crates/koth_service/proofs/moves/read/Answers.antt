use Rattle.{std.proofs.Common.{take}, koth_service.proofs.Visits.{read_on, read_whole}}
use Rattle.koth_service.proofs.moves.read.Goals as goal

pub returns-in-Some-clause-moves : goal.returns-in-Some-clause-moves
returns-in-Some-clause-moves g c = λ store host start slots browsers on.
    read_whole g.S.Sockets.happened g.D.Device.facts (g.H.Host.shows host) start slots browsers store c.args.number c.args.sockets.now c.read_browser.new.self c.args.visit
    (take c.in-Bytes.count c.read_browser.new.bytes) c.take.new.self c.args.since c.in-Bytes.ensures.1 c.take.ensures on

pub returns-in-None-clause-moves : goal.returns-in-None-clause-moves
returns-in-None-clause-moves g c = λ store host start slots browsers on.
    read_on g.S.Sockets.happened g.D.Device.facts (g.H.Host.shows host) start slots browsers store c.args.number c.args.sockets.now c.read_browser.new.self c.args.visit
    (take c.in-Bytes.count c.read_browser.new.bytes) c.take.new.self c.args.since c.in-Bytes.ensures.1 c.take.ensures c.in-None.ensures.said on
