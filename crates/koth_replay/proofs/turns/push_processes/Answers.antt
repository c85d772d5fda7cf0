use Rattle.{std.proofs.Common.{◌++◌, ◌∙◌, ap, sym, arith, take_all}, mars_core.specs.Round.queue_of, koth_replay.specs.Turn.process_events, koth_replay.proofs.Steps.{no_process, process_more}}
use Rattle.koth_replay.proofs.turns.push_processes.Goals as goal

pub loop-i-init : goal.loop-i-init
loop-i-init g c = no_process c.args.events.now.items (queue_of c.args.side c.args.arena.now) c.args.place

pub loop-i-preserved : goal.loop-i-preserved
loop-i-preserved g c =
    process_more (queue_of c.args.side c.args.arena.now) c.args.place c.loop-i.i c.unwrap.result c.args.events.now.items c.loop-i.events.items _
    (omega arith) (sym c.process.ensures.value ∙ c.unwrap.ensures) c.loop-i.invariant c.in_ok-push.ensures.items

pub returns : goal.returns
returns g c =
    c.loop-i.invariant
    ∙ ap (λ q. c.args.events.now.items ++ process_events c.args.place q) (take_all c.loop-i.i (queue_of c.args.side c.args.arena.now) (omega arith))
