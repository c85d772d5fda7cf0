use Rattle.{std.proofs.Common.{Some, ap}, war_types.proofs.Stored.{stored-parts, IsFront}}
use Rattle.war_types.proofs.title.Title.read.Goals as goal

pub returns-clause-every : goal.returns-clause-every
returns-clause-every c = λ title is_title e.
    let front : IsFront c.args.bytes.now c.printable_len-len.result = record { whole = c.told-bytes; within = c.printable_len-len.ensures.within; printable = c.printable_len-len.ensures.printable; stops = c.printable_len-len.ensures.stops } in
    ap Some (stored-parts c.args.bytes.now title c.printable_len-len.result front is_title e).own
