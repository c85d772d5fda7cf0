use Rattle.hill_look.proofs.Seen.{not_taken, not_taken_in, seen_open, seen_reads, seen_refused, seen_still, seen_stood}
use Rattle.hill_look.proofs.seeing.look_at_hill.Goals as goal

pub returns-in-Ok-clause-stood : goal.returns-in-Ok-clause-stood
returns-in-Ok-clause-stood g c =
    seen_stood g.S.Source.facts c.args.source.now c.look.new.source c.in-Ok.device c.in-Ok.ensures.size c.in-Ok.ensures.headers c.in-Ok.ensures.taken c.opened.result c.opened.ensures.opened

pub returns-in-Ok-clause-still : goal.returns-in-Ok-clause-still
returns-in-Ok-clause-still g c =
    seen_still g.S.Source.facts c.args.source.now c.look.new.source c.in-Ok.device c.in-Ok.ensures.size c.in-Ok.ensures.headers c.in-Ok.ensures.taken c.opened.result c.opened.ensures.opened c.opened.ensures.refused

pub returns-in-Ok-clause-refused : goal.returns-in-Ok-clause-refused
returns-in-Ok-clause-refused g c =
    seen_refused g.S.Source.facts c.args.source.now c.look.new.source c.in-Ok.device c.in-Ok.ensures.size c.in-Ok.ensures.headers c.in-Ok.ensures.taken c.opened.result c.opened.ensures.refused

pub returns-in-Ok-clause-open_now : goal.returns-in-Ok-clause-open_now
returns-in-Ok-clause-open_now g c = seen_open c.in-Ok.device c.opened.result c.opened.ensures.opened

pub returns-in-Ok-clause-reads : goal.returns-in-Ok-clause-reads
returns-in-Ok-clause-reads g c = seen_reads c.in-Ok.device c.opened.result c.opened.ensures.opened

pub returns-in-Err-clause-refused : goal.returns-in-Err-clause-refused
returns-in-Err-clause-refused g c =
    not_taken g.S.Source.facts c.args.source.now c.look.new.source (λ few. (c.in-Err.ensures.small few).1) c.in-Err.refusal c.in-Err.ensures.refused

pub returns-in-Err-clause-still : goal.returns-in-Err-clause-still
returns-in-Err-clause-still g c = λ lawful same.
    not_taken_in g.S.Source.facts c.args.source.now c.look.new.source lawful same c.in-Err.refusal c.in-Err.ensures.refused
