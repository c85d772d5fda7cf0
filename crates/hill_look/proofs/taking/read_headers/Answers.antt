use Rattle.hill_look.proofs.Moves.{moves_more, stays, stood_within}
use Rattle.hill_look.proofs.taking.read_headers.Goals as goal

pub returns-in_err-read-2-clause-moved : goal.returns-in_err-read-2-clause-moved
returns-in_err-read-2-clause-moved g c = λ lawful.
    moves_more _ _ _ (c.in_ok-read.ensures.moved lawful) (c.in_err-read-2.ensures.moved (c.in_ok-read.ensures.served.same_laws.1 lawful))

pub returns-clause-moved : goal.returns-clause-moved
returns-clause-moved g c = λ lawful.
    moves_more _ _ _ (c.in_ok-read.ensures.moved lawful) (c.in_ok-read-2.ensures.moved (c.in_ok-read.ensures.served.same_laws.1 lawful))

pub returns-clause-stood : goal.returns-clause-stood
returns-clause-stood g c = λ lawful.
    let later = c.in_ok-read.ensures.served.same_laws.1 lawful in record {
      even = stood_within _ _ _ _ 0 c.read.new.to (stays _) (c.in_ok-read-2.ensures.moved later) (c.in_ok-read.ensures.given lawful);
      odd = stood_within _ _ _ _ 1 c.read-2.new.to (c.in_ok-read.ensures.moved lawful) (stays _) (c.in_ok-read-2.ensures.given later);
    }
