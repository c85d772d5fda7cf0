-- What is reported is of the end that the session had.
use Rattle.koth_server.proofs.one_session.session_on.Goals as goal

pub returns-clause-ends : goal.returns-clause-ends
returns-clause-ends g c = (c.session_within-end.result, c.tell_end.ensures.ends)
