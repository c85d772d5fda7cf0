-- On the hill that was opened, or with why it can't be: then nothing was read or written.
use Rattle.std.proofs.{Common.{◌∙◌, inl, inr, sym}, KnownBytes.Keeps-refl}
use Rattle.koth_server.proofs.Statuses.{never-words}
use Rattle.koth_server.proofs.one_session.session.Goals as goal

pub returns-in-Ok-clause-ends : goal.returns-in-Ok-clause-ends
returns-in-Ok-clause-ends g c = inl c.session_on.ensures.ends

pub returns-in-Err-clause-ends : goal.returns-in-Err-clause-ends
returns-in-Err-clause-ends g c = inr record {
  trouble = c.in-Err.trouble;
  of_hill = c.in-Err.ensures.of_hill;
  input = Keeps-refl (g.I.Read.remaining c.args.input.now);
  output = Keeps-refl (g.O.Write.contents c.args.output.now);
  told = c.tell.ensures;
}

pub returns-in-Err-clause-words : goal.returns-in-Err-clause-words
returns-in-Err-clause-words g c = λ is. never-words c.in-Err.trouble.fault (sym c.tell.ensures.ends ∙ is)
