-- A service ends after its line and its log, or with a fault.
use Rattle.{std.proofs.Common.{◌∙◌, inl, inr, refl, sym}, koth_commands.proofs.Told.{whole_part, writes_more}, koth_server.specs.Serving.listening_line}
use Rattle.koth_server.proofs.{Logged.is_log, Statuses.never-words}
use Rattle.koth_server.proofs.serve.serve_under.Goals as goal

pub returns-in-Err-clause-ends : goal.returns-in-Err-clause-ends
returns-in-Err-clause-ends g c = inr record {
  trouble = c.in-Err.trouble;
  of_hill = c.in-Err.ensures.announced.1;
  port = c.in-Err.ensures.announced.0.0;
  output = c.in-Err.ensures.announced.0.1;
  logged = g.E.Write.contents c.begin.new.errors;
  log = c.begin.ensures.told;
  told = c.tell.ensures;
}

pub returns-clause-ends : goal.returns-clause-ends
returns-clause-ends g c =
    let (port, whole) = c.in-Ok.ensures.announced in
    inr record {
      trouble = c.trouble_of.result;
      of_hill = c.trouble_of.ensures;
      port = port;
      output = whole_part _ _ _ (listening_line port) refl whole;
      logged = g.E.Write.contents c.serve_peers-served.new.errors;
      log = writes_more _ _ _ c.begin.ensures.told (writes_more _ _ _ c.tell_pages.ensures (is_log _ _ c.serve_peers-served.ensures.told));
      told = c.tell-in-Err-served.ensures;
    }

pub returns-in-Ok-served-clause-ends : goal.returns-in-Ok-served-clause-ends
returns-in-Ok-served-clause-ends g c = inl (
  refl,
  c.in-Ok.ensures.announced,
  writes_more _ _ _ c.begin.ensures.told (writes_more _ _ _ c.tell_pages.ensures (is_log _ _ c.serve_peers-served.ensures.told)),
)

pub returns-in-Err-clause-words : goal.returns-in-Err-clause-words
returns-in-Err-clause-words g c = λ is. never-words c.in-Err.trouble.fault (sym c.tell.ensures.ends ∙ is)

pub returns-clause-words : goal.returns-clause-words
returns-clause-words g c = λ is. never-words c.trouble_of.result.fault (sym c.tell-in-Err-served.ensures.ends ∙ is)
