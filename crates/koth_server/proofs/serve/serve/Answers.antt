-- Without a seed nothing was written before that is told.
use Rattle.{std.proofs.{Common.{◌∙◌, inl, inr, sym}, KnownBytes.Keeps-refl}, koth_commands.proofs.Told.{kept_part, writes_nothing}, koth_server.specs.Serving.listening_line}
use Rattle.koth_server.proofs.Statuses.{never-words}
use Rattle.koth_server.proofs.serve.serve.Goals as goal

pub returns-in-Ok-clause-ends : goal.returns-in-Ok-clause-ends
returns-in-Ok-clause-ends g c = inl (c.in-Ok.made, c.in-Ok.ensures.made, c.serve_made.ensures.ends)

pub returns-in-Err-clause-ends : goal.returns-in-Err-clause-ends
returns-in-Err-clause-ends g c =
    let o = g.O.Write.contents c.args.output.now in
    inr (
      c.in-Err.ensures.no_seed.0,
      record {
        trouble = c.in-Err.trouble;
        of_hill = c.in-Err.ensures.no_seed.1;
        port = 0;
        output = kept_part o o (listening_line 0) (Keeps-refl o);
        logged = g.E.Write.contents c.args.errors.now;
        log = writes_nothing (g.E.Write.contents c.args.errors.now);
        told = c.tell.ensures;
      },
    )

pub returns-in-Err-clause-words : goal.returns-in-Err-clause-words
returns-in-Err-clause-words g c = λ is. never-words c.in-Err.trouble.fault (sym c.tell.ensures.ends ∙ is)
