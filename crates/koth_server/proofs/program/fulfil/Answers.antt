-- Under the settings that the request gives, or with the fault of the hill that it names for them.
use Rattle.{std.proofs.{Common.{◌≡◌, ◌∙◌, true, sym, subst}, KnownBytes.Keeps-refl}, koth_words.specs.Words.given_of}
use Rattle.{koth_server.specs.{Run.CommandEnds, Settled.{AreSettled, names_hill}}, koth_server.proofs.{Carried.{settled_ends, unsettled_ends}, Statuses.never-words}}
use Rattle.koth_server.proofs.program.fulfil.Goals as goal

pub returns-in-Ok : goal.returns-in-Ok
returns-in-Ok g c =
    let are = subst (λ given. AreSettled given c.in-Ok.settings) c.given.ensures c.in-Ok.ensures.settled in (
      settled_ends (given_of c.args.request.now) (λ s. CommandEnds s c.args.view c.args.request.now c.fulfil_under.result _ _) _ _ _ c.in-Ok.settings are c.fulfil_under.ensures.0,
      c.fulfil_under.ensures.1,
    )

pub returns-in-Err : goal.returns-in-Err
returns-in-Err g c =
    let names = subst (λ given. names_hill given ≡ true) c.given.ensures c.in-Err.ensures.unreadable.0 in (
      unsettled_ends (given_of c.args.request.now) _ _ _ _ names record {
        trouble = c.in-Err.trouble;
        of_hill = c.in-Err.ensures.unreadable.1;
        input = Keeps-refl (g.I.Read.remaining c.args.input.now);
        output = Keeps-refl (g.O.Write.contents c.args.output.now);
        told = c.tell.ensures;
      },
      λ is. never-words c.in-Err.trouble.fault (sym c.tell.ensures.ends ∙ is),
    )
