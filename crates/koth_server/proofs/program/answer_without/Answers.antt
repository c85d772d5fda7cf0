-- Help that is written ends as done, and else as an output that failed.
use Rattle.std.proofs.Common.{None, ap, inl, inr, subst, sym, ◌∙◌}
use Rattle.{koth_commands.specs.{Answer.AnswerParts, Streams.streams}, koth_server.specs.Run.{EndsHelp, EndsWithout}}
use Rattle.koth_server.proofs.program.answer_without.Goals as goal

pub returns-in-Help : goal.returns-in-Help
returns-in-Help g c =
    let before = streams None (g.O.Write.contents c.args.output.now) (g.E.Write.contents c.args.errors.now) in
    let after = streams None (g.O.Write.contents c.deliver.new.output) (g.E.Write.contents c.deliver.new.errors) in
    let ends : EndsHelp c.deliver.result = elim c.deliver.ensures [
      | inl whole ↦ subst EndsHelp (sym (whole.0 ∙ ap (λ (a : AnswerParts). a.status) c.done-answer.ensures)) tt
      | inr lost ↦ subst EndsHelp (sym lost.0) tt
    ] in
    subst (λ none. EndsWithout none c.deliver.result before after) (sym c.in-Help.is) ends
