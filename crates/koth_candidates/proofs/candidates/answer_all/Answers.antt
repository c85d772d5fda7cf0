-- One candidate more is answered, until the input ends.
use Rattle.{std.proofs.{Common.{◌≡◌, ◌∙◌, IfOk, ap, subst, sym, refl}, KnownBytes.Consumes-nil}, koth_protocol.specs.Commands.kept_source, koth_field.specs.Field.entrants_of, koth_contests.{specs.Met.EndsLine, proofs.Written.line_of}}
use Rattle.koth_candidates.{specs.{Answers.answer_of, Candidates.EndsAnswers}, proofs.{Answering.{at_end, cut, failed, line_failed, none_so_far, one_more}, Reading.{takes_cut, takes_none, takes_source}}}
use Rattle.koth_candidates.proofs.candidates.answer_all.Goals as goal

pub loop-init : goal.loop-init
loop-init g c = record {
  so_far = none_so_far c.args.settings.now (entrants_of c.args.opponents.now) (g.I.Read.remaining c.args.input.now) (g.O.Write.contents c.args.output.now) (g.E.Write.contents c.args.errors.now);
  settings = c.requires.settings;
}

pub loop-preserved : goal.loop-preserved
loop-preserved g c =
    let source = kept_source c.in-Ok-Source.script.source in
    let text = answer_of c.args.settings.now (entrants_of c.args.opponents.now) source in
    let line = subst (λ t. IfOk c.answer_of-line.result (λ l. l.items ≡ answer_of c.args.settings.now (entrants_of c.args.opponents.now) t)) c.source.ensures c.answer_of-line.ensures.answer in
    let ends = line_of _ _ _ _ c.answer_of-line.result text c.write_line.result line c.write_line.ensures in
    let done = subst (λ t. EndsLine text t (g.O.Write.contents c.loop.output) (g.O.Write.contents c.write_line.new.output) (g.E.Write.contents c.loop.errors) (g.E.Write.contents c.write_line.new.errors)) c.in-Done.is ends in
    record {
      so_far = one_more _ _ _ _ _ _ _ _ c.loop.invariant.so_far _ _ _ source (takes_source _ _ _ _ c.in-Ok-Source.field-0-is c.in-Ok-Source.ensures) done.0 done.1;
      settings = c.answer_of-line.ensures.settings ∙ c.loop.invariant.settings;
    }

pub returns-in-Ok-End : goal.returns-in-Ok-End
returns-in-Ok-End g c =
    let takes = takes_none _ _ _ c.in-Ok-End.field-0-is c.in-Ok-End.ensures in
    at_end _ _ _ _ _ _ _ _ c.loop.invariant.so_far _ takes.0 takes.1

pub returns-in-Ok-Cut : goal.returns-in-Ok-Cut
returns-in-Ok-Cut g c =
    let takes = takes_cut _ _ _ c.in-Ok-Cut.field-0-is c.in-Ok-Cut.ensures in
    subst (λ t. EndsAnswers c.args.settings.now (entrants_of c.args.opponents.now) t (g.I.Read.remaining c.args.input.now) (g.I.Read.remaining c.next_source.new.input)
    (g.O.Write.contents c.args.output.now) (g.O.Write.contents c.loop.output) (g.E.Write.contents c.args.errors.now) (g.E.Write.contents c.refuse.new.errors)) (sym c.refuse.ensures.status)
    (cut _ _ _ _ _ _ _ _ c.loop.invariant.so_far _ _ takes.0 takes.1 c.refuse.ensures.told)

pub returns-in-Err : goal.returns-in-Err
returns-in-Err g c =
    failed _ _ _ _ _ _ _ _ c.loop.invariant.so_far _ _ c.in-Err.trouble c.tell.result c.in-Err.ensures.1.0 c.in-Err.ensures.1.1 c.in-Err.ensures.0 c.tell.ensures

pub returns-in_default : goal.returns-in_default
returns-in_default g c =
    let source = kept_source c.in-Ok-Source.script.source in
    let text = answer_of c.args.settings.now (entrants_of c.args.opponents.now) source in
    let line = subst (λ t. IfOk c.answer_of-line.result (λ l. l.items ≡ answer_of c.args.settings.now (entrants_of c.args.opponents.now) t)) c.source.ensures c.answer_of-line.ensures.answer in
    let ends = line_of _ _ _ _ c.answer_of-line.result text c.write_line.result line c.write_line.ensures in
    line_failed _ _ _ _ _ _ _ _ c.loop.invariant.so_far _ _ _ source (takes_source _ _ _ _ c.in-Ok-Source.field-0-is c.in-Ok-Source.ensures) c.write_line.result c.in_default.not-Done ends

pub returns : goal.returns
returns g c =
    subst (λ t. EndsAnswers c.args.settings.now (entrants_of c.args.opponents.now) t (g.I.Read.remaining c.args.input.now) (g.I.Read.remaining c.loop.input)
    (g.O.Write.contents c.args.output.now) (g.O.Write.contents c.loop.output) (g.E.Write.contents c.args.errors.now) (g.E.Write.contents c.refuse-2.new.errors)) (sym c.refuse-2.ensures.status)
    (cut _ _ _ _ _ _ _ _ c.loop.invariant.so_far _ _ _ (Consumes-nil (g.I.Read.remaining c.loop.input)) c.refuse-2.ensures.told)
