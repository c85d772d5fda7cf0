-- The source that was taken was tried on the hill of a store that was just opened.
use Rattle.{std.proofs.Common.{Some, ap, option_copied, sym, ◌∙◌}, koth_hills.{specs.Trials.SaysTrial, proofs.{Sources.undefined_answers, Tried.says_trial}}}
use Rattle.koth_hills.proofs.trial.try_text_from.Goals as goal

pub returns-in_ok-try_source-in-Ok-defined_text : goal.returns-in_ok-try_source-in-Ok-defined_text
returns-in_ok-try_source-in-Ok-defined_text g c =
    let text = c.as_slice.result.now in
    let answer = c.in_ok-try_source-in-Ok-defined_text.field-0 in
    let tried = c.in_ok-try_source-in-Ok-defined_text.ensures.tried in (
      c.in-Ok.source.items,
      c.in-Ok.ensures.taken,
      (text, c.in-Ok-defined_text.ensures ∙ ap Some (sym c.as_slice.ensures.value), says_trial g.D.Device.facts c.args.store.now text c.args.view answer c.requires tried),
    )

pub returns-in-Err-defined_text : goal.returns-in-Err-defined_text
returns-in-Err-defined_text g c =
    undefined_answers (option_copied c.args.definition) (SaysTrial c.args.view) (g.I.Read.remaining c.args.reader.now) (g.I.Read.remaining c.text_from.new.input) c.in-Ok.source.items c.in-Err-defined_text.trouble c.in-Err-defined_text.ensures c.in-Ok.ensures.taken
