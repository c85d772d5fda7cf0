-- The source that was taken was submitted to a hill that was just opened.
use Rattle.{std.proofs.Common.{subst, sym}, koth_commands.specs.Streams.Takes, koth_hills.proofs.Replies.says_reply}
use Rattle.koth_hills.proofs.submit.submit_text_from.Goals as goal

pub returns-in_ok-submit_source-in-Ok : goal.returns-in_ok-submit_source-in-Ok
returns-in_ok-submit_source-in-Ok g c =
    let i = g.I.Read.remaining c.args.reader.now in
    let j = g.I.Read.remaining c.text_from.new.input in
    let source = c.as_slice.result.now in
    let answer = c.in_ok-submit_source-in-Ok.field-0 in
    let submitted = c.in_ok-submit_source-in-Ok.ensures.submitted in (
      source,
      subst (Takes i j) (sym c.as_slice.ensures.value) c.in-Ok.ensures.taken,
      says_reply g.D.Device.facts c.args.store.now c.submit_source.new.store source c.args.view answer c.requires submitted,
    )
