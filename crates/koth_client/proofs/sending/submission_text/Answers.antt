-- The text is read as the submission of the lines of the source.
use Rattle.{std.proofs.Common.{◌∙◌, ◌++◌, true, ap, codes}, koth_client.{specs.Sending.dotted_from, proofs.Lines.asks_alone}}
use Rattle.koth_client.proofs.sending.submission_text.Goals as goal

pub returns : goal.returns
returns g c =
    let source = c.args.source.now in
    let first = c.in_ok-extend_from_slice.ensures.items ∙ ap (λ text. text ++ codes "SUBMIT\n") c.new-text.ensures.items in
    let second = c.in_ok-put_dotted.ensures ∙ ap (λ text. text ++ dotted_from true source) first in
    asks_alone source _ (c.in_ok-extend_from_slice-2.ensures.items ∙ ap (λ text. text ++ codes ".\nQUIT\n") second)
