use Rattle.{std.proofs.Common.{◌≡◌, ◌∙◌, ap, take}, std.proofs.lemmas.List.take_min, std.specs.List.list_all, koth_protocol.specs.Request.is_sent}
use Rattle.koth_protocol.proofs.request.begins_as_sent.Goals as goal

pub returns : goal.returns
returns c =
    let cut : take c.min.result c.args.line.now ≡ take 256 c.args.line.now = rw c.min.ensures (take_min 256 c.args.line.now) in
    c.are_sent.ensures ∙ ap (list_all is_sent) cut
