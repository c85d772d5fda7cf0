-- It is no request, so its first bytes tell.
use Rattle.{std.proofs.Common.{◌∙◌, ◌||◌, ap, not, sym, take}, std.specs.List.list_all, koth_protocol.specs.Request.is_sent}
use Rattle.koth_protocol.proofs.request.is_foreign.Goals as goal

pub returns-else-is_request : goal.returns-else-is_request
returns-else-is_request c =
    ap not c.begins_as_sent.ensures
    ∙ ap (λ b. b || not (list_all is_sent (take 256 c.args.line.now))) (sym (sym c.is_request.ensures ∙ c.if-is_request.false))
