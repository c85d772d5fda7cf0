-- There are as many places as were asked for.
use Rattle.{std.proofs.Common.{◌≡◌, subst, IfOk}, koth_service.specs.Services.{start_at, start_of}}
use Rattle.koth_service.proofs.desk.Desk.new.Goals as goal

pub returns-in-Ok-clause-start : goal.returns-in-Ok-clause-start
returns-in-Ok-clause-start g c = subst (λ most. IfOk c.seated.result (λ desk. start_at desk ≡ start_of c.args.store most c.args.limits.browsers)) c.in-Ok.ensures.most c.seated.ensures.start
