-- The source's warrior is put, or it has none.
use Rattle.{std.proofs.Common.refl, koth_field.proofs.Members.{puts_lost, puts_none}}
use Rattle.koth_field.proofs.field.put_member.Goals as goal

pub returns-in-Err-clause-puts : goal.returns-in-Err-clause-puts
returns-in-Err-clause-puts g c = puts_none _ _ _ _ c.tell_none.result _ _ refl c.tell_none.ensures

pub returns-in-Ok-push_member-clause-fit : goal.returns-in-Ok-push_member-clause-fit
returns-in-Ok-push_member-clause-fit g c = c.push_member.ensures.fit c.args.settings.now c.in-Ok.ensures.fits c.requires

pub returns-in-Err-push_member-clause-fit : goal.returns-in-Err-push_member-clause-fit
returns-in-Err-push_member-clause-fit g c = c.push_member.ensures.fit c.args.settings.now c.in-Ok.ensures.fits c.requires
