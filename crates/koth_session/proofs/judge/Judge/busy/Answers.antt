use Rattle.{std.proofs.Common.{◌∙◌, ap}, koth_session.specs.Judge.{Judged, fighting}}
use Rattle.koth_session.proofs.judge.Judge.busy.Goals as goal

pub returns : goal.returns
returns g c = c.number_of.ensures ∙ ap (λ (j : Judged _). fighting j.under_way) c.self.view_is
