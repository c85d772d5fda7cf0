use Rattle.{std.proofs.Common.{◌∙◌, map, subst}, koth_http.specs.Asked.{FindsAsked, IsAsked}}
use Rattle.koth_http.proofs.visit.Visit.asked.Goals as goal

pub returns : goal.returns
returns g c =
    let names = map (λ name. name.now) c.args.names.now in
    let bytes = c.as_slice.ensures.value ∙ c.self.view_is in
    record {
      found = subst (λ b. FindsAsked names b c.asked_in.result) bytes c.asked_in.ensures.found;
      said = subst (λ b. IsAsked names b c.asked_in.result) bytes c.asked_in.ensures.said;
    }
