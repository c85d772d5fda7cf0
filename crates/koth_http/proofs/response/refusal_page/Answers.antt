use Rattle.koth_http.specs.Response.{refusal_page}
use Rattle.koth_http.proofs.response.refusal_page.Goals as goal

pub returns : goal.returns
unfolding refusal_page
returns g c = rw c.sentence.ensures at c.joined.ensures
