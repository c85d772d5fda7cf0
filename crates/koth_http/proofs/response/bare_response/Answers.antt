-- The parts of an answer, bracketed as its definition has them.
use Rattle.std.proofs.Common.{◌≡◌, ◌++◌, IfOk, List, ℕ, [], append_assoc, append-nil, refl, subst}
use Rattle.koth_http.specs.{Response.{bare_response, fields}, declared.response.TheConstants.{FIELDS_AFTER, KEEPING}}
use Rattle.koth_http.proofs.response.bare_response.Goals as goal

bracketed : (line d keeping e : List ℕ) → line ++ (d ++ (keeping ++ (e ++ []))) ≡ line ++ (d ++ (keeping ++ e))
bracketed line d keeping e = simp (append-nil) refl

pub returns : goal.returns
unfolding bare_response fields
returns g c =
    subst (λ l. IfOk c.joined.result (λ r. r.items ≡ l))
    (bracketed c.args.line.now KEEPING.now c.args.keeping.now FIELDS_AFTER.now) c.joined.ensures
