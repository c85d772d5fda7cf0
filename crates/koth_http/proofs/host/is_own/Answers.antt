-- It is `localhost`, or an address.
use Rattle.std.proofs.Common.{◌∙◌, sym, inl, inr}
use Rattle.koth_http.proofs.host.is_own.Goals as goal
use Rattle.koth_http.proofs.host.is_own.Goals.{then-has_name, else-has_name}

pub returns-then-is_address : goal.returns-then-is_address
returns-then-is_address c = record {
  only = λ own.
      elim c.if-has_name.branch [
        | then-has_name w ↦ inl (sym c.has_name.ensures ∙ w.if-has_name.true)
        | else-has_name w ↦ inr (inl (w.is_address.ensures (sym w.value-is ∙ c.if-is_address.true)))
      ];
  local = λ is. c.if-is_address.true;
}
