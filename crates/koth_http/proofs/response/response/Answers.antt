-- The parts of an answer, bracketed as its definition has them.
use Rattle.std.proofs.Common.{◌≡◌, ◌∙◌, ◌++◌, IfOk, List, ℕ, [], append_assoc, append-nil, ap, decimal, if◌then◌else◌, length, refl, subst, sym}
use Rattle.koth_http.specs.{Response.{body_fields, fields, response, sent_of}, declared.response.TheConstants.{END, FIELDS_AFTER, KEEPING, KIND, LENGTH}}
use Rattle.koth_http.proofs.response.response.Goals as goal
use Rattle.koth_http.proofs.response.response.Goals.{then-with_body, else-with_body}

bracketed : (line a kind b n end d keeping e sent : List ℕ)
    → line ++ (a ++ (kind ++ (b ++ (n ++ (end ++ (d ++ (keeping ++ (e ++ (sent ++ [])))))))))
    ≡ line ++ ((a ++ (kind ++ (b ++ (n ++ end)))) ++ ((d ++ (keeping ++ e)) ++ sent))
bracketed line a kind b n end d keeping e sent = simp (append_assoc, append-nil) refl

pub returns : goal.returns
unfolding response body_fields fields
returns g c =
    let body = c.args.body.now in
    let sent : c.if-with_body.sent.now ≡ (if c.args.with_body then body else []) = elim c.if-with_body.branch [
      | then-with_body w ↦ ap (λ b. b.now) w.sent-is ∙ sym (ap (λ b. if b then body else []) w.if-with_body.true)
      | else-with_body w ↦ ap (λ b. b.now) w.sent-is ∙ sym (ap (λ b. if b then body else []) w.if-with_body.false)
    ] in
    let len = c.as_bytes-len.ensures.value ∙ c.format.ensures.text in
    subst (λ l. IfOk c.joined.result (λ r. r.items ≡ l))
    (bracketed c.args.line.now KIND.now c.args.kind.now LENGTH.now (decimal (length body)) END.now KEEPING.now c.args.keeping.now FIELDS_AFTER.now
    (sent_of body c.args.with_body))
    (rw len at (rw sent at c.joined.ensures))
