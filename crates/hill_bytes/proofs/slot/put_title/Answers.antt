use Rattle.{std.proofs.{Common.{◌≡◌, ◌-◌, ◌++◌, length, replicate, sym, ap, ◌∙◌}, lemmas.List.append_assoc}, hill_bytes.proofs.SlotBytes.filled-zeros}
use Rattle.hill_bytes.proofs.slot.put_title.Goals as goal

pub returns-clause-value : goal.returns-clause-value
returns-clause-value c =
    let w = c.args.sector.now in
    let t = c.args.title.now in
    let own : c.bytes-bytes.result.now ≡ t = c.bytes-bytes.ensures.value in
    c.put_zeros.ensures.value
    ∙ ap (λ x. x ++ replicate (48 - length c.bytes-bytes.result.now) 0) c.put.ensures.value
    ∙ ap (λ x. (w ++ x) ++ replicate (48 - length x) 0) own
    ∙ append_assoc w t (replicate (48 - length t) 0)
    ∙ ap (λ x. w ++ x) (sym (filled-zeros 48 t c.bytes-bytes.ensures.title.short))
