use Rattle.std.proofs.{Common.{rules, ◌≡◌, ◌-◌, ◌++◌, length, take, drop, replicate, ap, ◌∙◌, arith}, lemmas.List.{length-drop, take_all}}
use Rattle.hill_bytes.proofs.old_slot.fields_part.Goals as goal

pub returns : goal.returns
returns c =
    let fields = drop 288 c.args.last.now in
    let value : c.put.new.self ≡ c.put_zeros.new.self ++ take 224 fields = search rules in
    let long : length c.args.last.now ≡ 512 = c.told-last in
    let left : length fields ≡ length c.args.last.now - 288 = length-drop 288 c.args.last.now in
    c.into_sector.ensures ∙ value ∙ ap (λ x. c.put_zeros.new.self ++ x) (take_all 224 fields (omega (arith, long, left)))
    ∙ ap (λ w. w ++ fields) (c.put_zeros.ensures.value ∙ ap (λ w. w ++ replicate 288 0) c.new-sector.ensures)
