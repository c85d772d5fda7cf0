use Rattle.{std.proofs.{Common.{◌≡◌, ◌<◌, List, length, take, get_or, set, arith, sym, ap, ◌∙◌}, lemmas.List.{length-set, take_all}}, hill_bytes.specs.Layout.{new_layout, slot_bytes}}
use Rattle.hill_bytes.proofs.{HeaderBytes.set-step, SlotBytes.{full-is, last-at, length-slot}}
use Rattle.hill_bytes.proofs.slot.Slot.encode.Goals as goal

pub loop-n-preserved : goal.loop-n-preserved
loop-n-preserved g c =
    let w = c.args.warrior.now in
    let n = c.loop-n.n in
    let e = c.full_sector.result in
    let whole : List (List _) = slot_bytes new_layout w c.args.results.now in
    let below : n < 3 = c.loop-n-test.true in
    let is : e ≡ get_or whole n e = full-is new_layout w c.args.results.now c.code.result.now n e below c.full_sector.ensures c.code.ensures.value in
    record {
      value = set-step c.loop-n.sectors whole n e (omega (arith, below, c.loop-n.invariant.len)) (omega (arith, below, length-slot new_layout w c.args.results.now)) c.loop-n.invariant.value is;
      len = length-set c.loop-n.sectors n e ∙ c.loop-n.invariant.len;
    }

pub returns-clause-value : goal.returns-clause-value
returns-clause-value g c =
    let w = c.args.warrior.now in
    let e = c.last_sector.result in
    let whole : List (List _) = slot_bytes new_layout w c.args.results.now in
    let long : length whole ≡ 4 = length-slot new_layout w c.args.results.now in
    let last : c.loop-n.n ≡ 3 = omega (arith, c.loop-n-test.false, c.loop-n.auto.n-end) in
    let is : e ≡ get_or whole 3 e = c.last_sector.ensures.value ∙ sym (last-at new_layout w c.args.results.now e) in
    let both : take 4 (set c.loop-n.sectors 3 e) ≡ take 4 whole =
    set-step c.loop-n.sectors whole 3 e (omega (arith, c.loop-n.invariant.len)) (omega (arith, long)) (ap (λ n. take n c.loop-n.sectors) (sym last) ∙ c.loop-n.invariant.value ∙ ap (λ n. take n whole) last) is in
    sym (take_all 4 (set c.loop-n.sectors 3 e) (omega (arith, length-set c.loop-n.sectors 3 e, c.loop-n.invariant.len))) ∙ both ∙ take_all 4 whole (omega (arith, long))
