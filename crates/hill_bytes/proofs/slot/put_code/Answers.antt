use Rattle.{std.proofs.Common.{◌≡◌, ◌<◌, ◌≤◌, ◌+◌, ◌-◌, ◌++◌, length, drop, get_or, replicate, arith, ap, ◌∙◌}, war_types.specs.Bytes.instr_bytes, hill_bytes.specs.Layout.code_places}
use Rattle.hill_bytes.proofs.{HeaderBytes.{below-true, not_below-false, place-step}, SlotBytes.{code-some, code-none}}
use Rattle.hill_bytes.proofs.slot.put_code.Goals.{in-Some, in-None}
use Rattle.hill_bytes.proofs.slot.put_code.Goals as goal

pub loop-place-preserved : goal.loop-place-preserved
loop-place-preserved c =
    let is = c.args.code.now in
    let n = c.args.places in
    let i = c.loop-place.place in
    let rest = code_places (n - (i + 1)) (drop (i + 1) is) in
    let all = c.args.sector.now ++ code_places n is in
    elim c.match-get.branch [
      | in-Some w ↦
          (let e = w.in-Some.instr.now in
          let found = w.in-Some.ensures.lookup in
          let inside : i < length is = below-true i (length is) found.0 in
          let own : e ≡ get_or is i e = found.1 in
          let wrote : w.to_bytes.result ≡ instr_bytes (get_or is i e) = w.to_bytes.ensures ∙ ap instr_bytes own in
          record {
            whole = place-step c.loop-place.sector c.match-get.sector (instr_bytes (get_or is i e)) rest (code_places (n - i) (drop i is)) all
                (w.sector-is ∙ w.put.ensures.value ∙ ap (λ x. c.loop-place.sector ++ x) wrote) (code-some n is i e inside c.loop-place-test.true) c.loop-place.invariant.whole;
            len = ap length w.sector-is ∙ w.put.ensures.len ∙ omega (arith, c.loop-place.invariant.len, ap length w.to_bytes.ensures);
          })
      | in-None w ↦
          (let behind : length is ≤ i = not_below-false i (length is) w.in-None.ensures.lookup.0 in
          record {
            whole = place-step c.loop-place.sector c.match-get.sector (replicate 8 0) rest (code_places (n - i) (drop i is)) all
                (w.sector-is ∙ w.put_zeros.ensures.value) (code-none n is i behind c.loop-place-test.true) c.loop-place.invariant.whole;
            len = ap length w.sector-is ∙ w.put_zeros.ensures.len ∙ omega (arith, c.loop-place.invariant.len);
          })
    ]
