use Rattle.{std.proofs.Common.{◌≡◌, ◌<◌, ◌≤◌, ◌+◌, ◌-◌, ◌++◌, length, drop, get_or, replicate, arith, ap, ◌∙◌}, hill_bytes.specs.Layout.{entry_bytes, entry_places}}
use Rattle.hill_bytes.proofs.HeaderBytes.{below-true, not_below-false, place-step, places-some, places-none}
use Rattle.hill_bytes.proofs.header.put_entries.Goals.{in-Some, in-None}
use Rattle.hill_bytes.proofs.header.put_entries.Goals as goal

pub loop-place-preserved : goal.loop-place-preserved
loop-place-preserved c =
    let es = c.args.entries.now in
    let i = c.loop-place.place in
    let rest = entry_places (20 - (i + 1)) (drop (i + 1) es) in
    let all = c.args.sector.now ++ entry_places 20 es in
    elim c.match-get.branch [
      | in-Some w ↦
          (let e = w.in-Some.entry.now in
          let found = w.in-Some.ensures.lookup in
          let inside : i < length es = below-true i (length es) found.0 in
          let is : e ≡ get_or es i e = found.1 in
          record {
            whole = place-step c.loop-place.sector c.match-get.sector (entry_bytes (get_or es i e)) rest (entry_places (20 - i) (drop i es)) all
                (w.sector-is ∙ w.put_entry.ensures.value ∙ ap (λ x. c.loop-place.sector ++ entry_bytes x) is) (places-some es i e inside c.loop-place-test.true) c.loop-place.invariant.whole;
            len = ap length w.sector-is ∙ w.put_entry.ensures.len ∙ omega (arith, c.loop-place.invariant.len);
          })
      | in-None w ↦
          (let behind : length es ≤ i = not_below-false i (length es) w.in-None.ensures.lookup.0 in
          record {
            whole = place-step c.loop-place.sector c.match-get.sector (replicate 17 0) rest (entry_places (20 - i) (drop i es)) all
                (w.sector-is ∙ w.put_zeros.ensures.value) (places-none es i behind c.loop-place-test.true) c.loop-place.invariant.whole;
            len = ap length w.sector-is ∙ w.put_zeros.ensures.len ∙ omega (arith, c.loop-place.invariant.len);
          })
    ]
