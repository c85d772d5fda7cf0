use Rattle.{std.proofs.{Common.{◌≡◌, ◌<◌, ◌≤◌, length, get_or, arith, sym, ◌∙◌}, lemmas.List.{length-set, take_all}}, hill_bytes.specs.Layout.{new_layout, results_in}}
use Rattle.hill_bytes.proofs.{HeaderBytes.set-step, Results.{length-results, result-at}}
use Rattle.hill_bytes.proofs.slot.Slot.results.Goals as goal

pub loop-place-preserved : goal.loop-place-preserved
loop-place-preserved c =
    let sectors = c.args.self.now.sectors in
    let i = c.loop-place.place in
    let e = c.wins_at.result in
    let below : i < 21 = omega (arith, c.loop-place-test.true) in
    let room : i < length c.loop-place.results = omega (arith, below, c.loop-place.invariant.len) in
    let inside : i < length (results_in new_layout sectors) = omega (arith, below, length-results new_layout sectors) in
    let is : e ≡ get_or (results_in new_layout sectors) i e = c.wins_at.ensures ∙ sym (result-at new_layout sectors i e below) in
    record {
      value = set-step c.loop-place.results (results_in new_layout sectors) i e room inside c.loop-place.invariant.value is;
      len = length-set c.loop-place.results i e ∙ c.loop-place.invariant.len;
    }

pub returns-clause-value : goal.returns-clause-value
returns-clause-value c =
    let sectors = c.args.self.now.sectors in
    let i = c.loop-place.place in
    let ended : 21 ≤ i = omega arith in
    sym (take_all i c.loop-place.results (omega (arith, ended, c.loop-place.invariant.len))) ∙ c.loop-place.invariant.value
    ∙ take_all i (results_in new_layout sectors) (omega (arith, ended, length-results new_layout sectors))
