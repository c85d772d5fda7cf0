-- The lines of one warrior more, and all of them at the end.
use Rattle.std.proofs.Common.{◌≤◌, ◌++◌, List, length, sym, ap, ◌∙◌, arith}
use Rattle.{koth_match.specs.declared.bout.Bout.{Bout}, koth_hill.specs.Hill.{Member}}
use Rattle.std.specs.List.{flat_map}
use Rattle.koth_json.{specs.Hill.{bout_lines}, proofs.Lines.{pair_more, pair_past, zip-all}}
use Rattle.koth_json.proofs.hill.put_kept.Goals as goal
use Rattle.koth_json.proofs.hill.put_kept.Goals.{in-Some+in_ok-put_bouts, in_default}

pub loop-place-preserved : goal.loop-place-preserved
loop-place-preserved g c =
    let members = c.args.hill.now.members in
    let results = c.args.hill.now.results in
    let f = λ (p : Member × List Bout). bout_lines p.0.entry members p.1 in
    let start = c.args.lines.now.items in
    let loop = c.loop-place in
    elim c.match-member.branch [
      | in-Some+in_ok-put_bouts w ↦
          pair_more f members results loop.place w.in-Some.member w.bouts.result.now start loop.lines.items c.match-member.lines.items
          (sym w.in-Some.ensures.value) w.bouts.ensures.value loop.invariant
          (ap (λ v. v.items) w.lines-is ∙ w.in_ok-put_bouts.ensures
          ∙ ap (λ (m : Member). loop.lines.items ++ bout_lines m.entry members w.bouts.result.now) w.member-in-Some.view_is)
      | in_default w ↦
          ap (λ v. v.items) w.lines-is ∙ pair_past f members results loop.place start loop.lines.items (sym w.in_default.ensures.value) loop.invariant
    ]

pub returns : goal.returns
returns g c =
    let k = c.args.hill.now in
    let long : length k.results ≤ c.loop-place.place = omega (arith, c.len-place-end.ensures.hill.each, c.len-place-end.ensures.value, c.loop-place-test.false) in
    c.loop-place.invariant ∙ ap (λ pairs. c.args.lines.now.items ++ flat_map (λ (p : Member × List Bout). bout_lines p.0.entry k.members p.1) pairs)
    (zip-all k.members k.results c.loop-place.place long)
