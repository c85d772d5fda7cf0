-- One line more, and all of them at the end.
use Rattle.std.proofs.Common.{◌++◌, get_or, sym, ap, ◌∙◌}
use Rattle.{koth_match.specs.declared.bout.Bout.{Bout}, koth_match.specs.Match.{no_rounds}, koth_hill.specs.Hill.{Member}}
use Rattle.{std.specs.List.{flat_map}, std.proofs.lemmas.Option.{slice_get-get_or}}
use Rattle.koth_json.{specs.Hill.{bout_line}, proofs.Lines.{pair_more, pair_past, zip-all}}
use Rattle.koth_json.proofs.hill.put_bouts.Goals as goal
use Rattle.koth_json.proofs.hill.put_bouts.Goals.{in-Some+in_ok-put_bout, in_default}

pub loop-place-preserved : goal.loop-place-preserved
loop-place-preserved g c =
    let f = λ (p : Member × Bout). bout_line c.args.entry p.0 p.1 in
    let members = c.args.hill.now.members in
    let bouts = c.args.bouts.now in
    let start = c.args.lines.now.items in
    let loop = c.loop-place in
    elim c.match-member.branch [
      | in-Some+in_ok-put_bout w ↦
          pair_more f members bouts loop.place w.in-Some.older (get_or bouts loop.place no_rounds) start loop.lines.items c.match-member.lines.items
          (sym w.in-Some.ensures.value) (slice_get-get_or bouts loop.place no_rounds c.loop-place-test.true) loop.invariant (ap (λ v. v.items) w.lines-is ∙ w.in_ok-put_bout.ensures)
      | in_default w ↦
          ap (λ v. v.items) w.lines-is ∙ pair_past f members bouts loop.place start loop.lines.items (sym w.in_default.ensures.value) loop.invariant
    ]

pub returns : goal.returns
returns g c =
    c.loop-place.invariant ∙ ap (λ pairs. c.args.lines.now.items ++ flat_map (λ (p : Member × Bout). bout_line c.args.entry p.0 p.1) pairs)
    (zip-all c.args.hill.now.members c.args.bouts.now c.loop-place.place c.loop-place-test.false)
