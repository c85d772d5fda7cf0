use Rattle.{std.proofs.Common.{◌∙◌, ap}, koth_protocol.specs.Matches.matches_text, koth_hills.proofs.Shown.{shown_alone, shown_with}}
use Rattle.koth_hills.proofs.show.shown_lines.Goals.{then-matches+in_ok-matrix+in_ok-extend_from_slice, else-matches}
use Rattle.koth_hills.proofs.show.shown_lines.Goals as goal

pub returns : goal.returns
returns g c =
    elim c.if-matches.branch [
      | then-matches+in_ok-matrix+in_ok-extend_from_slice w ↦
          rw w.text-is (shown_with c.args.matches c.args.store.now.hill _ _ _ w.if-matches.true c.in_ok-text.ensures
          (w.as_slice.ensures.value ∙ w.in_ok-matrix.ensures ∙ ap matches_text w.hill.ensures) w.in_ok-extend_from_slice.ensures.items)
      | else-matches w ↦ rw w.text-is (shown_alone c.args.matches c.args.store.now.hill _ w.if-matches.false c.in_ok-text.ensures)
    ]
