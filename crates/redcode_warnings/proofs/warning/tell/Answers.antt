use Rattle.{redcode_lines.specs.Place.{IsPlaceIn, line_text}, redcode_warnings.proofs.Told.all-more}
use Rattle.redcode_warnings.proofs.warning.tell.Goals as goal

pub returns-clause-placed : goal.returns-clause-placed
returns-clause-placed g c all =
    all-more (λ w. IsPlaceIn (line_text c.args.source.now w.line) w.column w.width) _ _ _ c.in_ok-push.ensures.items all (rw c.line_text-text.ensures at c.place_in-column.ensures)
