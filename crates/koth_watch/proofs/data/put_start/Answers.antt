-- The four parts before the turns.
use Rattle.{std.proofs.Common.codes, koth_text.proofs.Steps.four_parts, koth_watch.specs.Data.{events_text, opening_text, start_text}}
use Rattle.koth_watch.proofs.data.put_start.Goals as goal

pub returns : goal.returns
unfolding start_text
returns g c =
    let o = c.args.opening in
    four_parts c.args.page.now.items (opening_text o) (codes ",\n\"loaded\":") (events_text o.core c.args.loaded.now) (codes ",\n\"turns\":[")
    c.put_opening.new.page.items c.extend_from_slice.new.self.items c.put_events.new.page.items c.extend_from_slice-2.new.self.items
    c.in_ok-put_opening.ensures c.in_ok-extend_from_slice.ensures.items c.in_ok-put_events.ensures c.in_ok-extend_from_slice-2.ensures.items
