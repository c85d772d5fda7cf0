-- One cell more.
use Rattle.{std.proofs.Common.{ℕ, ◌+◌, decimal, get_or, take}, std.specs.List.flat_map, koth_hill.specs.Rows.rows_parts, koth_protocol.specs.Matches.{cell, entries_shown, right, told_of}}
use Rattle.koth_protocol.proofs.MatchLines.{one-cell_more, put_behind}
use Rattle.koth_protocol.proofs.matches.put_line.Goals as goal

pub loop-place-preserved : goal.loop-place-preserved
loop-place-preserved g c =
    let rows = c.args.rows.now in
    let entries = entries_shown (rows_parts rows) in
    let place = c.loop-place.place in
    let row = c.index-rows-place.result in
    let f = λ (other : ℕ). cell c.args.places (told_of c.args.hill.now c.args.one other) in
    put_behind c.args.text.now.items (right 2 (decimal c.args.rank)) (flat_map f (take place entries)) (f (get_or rows place row).entry) (flat_map f (take (place + 1) entries)) c.loop-place.text.items
    c.put_told.new.text.items
    c.in_ok-put_told.ensures c.loop-place.invariant (one-cell_more f rows place row c.loop-place-test.true)
