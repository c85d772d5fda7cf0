-- One line more.
use Rattle.{std.proofs.Common.{ℕ, [], ◌+◌, get_or, take}, std.specs.List.{enumerate_from, flat_map}, koth_hill.specs.Rows.rows_parts, koth_protocol.specs.Matches.{entries_shown, entry_line}}
use Rattle.koth_protocol.proofs.MatchLines.{one-line_more, put_behind}
use Rattle.koth_protocol.proofs.matches.put_lines.Goals as goal

pub loop-place-preserved : goal.loop-place-preserved
loop-place-preserved g c =
    let rows = c.args.rows.now in
    let entries = entries_shown (rows_parts rows) in
    let place = c.loop-place.place in
    let row = c.index-rows-place.result in
    let f = λ (p : ℕ × ℕ). entry_line c.args.hill.now c.args.places entries p.0 p.1 in
    put_behind c.args.text.now.items [] (flat_map f (enumerate_from 1 (take place entries))) (f (place + 1, (get_or rows place row).entry)) (flat_map f (enumerate_from 1 (take (place + 1) entries))) c.loop-place.text.items
    c.put_line.new.text.items
    c.in_ok-put_line.ensures c.loop-place.invariant (one-line_more f rows place row c.loop-place-test.true)
