-- One cell more.
use Rattle.{std.proofs.Common.{ℕ, ◌+◌, codes, decimal}, std.specs.List.{flat_map, range_with_len}, koth_protocol.specs.Matches.cell, koth_protocol.proofs.MatchLines.{one-rank_more, put_behind}}
use Rattle.koth_protocol.proofs.matches.put_ranks.Goals as goal

pub loop-place-preserved : goal.loop-place-preserved
loop-place-preserved g c =
    let place = c.loop-place.place in
    let f = λ (rank : ℕ). cell c.args.places (decimal rank) in
    put_behind c.args.text.now.items (codes "  ") (flat_map f (range_with_len 1 place)) (f (place + 1)) (flat_map f (range_with_len 1 (place + 1))) c.loop-place.text.items c.put_number.new.text.items
    c.in_ok-put_number.ensures c.loop-place.invariant (one-rank_more f place)
