-- The cells so far are those of the ranks so far.
use Rattle.{std.proofs.Common.{◌≡◌, ◌++◌, codes, decimal}, std.specs.List.{flat_map, range_with_len}, koth_protocol.specs.Matches.cell}
use Rattle.koth_protocol.proofs.matches.put_ranks.Given as goal

abbrev pub invariant-loop-place : goal.invariant-loop-place
invariant-loop-place g l = l.text.items ≡ l.fn.text.items ++ (codes "  " ++ flat_map (λ rank. cell l.places (decimal rank)) (range_with_len 1 l.place))
