-- None of the next blocks' counters follows an & among the tokens so far, and whether the last of these is one.
use Rattle.{std.proofs.Common.{◌≡◌, ◌≤◌, drop, take, false}, redcode_text.specs.Tokens.pieces, redcode_copies.specs.Plain.has_join, redcode_expand.specs.Rest.counters_in}
use Rattle.redcode_expand.proofs.PlacedNames.{ends_and}
use Rattle.redcode_expand.proofs.open_blocks.unjoined_in.Given as goal

abbrev pub invariant-loop-token : goal.invariant-loop-token
invariant-loop-token g l =
    (l.count ≤ l.most) × (has_join (counters_in (take l.count (drop l.from l.blocks))) false (pieces (take l.token-index l.tokens)) ≡ false)
    × (l.is_behind_and ≡ ends_and false (pieces (take l.token-index l.tokens)))
