-- The first block of the name is the first of those that are left.
use Rattle.{std.proofs.Common.{◌≡◌, ◌+◌, drop}, std.specs.Option.option_map, redcode_expand.specs.Rest.place_in}
use Rattle.redcode_expand.proofs.open_blocks.place_among.Given as goal

abbrev pub invariant-loop-i : goal.invariant-loop-i
invariant-loop-i l = place_in l.blocks l.name ≡ option_map (λ p. p + l.i) (place_in (drop l.i l.blocks) l.name)
