use Rattle.{std.proofs.Common.subst, redcode_expand.specs.Rest.ArePlaced, redcode_expand.proofs.PlacedNames.both-front}
use Rattle.redcode_expand.proofs.open_blocks.OpenBlocks.pop.Goals as goal

pub invariant_of-self : goal.invariant_of-self
invariant_of-self g c = both-front c.self.inside.names c.pop.new.self.items _ (subst (ArePlaced c.self.inside.names) c.pop.ensures.items c.self.invariant)
