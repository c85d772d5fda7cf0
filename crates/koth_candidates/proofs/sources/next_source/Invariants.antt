-- No byte so far ends a source.
use Rattle.koth_candidates.proofs.Reading.{SoFar}
use Rattle.koth_candidates.proofs.sources.next_source.Given as goal

abbrev pub invariant-loop : goal.invariant-loop
invariant-loop g l = SoFar l.script l.is_begun (g.I.Read.remaining l.fn.input) (g.I.Read.remaining l.input)
