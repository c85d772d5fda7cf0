-- The files of the first names were put.
use Rattle.{koth_contests.specs.Opponents.names_of, koth_contests.proofs.Found.InFolder}
use Rattle.koth_contests.proofs.opponents.put_found.Given as goal

abbrev pub invariant-loop-name : goal.invariant-loop-name
invariant-loop-name g l = InFolder l.folder (names_of l.initial.opponents.items) (names_of l.opponents.items)
