-- The opponents have the names that the first words stand for.
use Rattle.{std.proofs.Common.take, koth_contests.specs.Opponents.{AreFiles, names_of}}
use Rattle.koth_contests.proofs.opponents.opponents_found.Given as goal

abbrev pub invariant-loop-word : goal.invariant-loop-word
invariant-loop-word g l = AreFiles (take l.word-index l.words) (names_of l.opponents.items)
