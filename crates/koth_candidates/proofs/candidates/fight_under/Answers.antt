-- The opponents are found, and are not too many.
use Rattle.{std.proofs.{Common.{inl, inr, subst}, KnownBytes.Keeps-refl}, koth_contests.specs.Opponents.{AreFiles, names_of}, koth_candidates.proofs.Answering.none_found}
use Rattle.koth_candidates.proofs.candidates.fight_under.Goals as goal

pub returns-in_default : goal.returns-in_default
returns-in_default g c = inr (none_found c.memory.result c.tell.result _ _ _ c.memory.ensures c.tell.ensures)

pub returns-then-len-gt-MOST_OPPONENTS : goal.returns-then-len-gt-MOST_OPPONENTS
returns-then-len-gt-MOST_OPPONENTS g c = inr (inl c.refuse.ensures.status, Keeps-refl (g.O.Write.contents c.args.output.now), c.refuse.ensures.told)

pub returns : goal.returns
returns g c = inl (_, c.in-Ok.ensures, rw c.as_slice-found.ensures.value at c.fight_sources.ensures)
