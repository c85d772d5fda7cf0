-- The lines of the first places are put.
use Rattle.{std.proofs.Common.{◌≡◌, ◌++◌}, koth_field.specs.Field.entrants_of, koth_standings.specs.PartText.rows_text, koth_rank.specs.Part.rows_of}
use Rattle.koth_rank.proofs.part.put_members.Given as goal

abbrev pub invariant-loop-place : goal.invariant-loop-place
invariant-loop-place g l = l.text.items ≡ l.fn.text.items ++ rows_text (rows_of (entrants_of l.members) l.standings.counts l.place)
