-- The warriors so far are those of the rows so far.
use Rattle.{std.proofs.Common.{◌≡◌, take}, koth_hill.specs.Rows.rows_parts, koth_views.specs.Roster.roster_of}
use Rattle.koth_views.proofs.entrants.roster_of.Given as goal

abbrev pub invariant-loop-place : goal.invariant-loop-place
invariant-loop-place g l = l.entered.items ≡ roster_of (take l.place (rows_parts l.rows))
