-- The lines so far are those of the rows so far.
use Rattle.{std.proofs.Common.{◌≡◌, ◌++◌, take}, std.specs.List.{enumerate_from, flat_map}, koth_hill.specs.Rows.rows_parts, koth_protocol.specs.Matches.{entries_shown, entry_line}}
use Rattle.koth_protocol.proofs.matches.put_lines.Given as goal

abbrev pub invariant-loop-place : goal.invariant-loop-place
invariant-loop-place g l =
    l.text.items ≡ l.fn.text.items
    ++ flat_map (λ (rank, one). entry_line l.hill l.places (entries_shown (rows_parts l.rows)) rank one) (enumerate_from 1 (take l.place (entries_shown (rows_parts l.rows))))
