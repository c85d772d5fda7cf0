-- The cells so far are those of the rows so far.
use Rattle.{std.proofs.Common.{◌≡◌, ◌++◌, take, decimal}, std.specs.List.flat_map, koth_hill.specs.Rows.rows_parts, koth_protocol.specs.Matches.{cell, entries_shown, right, told_of}}
use Rattle.koth_protocol.proofs.matches.put_line.Given as goal

abbrev pub invariant-loop-place : goal.invariant-loop-place
invariant-loop-place g l =
    l.text.items ≡ l.fn.text.items ++ (right 2 (decimal l.rank) ++ flat_map (λ other. cell l.places (told_of l.hill l.one other)) (take l.place (entries_shown (rows_parts l.rows))))
