-- The row is among those that are left if it is among all.
use Rattle.{std.proofs.Common.{◌≡◌, drop}, koth_hill.specs.Rows.rows_parts, koth_json.specs.Reply.row_of}
use Rattle.koth_json.proofs.reply.row_of.Given as goal

abbrev pub invariant-loop-place : goal.invariant-loop-place
invariant-loop-place l = row_of (rows_parts (drop l.place l.rows)) l.entry ≡ row_of (rows_parts l.rows) l.entry
