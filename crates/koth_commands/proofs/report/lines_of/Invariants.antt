-- The lines of those so far.
use Rattle.{std.proofs.Common.{map, take}, koth_commands.specs.Report.{AreLines, TellsFound}}
use Rattle.koth_commands.proofs.report.lines_of.Given as goal

abbrev pub invariant-loop-remark : goal.invariant-loop-remark
invariant-loop-remark g l = AreLines (TellsFound l.form l.name l.source) (map g.R.Remark.found (take l.remark-index l.remarks)) l.text.items
