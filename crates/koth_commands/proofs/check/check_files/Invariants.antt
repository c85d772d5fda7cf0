-- The sources so far are checked.
use Rattle.{std.proofs.Common.take, koth_commands.specs.{Check.{Checks, places_of}, Report.manner_of, Streams.streams}}
use Rattle.koth_commands.proofs.check.check_files.Given as goal

abbrev pub invariant-loop-source : goal.invariant-loop-source
invariant-loop-source g l = Checks l.settings (manner_of l.checked) (take l.source-index (places_of l.checked)) l.status
    (streams (g.I.Read.remaining l.initial.input) (g.O.Write.contents l.initial.output) (g.E.Write.contents l.initial.errors))
    (streams (g.I.Read.remaining l.input) (g.O.Write.contents l.output) (g.E.Write.contents l.errors))
