-- The faults so far are told, each at a place in its line.
use Rattle.{std.proofs.Common.{◌≡◌, All, map, take}, redcode_lines.specs.Place.{IsPlaceIn, line_text}}
use Rattle.redcode_diagnosis.proofs.diagnosis.told_all.Given as goal

abbrev pub invariant-loop-fault : goal.invariant-loop-fault
invariant-loop-fault g l = (map (λ d. d.fault) l.all.items ≡ take l.fault-index l.faults) × All (λ d. IsPlaceIn (line_text l.source d.fault.line) d.column d.width) l.all.items
