-- What is climbed from here on is climbed from the beginning.
use Rattle.{std.proofs.Common.{suc, ◌+◌, ◌-◌, ◌*◌, ◌≤◌, length, Some}, redcode_text.specs.Climbing.{Found, Climbs, Begin, Continue, parts_of}}
use Rattle.redcode_text.proofs.expression.+climb.Given as goal

abbrev pub decreases-climb : goal.decreases-climb
decreases-climb g l = 9 * length l.tokens.now + (l.rank + 1)

abbrev pub decreases-right_of : goal.decreases-right_of
decreases-right_of g l = 9 * length l.tokens.now + (l.rank + 2)

abbrev pub decreases-operand : goal.decreases-operand
decreases-operand g l = 9 * length l.tokens.now

abbrev pub decreases-around : goal.decreases-around
decreases-around g l = 9 * length l.tokens.now + 8

abbrev pub invariant-climb-loop-climbed : goal.invariant-climb-loop-climbed
invariant-climb-loop-climbed g l =
    let parts = parts_of (g.N.Names.values l.names) in
    Climbs l.climbed l.depth (Begin (parts l.tokens)) (Some (l.value, parts l.rest)) × (l.climbed ≤ l.rank) × (length l.rest ≤ length l.tokens)

abbrev pub decreases-climb-loop-climbed : goal.decreases-climb-loop-climbed
decreases-climb-loop-climbed g l = l.rank - l.climbed

abbrev pub invariant-climb-loop-operator : goal.invariant-climb-loop-operator
invariant-climb-loop-operator g l =
    let parts = parts_of (g.N.Names.values l.names) in
    ((out : Found) → Climbs (suc l.climbed) l.depth (Continue l.value (parts l.rest)) out → Climbs (suc l.climbed) l.depth (Begin (parts l.tokens)) out) × (length l.rest ≤ length l.tokens)

abbrev pub decreases-climb-loop-operator : goal.decreases-climb-loop-operator
decreases-climb-loop-operator g l = length l.rest
