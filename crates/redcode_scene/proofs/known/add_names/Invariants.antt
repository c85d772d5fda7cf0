-- The names so far, and those on the lines that are left, are those on all lines.
use Rattle.{std.proofs.Common.{◌≡◌, length, map}, redcode_scene.specs.Search.with_names}
use Rattle.redcode_scene.proofs.known.add_names.Given as goal

abbrev pub invariant-loop-rest : goal.invariant-loop-rest
invariant-loop-rest g l =
    with_names l.expanded (map (λ name. name.now) l.names.items) l.rest
    ≡ with_names l.expanded (map (λ name. name.now) l.initial.names.items) l.lines

abbrev pub decreases-loop-rest : goal.decreases-loop-rest
decreases-loop-rest g l = length l.rest
