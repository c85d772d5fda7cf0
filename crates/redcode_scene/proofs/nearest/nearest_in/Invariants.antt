-- The nearest name so far, and then that of the names that are left, is that of all names.
use Rattle.{std.proofs.Common.{◌≡◌, length, map, option_map, None}, redcode_scene.specs.Search.{nearest_from, seen}}
use Rattle.redcode_scene.proofs.nearest.nearest_in.Given as goal

abbrev pub invariant-loop-rest : goal.invariant-loop-rest
invariant-loop-rest g l =
    nearest_from l.word (option_map seen l.best) (map (λ name. name.now) l.rest) ≡ nearest_from l.word None (map (λ name. name.now) l.names)

abbrev pub decreases-loop-rest : goal.decreases-loop-rest
decreases-loop-rest g l = length l.rest
