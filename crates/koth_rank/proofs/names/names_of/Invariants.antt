-- The first labels are told.
use Rattle.{std.proofs.Common.{◌≡◌, map, take}, koth_standings.specs.declared.part_text.Row.Row, koth_rank.specs.{Join.{label_of, named_parts}, declared.names.Named.Named}}
use Rattle.koth_rank.proofs.names.names_of.Given as goal

abbrev pub invariant-loop-place : goal.invariant-loop-place
invariant-loop-place g l = map (λ (n : Named). label_of (named_parts n)) l.names.items ≡ map (λ (r : Row). r.label.now) (take l.place l.rows)
