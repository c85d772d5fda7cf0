-- The first warning of these labels is that of those that are left.
use Rattle.{std.proofs.Common.{◌≡◌, length}, redcode_text.specs.Tokens.pieces, redcode_warnings.specs.{Label.first_warning, Views.has_name}}
use Rattle.redcode_warnings.proofs.label.first_warning.Given as goal

abbrev pub invariant-loop-rest : goal.invariant-loop-rest
invariant-loop-rest g l = first_warning (has_name l.named) l.is_late l.are_alone (pieces l.rest) ≡ first_warning (has_name l.named) l.is_late l.are_alone (pieces l.labels)

abbrev pub decreases-loop-rest : goal.decreases-loop-rest
decreases-loop-rest g l = length l.rest
