-- The number so far goes on to the number of all digits, and fits.
use Rattle.{std.proofs.Common.{◌≡◌, ◌<◌, ◌^◌, drop}, redcode_text.specs.Value.number_from}
use Rattle.redcode_text.proofs.expression.number_value.Given as goal

abbrev pub invariant-loop-digit : goal.invariant-loop-digit
invariant-loop-digit l = (number_from l.number (drop l.digit-index l.digits) ≡ number_from 0 l.digits) × (l.number < 2 ^ 63)
