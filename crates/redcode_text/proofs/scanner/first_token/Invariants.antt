-- Blanks fall, and no token does.
use Rattle.{std.proofs.Common.{◌≡◌, ◌≤◌, length}, redcode_text.specs.Tokens.tokens_after}
use Rattle.redcode_text.proofs.scanner.first_token.Given as goal

abbrev pub invariant-loop-text : goal.invariant-loop-text
invariant-loop-text l = (tokens_after l.bytes 0 l.text ≡ tokens_after l.bytes 0 l.end) × (length l.text ≤ length l.end)

abbrev pub decreases-loop-text : goal.decreases-loop-text
decreases-loop-text l = length l.text
