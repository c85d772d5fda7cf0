-- The tokens so far and those of what is left are those of the line.
use Rattle.{std.proofs.Common.{◌≡◌, ◌≤◌, ◌++◌, length}, redcode_text.specs.Tokens.{scanned_pieces, tokens_after, tokens_of}}
use Rattle.redcode_text.proofs.scanner.scan.Given as goal

abbrev pub invariant-loop-token : goal.invariant-loop-token
invariant-loop-token g l = (scanned_pieces l.tokens.items ++ tokens_after l.bytes 0 l.rest ≡ tokens_of l.fn.line) × (length l.rest ≤ l.bytes)

abbrev pub decreases-loop-token : goal.decreases-loop-token
decreases-loop-token g l = length l.rest
