-- A name among those left is one of the whole.
use Rattle.{std.proofs.Common.{◌≡◌, drop}, redcode_text.specs.Tokens.pieces, redcode_names.specs.Written.has_name}
use Rattle.redcode_names.proofs.rounds.has_name.Given as goal

abbrev pub invariant-loop-token : goal.invariant-loop-token
invariant-loop-token l = has_name (pieces (drop l.token-index l.tokens)) ≡ has_name (pieces l.tokens)
