-- No bad token so far.
use Rattle.{std.proofs.Common.{◌≡◌, drop}, std.specs.List.list_any, redcode_text.specs.Tokens.pieces, redcode_statement.specs.Statement.is_bad}
use Rattle.redcode_statement.proofs.statement.has_bad_token.Given as goal

abbrev pub invariant-loop-token : goal.invariant-loop-token
invariant-loop-token l = list_any is_bad (pieces (drop l.token-index l.tokens)) ≡ list_any is_bad (pieces l.tokens)
