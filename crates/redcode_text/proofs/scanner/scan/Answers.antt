use Rattle.{std.proofs.Common.{append-nil, refl}, redcode_text.proofs.{Scanning.without_places, TokenLists.one_list, Longest.are_tokens_of}}
use Rattle.redcode_text.proofs.scanner.scan.Goals as goal

pub returns-in_err-push-clause-only : goal.returns-in_err-push-clause-only
returns-in_err-push-clause-only g c = one_list 0 c.args.line.now

pub returns-clause-are_its : goal.returns-clause-are_its
returns-clause-are_its g c = let done = rw (c.in_default.ensures, append-nil) at c.loop-token.invariant.0 in rw done (are_tokens_of c.args.line.now)

pub returns-clause-only : goal.returns-clause-only
returns-clause-only g c = one_list 0 c.args.line.now

pub returns-clause-pieces : goal.returns-clause-pieces
returns-clause-pieces g c =
    let done = rw (c.in_default.ensures, append-nil) at c.loop-token.invariant.0 in
    rw (← without_places c.loop-token.tokens.items, done) refl
