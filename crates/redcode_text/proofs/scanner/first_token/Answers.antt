use Rattle.{std.proofs.{Common.{sym, ap, ◌∙◌, length, arith, length-drop}, lemmas.Grind.common_steps}, redcode_text.proofs.Scanning.first_token_at}
use Rattle.redcode_text.proofs.scanner.first_token.Goals as goal

pub returns-then-not-is_blank : goal.returns-then-not-is_blank
returns-then-not-is_blank c = (
  rw (c.split_at.ensures.front, c.split_at.ensures.back, c.kind_and_rest-kind.ensures.kind) (
      sym c.loop-text.invariant.0
      ∙ first_token_at c.args.bytes c.loop-text.text.now _ _ (grind (arith, c.is_blank.ensures)) c.in-len1-up.len_at_least (grind (arith, common_steps)) c.kind_and_rest-kind.ensures.rest),
  omega (arith, simp length-drop at (ap length c.split_at.ensures.back), c.loop-text.invariant.1),
)
