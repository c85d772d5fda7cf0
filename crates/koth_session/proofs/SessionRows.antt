-- Rows of replies, computed.
use Rattle.{std.proofs.Common.{◌≡◌, codes, refl}, std.specs.Fmt.digits, hill_store.specs.declared.reply.Reply.Reply, koth_session.specs.Reply.reply_line}

lines : (reply_line (Reply.Placed 1 1 0) ≡ codes "PLACED 1 1 0\n") × (reply_line (Reply.Fell 18446744073709551615 4) ≡ codes "FELL 18446744073709551615 4\n")
unfolding digits
lines = (refl, refl)
