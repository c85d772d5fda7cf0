-- What is answered.
use Rattle.std.specs.{Prelude.{◌≡◌, ℕ, true, List, nat_eq}, List.starts_with}
use Rattle.{hill_store.specs.declared.reply.Reply.Reply, koth_session.specs.Reply.reply_line}

-- a session answered by this reply: what came begins with its line
abbrev pub IsReply : List ℕ → Reply → Type 0
IsReply came reply = starts_with nat_eq came (reply_line reply) ≡ true
