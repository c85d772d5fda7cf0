-- The lines of the replies.
use Rattle.std.specs.Prelude.{ℕ, List, ◌++◌, codes, decimal}
use Rattle.{hill_store.specs.declared.reply.Reply.Reply, koth_protocol.specs.Refusal.refusal_line}

-- the line of a reply
abbrev pub reply_line : Reply → List ℕ
reply_line (Reply.Placed entry rank score) =
    codes "PLACED " ++ decimal entry ++ codes " " ++ decimal rank ++ codes " " ++ decimal score ++ codes "\n"
reply_line (Reply.Fell entry score) = codes "FELL " ++ decimal entry ++ codes " " ++ decimal score ++ codes "\n"
reply_line (Reply.Refused fault) = refusal_line fault
reply_line Reply.Memory = codes "MEMORY\n"
reply_line Reply.Worn = codes "WORN\n"
reply_line Reply.Disk = codes "DISK\n"
reply_line Reply.Reopen = codes "REOPEN\n"
