-- How the program ends with a reply.
use Rattle.{hill_store.specs.declared.reply.Reply.Reply, koth_commands.specs.declared.status.Status.Status}

-- how `submit` ends with a reply
abbrev pub reply_status : Reply → Status
reply_status (Reply.Placed entry rank score) = Status.Done
reply_status (Reply.Fell entry score) = Status.Done
reply_status (Reply.Refused fault) = Status.Refused
reply_status Reply.Worn = Status.Refused
reply_status Reply.Memory = Status.NoMemory
reply_status Reply.Disk = Status.StreamFault
reply_status Reply.Reopen = Status.StreamFault
