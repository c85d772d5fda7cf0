-- How the commands on a hill elsewhere end.
use Rattle.std.specs.Prelude.{◌≡◌, ◌⊎◌, IfOk}
use Rattle.{hill_store.specs.declared.reply.Reply.Reply, koth_commands.specs.declared.status.Status.Status}
use Rattle.{koth_keeping.specs.Answers.Outcome, koth_hills.specs.ReplyStatus.reply_status}

-- a submission ends as a reply does, or as at a stream that failed
abbrev pub EndsAsReply : Status → Type 0
EndsAsReply status = ((reply : Reply) × (status ≡ reply_status reply)) ⊎ (status ≡ Status.StreamFault)

-- a table was told, or the stream failed
abbrev pub EndsAsTable : Status → Type 0
EndsAsTable status = (status ≡ Status.Done) ⊎ (status ≡ Status.StreamFault)

-- what a submission may come to
abbrev pub MaySubmitTo : Outcome → Type 0
MaySubmitTo outcome = IfOk outcome (λ answer. EndsAsReply answer.status)

-- what a look at a table may come to
abbrev pub MayShowTo : Outcome → Type 0
MayShowTo outcome = IfOk outcome (λ answer. EndsAsTable answer.status)
