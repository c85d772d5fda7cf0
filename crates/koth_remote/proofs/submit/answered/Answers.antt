-- The answer ends as its reply does.
use Rattle.{std.proofs.Common.{◌⊎◌, ℕ, List, inl, inr}, hill_store.specs.declared.reply.Reply.Reply, koth_words.specs.declared.requests.View.View}
use Rattle.{koth_commands.specs.Answer.AnswerParts, koth_hills.specs.Hills.AnswersReply, koth_remote.specs.Remote.EndsAsReply}
use Rattle.koth_remote.proofs.submit.answered.Goals as goal

as_reply : (view : View) (placed : List ℕ) (reply : Reply) (m n : List ℕ) (answer : AnswerParts)
    → AnswersReply view placed reply m answer ⊎ AnswersReply view placed reply n answer → EndsAsReply answer.status
as_reply view placed reply m n answer (inl whole) = inl (reply, whole.ends)
as_reply view placed reply m n answer (inr line) = inl (reply, line.ends)

pub returns : goal.returns
returns g c = record { ends = as_reply _ _ _ _ _ _ c.in_ok-answer.ensures.answers }
