-- The answer to a source that is refused is the same whatever the line of a warrior that is placed is.
use Rattle.{std.proofs.Common.{◌⊎◌, [], inr, subst, sym}, hill_store.specs.declared.reply.Reply.Reply, koth_words.specs.declared.requests.View.View}
use Rattle.koth_hills.{specs.Hills.AnswersReply, proofs.Tried.if_ok}
use Rattle.koth_hills.proofs.submit.json_answer.Goals as goal

pub returns-in-Refused-clause-answers : goal.returns-in-Refused-clause-answers
returns-in-Refused-clause-answers g c =
    let placed = c.args.rooms.placed.items in
    let reply = c.args.reply.now in
    if_ok c.refused_answer.result (AnswersReply View.Json placed (Reply.Refused c.in-Refused.fault) [])
    (λ answer. AnswersReply View.Json placed reply c.args.more.now answer ⊎ AnswersReply View.Json placed reply [] answer)
    (λ answer says. inr (subst (λ r. AnswersReply View.Json placed r [] answer) (sym c.in-Refused.is) says)) (c.refused_answer.ensures placed)
