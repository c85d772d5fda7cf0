-- What the store would answer is told, and the store is as it was.
use Rattle.{std.proofs.Common.{◌≡◌, ◌⊎◌, ◌∙◌, ℕ, [], Some, ap, subst, sym}, hill_store.specs.Seen.Seen, koth_json.specs.Reply.judged_line}
use Rattle.koth_hills.{specs.{Hills.AnswersReply, Json.IsLineOf, Trials.{IsTrialText, Tried}}, proofs.{Lines.{has_line, is_line}, Tried.{answered, due_of, foretold, if_ok, judged_of, replied_of}}}
use Rattle.koth_hills.proofs.trial.try_source.Goals as goal

pub returns-in_ok-placed-in-Some-Ok-clause-tried : goal.returns-in_ok-placed-in-Some-Ok-clause-tried
returns-in_ok-placed-in-Some-Ok-clause-tried g c =
    let judged = c.in-Some-Ok.judged in
    let facts = g.D.Device.facts in
    let store = c.args.store.now in
    let source = c.args.source.text.now in
    let view = c.args.view in
    let reply = c.judged-reply.result in
    let more = c.as_slice-more.result.now in
    let is = c.in-Some-Ok.is ∙ ap (λ r. Some r) c.in-Some-Ok.field-0-is in
    let told = subst (λ k. IsTrialText view k judged c.trial_text-more.result.items)
    (c.hill-in-Some-Ok.ensures ∙ ap (λ s. s.hill) c.try_source.ensures.unchanged) c.trial_text-more.ensures in
    let placed = c.in_ok-placed-in-Some-Ok.placed.items in
    let due = due_of facts store source c.try_source.result c.try_source.ensures.tried judged is in
    let line : IsLineOf view store.hill source reply placed = is_line view store.hill source judged reply placed due
    (has_line view judged (judged_line store.hill judged) placed reply (λ entry. λ rank. λ score. λ e. sym e ∙ c.judged-reply.ensures)
    (λ json. λ stays. c.in_ok-placed-in-Some-Ok.ensures json stays ∙ ap (λ k. judged_line k judged) (c.hill.ensures ∙ ap (λ (s : Seen _). s.hill) c.try_source.ensures.unchanged))) in
    if_ok c.reply_answer.result (λ a. AnswersReply view placed reply more a ⊎ AnswersReply view placed reply [] a) (Tried facts store source view)
    (λ a answers. foretold facts store source view judged reply placed more a
    due
    (c.judged-reply.ensures ∙ (judged_of facts store source c.try_source.result c.try_source.ensures.tried judged is).reply) line
    (subst (λ t. IsTrialText view store.hill judged t) (sym c.as_slice-more.ensures.value) told) answers) c.reply_answer.ensures.answers

pub returns-in-Some-Err-clause-tried : goal.returns-in-Some-Err-clause-tried
returns-in-Some-Err-clause-tried g c =
    let facts = g.D.Device.facts in
    let store = c.args.store.now in
    let source = c.args.source.text.now in
    let view = c.args.view in
    let reply = c.in-Some-Err.reply in
    let placed = c.new-placed.result.items in
    let is = c.in-Some-Err.is ∙ ap (λ r. Some r) c.in-Some-Err.field-0-is in
    let submits = replied_of facts store source c.try_source.result c.try_source.ensures.tried reply is in
    if_ok c.reply_answer-in-Some-Err.result (λ a. AnswersReply view placed reply [] a ⊎ AnswersReply view placed reply [] a) (Tried facts store source view)
    (λ a answers. answered facts store source view reply placed a submits answers) c.reply_answer-in-Some-Err.ensures.answers
