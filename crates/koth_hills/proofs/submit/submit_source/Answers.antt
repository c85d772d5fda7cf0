-- What stands after the line is what became of the warrior between the hill before and the hill after.
use Rattle.{std.proofs.Common.{◌≡◌, ◌⊎◌, [], IfSome, subst, sym}, koth_views.specs.Roster.roster, koth_hills.specs.{Hills.{AnswersReply, IsPlacing, Submitted}, Json.IsRefused}}
use Rattle.koth_hills.proofs.{Replies.{is_placing, on_err, refused_left, submitted}, Tried.if_ok}
use Rattle.koth_hills.proofs.submit.submit_source.Goals as goal

pub returns-clause-submitted : goal.returns-clause-submitted
returns-clause-submitted g c =
    let facts = g.D.Device.facts in
    let old = c.args.store.now in
    let new = c.settle-settled.new.store in
    let source = c.args.source.text.now in
    let view = c.args.view in
    let reply = c.settle-settled.result.reply in
    let judged = c.settle-settled.result.judged in
    let stood = c.roster_for-before.result in
    let items = c.placing_text-placing.result.items in
    let text = c.placing_text-placing.ensures in
    let placed = c.settle-settled.result.placed.items in
    let more = c.as_slice-more.result.now in
    let result = c.reply_answer.result in
    let known = subst (λ k. IfSome stood (λ v. v.items ≡ roster k)) c.hill.ensures c.roster_for-before.ensures.roster in
    let placing = is_placing (λ v. v.items) view old.hill c.hill-2.result.now source reply judged stood items known c.settle-settled.ensures.due text.plain text.none text.some text.json in
    let told = subst (λ t. IsPlacing view old.hill new.hill source reply t) (sym c.as_slice-more.ensures.value)
    (subst (λ k. IsPlacing view old.hill k source reply items) c.hill-2.ensures placing) in
    if_ok result (λ a. AnswersReply view placed reply more a ⊎ AnswersReply view placed reply [] a) (Submitted facts old source new view)
    (λ a answers. submitted facts old new source view reply placed more a c.settle-settled.ensures.submits c.settle-settled.ensures.placed told answers) c.reply_answer.ensures.answers

pub returns-clause-memory : goal.returns-clause-memory
returns-clause-memory g c =
    let old = c.args.store.now in
    let new = c.settle-settled.new.store in
    let reply = c.settle-settled.result.reply in
    on_err c.reply_answer.result (IsRefused reply) (new ≡ old)
    (refused_left g.D.Device.facts old new c.args.source.text.now c.args.view reply c.settle-settled.ensures.submits)
    c.reply_answer.ensures.memory
