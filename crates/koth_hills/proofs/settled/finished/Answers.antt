-- The submission that was fought out is the one that was begun, to the same store.
use Rattle.{std.proofs.Common.{◌≡◌, ◌∙◌, Ok, ap, subst, sym}, war_types.specs.Warrior.WarriorParts, redcode_asm.specs.Assembly.assembly}
use Rattle.{hill_store.specs.Seen.{Challenges, Seen, Submits}, koth_hill.specs.Kept.verdict_kept}
use Rattle.{koth_json.specs.Reply.judged_line, koth_hills.proofs.Lines.{challenged, has_line, lacks_line}}
use Rattle.koth_hills.proofs.settled.finished.Goals as goal

pub returns-in-Ok-clause-submits : goal.returns-in-Ok-clause-submits
returns-in-Ok-clause-submits g c = λ source. λ is.
    subst (λ (s : Seen _). Submits g.D.Device.facts s source c.finish-reply.result c.finish-reply.new.self) c.fight_out-judged.ensures.unchanged
    (c.finish-reply.ensures.submits source (ap (λ (s : Seen _). assembly s.hill.settings source) c.fight_out-judged.ensures.unchanged ∙ is ∙ ap (λ (w : WarriorParts). Ok w) (sym c.fight_out-judged.ensures.warrior)))

pub returns-in-Err-clause-submits : goal.returns-in-Err-clause-submits
returns-in-Err-clause-submits g c = λ source. λ is. record { was_open = c.requires.may.is_open; same = c.fight_out-judged.ensures.unchanged }

pub returns-in-Ok-clause-placed : goal.returns-in-Ok-clause-placed
returns-in-Ok-clause-placed g c =
    let facts = g.D.Device.facts in
    let old = c.args.store.now in
    let w = c.args.submission.warrior in
    let now = c.fight_out-judged.new.store in
    let judged = c.fight_out-judged.result in
    let hill : now.hill ≡ old.hill = ap (λ (s : Seen _). s.hill) c.fight_out-judged.ensures.unchanged in
    let is : judged ≡ verdict_kept old.hill w = c.fight_out-judged.ensures.verdict in
    let due = judged_line old.hill (verdict_kept old.hill w) in
    let reply = c.finish-reply.result in
    let fought = subst (λ (s : Seen _). Challenges facts s w reply c.finish-reply.new.self) c.fight_out-judged.ensures.unchanged
    (subst (λ (v : WarriorParts). Challenges facts now v reply c.finish-reply.new.self) c.fight_out-judged.ensures.warrior c.finish-reply.ensures.challenges) in
    has_line c.args.view judged due c.in-Ok.placed.items reply (challenged facts old c.finish-reply.new.self w judged reply fought is)
    (λ json. λ stays. c.in-Ok.ensures json stays ∙ ap (λ k. judged_line k judged) (c.hill.ensures ∙ hill) ∙ ap (λ v. judged_line old.hill v) is)

pub returns-in-Err-clause-placed : goal.returns-in-Err-clause-placed
returns-in-Err-clause-placed g c = lacks_line c.args.view _ _
