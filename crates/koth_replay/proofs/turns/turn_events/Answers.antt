-- If there is no turn, nothing changes; else what is put are the events of the turn.
use Rattle.{std.proofs.Common.{◌∙◌, refl, sym, ap, subst}, war_types.specs.declared.settings.RawSettings.RawSettings, mars_core.specs.{Round.{Round, after_turn}, Touched.AreSameBut}}
use Rattle.{koth_match.proofs.Kept.after_turn-settings, koth_replay.proofs.{Endings.stays-over, Histories.turn_told}}
use Rattle.koth_replay.proofs.turns.turn_events.Goals as goal

pub returns-in_default-clause-after : goal.returns-in_default-clause-after
returns-in_default-clause-after g c = sym (stays-over c.args.arena.now (after_turn c.args.arena.now) c.in_default.ensures.same refl)

pub push_changes-requires-clause-there : goal.push_changes-requires-clause-there
push_changes-requires-clause-there g c =
    c.turn-turned.ensures.round.core.length ∙ ap (λ (r : Round). r.settings.core) c.turn-turned.ensures.after
    ∙ ap (λ (s : RawSettings). s.core) (after_turn-settings c.args.arena.now) ∙ sym c.requires.core

pub returns-clause-events : goal.returns-clause-events
returns-clause-events g c =
    let r : Round = c.args.arena.now in
    let same : AreSameBut c.in-Some.addresses r.core c.turn-turned.new.self.core =
    subst (λ (next : Round). AreSameBut c.in-Some.addresses r.core next.core) (sym c.turn-turned.ensures.after) c.in-Some.ensures.same.1 in
    turn_told r c.turn-turned.new.self c.args.side c.args.core c.processes-waiting.result c.unwrap.result c.process-front.result
    c.new-events.result.items c.push.new.self.items c.push_changes.new.events.items c.push_processes.new.events.items
    c.in-Some.ensures.same.0 c.requires.side c.requires.core c.process-front.ensures.value c.unwrap.ensures c.processes-waiting.ensures.value
    c.turn-turned.ensures.after c.new-events.ensures.items c.in_ok-push.ensures.items (c.in_ok-push_changes.ensures r.core c.held_at-held.ensures same)
    c.in_ok-push_processes.ensures
