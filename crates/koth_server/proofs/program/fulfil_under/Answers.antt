-- Each command ends as its request says, and none of them ends as at a fault of the arguments.
use Rattle.{std.proofs.Common.{None, ap, is_some, option_copied, option_map, subst, sym}, war_types.specs.Settings.settings_of, koth_commands.specs.{Asm.wanted_of, Check.places_of, Report.manner_of, Streams.{From, is_input, streams}}}
use Rattle.koth_keeping.specs.{Answers.{Answers, SaysLine}, Audit.SaysAudit, Copies.{MayReseed, SaysCopied}, Created.MayCreate, Migration.migrated_line}
use Rattle.{koth_hills.specs.{Hills.{AnswersSource, SaysReply, SaysShown, TellsNote, sight_of}, Page.SaysPage, Trials.{AnswersTrial, SaysTrial}}, koth_server.specs.Run.viewed, koth_remote.specs.Remote.MayShowTo}
use Rattle.koth_server.proofs.{Carried.{asm_no_word, candidates_no_word, check_no_word, explain_no_word, fight_no_word, join_no_word, rank_no_word, replay_no_word, request_ends, trace_no_word}, Performed.{noted, of_source, of_trial, plain}}
use Rattle.koth_server.proofs.Statuses.{audited, copied, created, migrated, paged, replied, reseeded, shown, shown_to, tried}
use Rattle.koth_server.proofs.program.fulfil_under.Goals.{in-Create, in-Migrate, in-Submit, in-Try, in-Show, in-ShowTo, in-Page, in-Audit, in-Copy, in-Reseed}
use Rattle.koth_server.proofs.program.fulfil_under.Goals as goal

pub returns-in-Asm : goal.returns-in-Asm
returns-in-Asm g c =
    let after = streams (g.I.Read.remaining c.asm.new.input) (g.O.Write.contents c.asm.new.output) (g.E.Write.contents c.asm.new.errors) in
    let words = asm_no_word (is_input c.in-Asm.wanted.source) (wanted_of c.in-Asm.wanted) (settings_of c.args.settings) c.asm.result _ after c.asm.ensures in
    request_ends c.args.settings c.args.view _ _ _ _ after c.in-Asm.is c.asm.ensures words

pub returns-in-Check : goal.returns-in-Check
returns-in-Check g c =
    let after = streams (g.I.Read.remaining c.check.new.input) (g.O.Write.contents c.check.new.output) (g.E.Write.contents c.check.new.errors) in
    let words = check_no_word (manner_of c.in-Check.checked) (places_of c.in-Check.checked) (settings_of c.args.settings) c.check.result _ _ c.check.ensures in
    request_ends c.args.settings c.args.view _ _ _ _ after c.in-Check.is c.check.ensures words

pub returns-in-Fight : goal.returns-in-Fight
returns-in-Fight g c =
    let after = streams (g.I.Read.remaining c.fight.new.input) (g.O.Write.contents c.fight.new.output) (g.E.Write.contents c.fight.new.errors) in
    let ends = rw c.viewed-view.ensures at c.fight.ensures in
    let words = fight_no_word c.in-Fight.fighters c.viewed-view.result (settings_of c.args.settings) c.fight.result _ _ c.fight.ensures in
    request_ends c.args.settings c.args.view _ _ _ _ after c.in-Fight.is ends words

pub returns-in-Rank : goal.returns-in-Rank
returns-in-Rank g c =
    let after = streams (g.I.Read.remaining c.rank.new.input) (g.O.Write.contents c.rank.new.output) (g.E.Write.contents c.rank.new.errors) in
    let ends = rw c.viewed-view-in-Rank.ensures at c.rank.ensures in
    let words = rank_no_word c.in-Rank.ranking c.viewed-view-in-Rank.result (settings_of c.args.settings) c.rank.result _ _ c.rank.ensures in
    request_ends c.args.settings c.args.view _ _ _ _ after c.in-Rank.is ends words

pub returns-in-Serve : goal.returns-in-Serve
returns-in-Serve g c =
    let after = streams (g.I.Read.remaining c.args.input.now) (g.O.Write.contents c.serve.new.output) (g.E.Write.contents c.serve.new.errors) in
    request_ends c.args.settings c.args.view _ _ _ _ after c.in-Serve.is (_, c.tell_lost_header.ensures, c.serve.ensures.ends) c.serve.ensures.words

pub returns-in-Session : goal.returns-in-Session
returns-in-Session g c =
    let after = streams (g.I.Read.remaining c.session.new.input) (g.O.Write.contents c.session.new.output) (g.E.Write.contents c.session.new.errors) in
    request_ends c.args.settings c.args.view _ _ _ _ after c.in-Session.is (_, c.tell_lost_header-in-Session.ensures, c.session.ensures.ends) c.session.ensures.words

pub returns-in-Replay : goal.returns-in-Replay
returns-in-Replay g c =
    let after = streams (g.I.Read.remaining c.replay.new.input) (g.O.Write.contents c.replay.new.output) (g.E.Write.contents c.replay.new.errors) in
    let words = replay_no_word c.in-Replay.watched.round (is_some c.in-Replay.watched.define) (is_some c.in-Replay.watched.page) (settings_of c.args.settings) c.replay.result _ _ c.replay.ensures in
    request_ends c.args.settings c.args.view _ _ _ _ after c.in-Replay.is c.replay.ensures words

pub returns-in-Trace : goal.returns-in-Trace
returns-in-Trace g c =
    let after = streams (g.I.Read.remaining c.trace.new.input) (g.O.Write.contents c.trace.new.output) (g.E.Write.contents c.trace.new.errors) in
    let words = trace_no_word c.in-Trace.traced.round (is_some c.in-Trace.traced.define) c.in-Trace.traced.last c.in-Trace.traced.form (settings_of c.args.settings) c.trace.result _ _ c.trace.ensures in
    request_ends c.args.settings c.args.view _ _ _ _ after c.in-Trace.is c.trace.ensures words

pub returns-in-Many : goal.returns-in-Many
returns-in-Many g c =
    let after = streams (g.I.Read.remaining c.fight_candidates.new.input) (g.O.Write.contents c.fight_candidates.new.output) (g.E.Write.contents c.fight_candidates.new.errors) in
    let ends = rw c.as_slice-opponents.ensures.value at c.fight_candidates.ensures in
    let words = candidates_no_word c.in-Many.candidates.opponents.items (settings_of c.args.settings) c.fight_candidates.result _ _ ends in
    request_ends c.args.settings c.args.view _ _ _ _ after c.in-Many.is ends words

pub returns-in-Join : goal.returns-in-Join
returns-in-Join g c =
    let after = streams (g.I.Read.remaining c.args.input.now) (g.O.Write.contents c.join.new.output) (g.E.Write.contents c.join.new.errors) in
    let ends = rw (c.as_slice-parts.ensures.value, c.viewed.ensures) at c.join.ensures in
    let words = join_no_word _ _ c.join.result _ _ _ _ ends in
    request_ends c.args.settings c.args.view _ _ _ _ after c.in-Join.is ends words

pub returns-in-Explain : goal.returns-in-Explain
returns-in-Explain g c =
    let after = streams (g.I.Read.remaining c.args.input.now) (g.O.Write.contents c.explain_kind.new.output) (g.E.Write.contents c.explain_kind.new.errors) in
    let from = streams None (g.O.Write.contents c.args.output.now) (g.E.Write.contents c.args.errors.now) in
    let to = streams None (g.O.Write.contents c.explain_kind.new.output) (g.E.Write.contents c.explain_kind.new.errors) in
    let words = explain_no_word (option_copied c.in-Explain.kind) c.explain_kind.result from to c.explain_kind.ensures in
    request_ends c.args.settings c.args.view _ _ _ _ after c.in-Explain.is c.explain_kind.ensures words

pub returns-in-SubmitTo : goal.returns-in-SubmitTo
returns-in-SubmitTo g c =
    let after = streams (g.I.Read.remaining c.submit_elsewhere.new.input) (g.O.Write.contents c.submit_elsewhere.new.output) (g.E.Write.contents c.submit_elsewhere.new.errors) in
    request_ends c.args.settings c.args.view _ _ _ _ after c.in-SubmitTo.is tt c.submit_elsewhere.ensures

pub returns : goal.returns
returns g c =
    let i = g.I.Read.remaining c.args.input.now in
    let j = g.I.Read.remaining c.match-request.input in
    let o = g.O.Write.contents c.args.output.now in
    let p = g.O.Write.contents c.deliver.new.output in
    let e = g.E.Write.contents c.args.errors.now in
    let n = g.E.Write.contents c.match-request.errors in
    let f = g.E.Write.contents c.deliver.new.errors in
    let done = c.match-request.done in
    let s = c.args.settings in
    let v = c.args.view in
    elim c.match-request.branch [
      | in-Create w ↦
          let files = w.in-Create.creation in
          plain s v _ _ _ i j o p e n f done _ w.in-Create.is w.done-is c.deliver.ensures (MayCreate files.draw_seed s) (created files.draw_seed s)
          (ap (λ x. g.E.Write.contents x) w.errors-is) (λ ends. ends) w.perform_create-done.ensures
      | in-Migrate w ↦
          plain s v _ _ _ i j o p e n f done _ w.in-Migrate.is w.done-is c.deliver.ensures (Answers (SaysLine migrated_line)) migrated
          (ap (λ x. g.E.Write.contents x) w.errors-is) (λ ends. ends) w.perform_migrate-done.ensures
      | in-Submit w ↦
          let shown = viewed w.in-Submit.files.view v in
          let of_input = is_input w.in-Submit.files.source in
          let may = subst (λ x. From of_input (λ a b. AnswersSource (SaysReply x) a b w.perform_submit-done.result) i (g.I.Read.remaining w.perform_submit-done.new.input))
          w.viewed-view-in-Submit.ensures w.perform_submit-done.ensures in
          of_source s v _ _ _ i j o p e n f done _ w.in-Submit.is w.done-is c.deliver.ensures of_input (SaysReply shown) (replied of_input shown i j)
          (subst (λ x. TellsNote e (g.E.Write.contents x)) (sym w.errors-is) w.tell_lost_header-in-Submit.ensures) (λ ends. ends)
          (subst (λ x. From of_input (λ a b. AnswersSource (SaysReply shown) a b w.perform_submit-done.result) i (g.I.Read.remaining x)) (sym w.input-is) may)
      | in-Try w ↦
          let shown = viewed w.in-Try.files.view v in
          let of_input = is_input w.in-Try.files.source in
          let define = option_map (λ words. words.now) w.in-Try.define in
          let may = subst (λ x. From of_input (λ a b. AnswersTrial define (SaysTrial x) a b w.perform_try-done.result) i (g.I.Read.remaining w.perform_try-done.new.input))
          w.viewed-view-in-Try.ensures w.perform_try-done.ensures in
          of_trial s v _ _ _ i j o p e n f done _ w.in-Try.is w.done-is c.deliver.ensures of_input define shown (tried of_input define shown i j)
          (subst (λ x. TellsNote e (g.E.Write.contents x)) (sym w.errors-is) w.tell_lost_header-in-Try.ensures) (λ ends. ends)
          (subst (λ x. From of_input (λ a b. AnswersTrial define (SaysTrial shown) a b w.perform_try-done.result) i (g.I.Read.remaining x)) (sym w.input-is) may)
      | in-Show w ↦
          let sight = sight_of w.in-Show.shown in
          let asked = viewed w.in-Show.shown.view v in
          noted s v _ _ _ i j o p e n f done _ w.in-Show.is w.done-is c.deliver.ensures (Answers (SaysShown asked sight)) (shown asked sight)
          (subst (λ x. TellsNote e (g.E.Write.contents x)) (sym w.errors-is) w.tell_lost_header-in-Show.ensures) (λ ends. ends)
          (subst (λ x. Answers (SaysShown x sight) w.perform_show-done.result) w.viewed-in-Show.ensures w.perform_show-done.ensures)
      | in-ShowTo w ↦
          plain s v _ _ _ i j o p e n f done _ w.in-ShowTo.is w.done-is c.deliver.ensures MayShowTo shown_to
          (ap (λ x. g.E.Write.contents x) w.errors-is) (λ ends. ends) w.perform_show_to-done.ensures
      | in-Page w ↦
          noted s v _ _ _ i j o p e n f done _ w.in-Page.is w.done-is c.deliver.ensures (Answers SaysPage) paged
          (subst (λ x. TellsNote e (g.E.Write.contents x)) (sym w.errors-is) w.tell_lost_header-in-Page.ensures) (λ ends. ends) w.perform_page-done.ensures
      | in-Audit w ↦
          let asked = viewed w.in-Audit.audited.view v in
          noted s v _ _ _ i j o p e n f done _ w.in-Audit.is w.done-is c.deliver.ensures (Answers (SaysAudit asked)) (audited asked)
          (subst (λ x. TellsNote e (g.E.Write.contents x)) (sym w.errors-is) w.tell_lost_header-in-Audit.ensures) (λ ends. ends)
          (subst (λ x. Answers (SaysAudit x) w.perform_audit-done.result) w.viewed-in-Audit.ensures w.perform_audit-done.ensures)
      | in-Copy w ↦
          let asked = w.in-Copy.files.audit in
          noted s v _ _ _ i j o p e n f done _ w.in-Copy.is w.done-is c.deliver.ensures (Answers (SaysCopied asked)) (copied asked)
          (subst (λ x. TellsNote e (g.E.Write.contents x)) (sym w.errors-is) w.tell_lost_header-in-Copy.ensures) (λ ends. ends) w.perform_copy-done.ensures
      | in-Reseed w ↦
          noted s v _ _ _ i j o p e n f done _ w.in-Reseed.is w.done-is c.deliver.ensures MayReseed reseeded
          (subst (λ x. TellsNote e (g.E.Write.contents x)) (sym w.errors-is) w.tell_lost_header-in-Reseed.ensures) (λ ends. ends) w.perform_reseed-done.ensures
    ]
