-- Each meeting adds its opponent, and the sum ends it.
use Rattle.{std.proofs.Common.{◌≡◌, ◌∙◌, ◌+◌, ◌<◌, ◌≤◌, IfOk, length, ap, arith, subst, subst₂, sym}, mars_core.specs.Round.Round, koth_commands.specs.declared.status.Status.Status}
use Rattle.koth_contests.specs.{Lines.{contender, entrant, heading, sum_line}, Opponents.names_of}
use Rattle.koth_contests.proofs.Meetings.{NotesSo, SoFar, all_met, as_many, kept_notes, meeting_failed, named_here, no_arena, none_so_far, not_begun, notes_kept, one_fought, one_missing}
use Rattle.koth_contests.proofs.{Meetings.{some_before, some_more, sum_failed}, Written.line_of}
use Rattle.koth_contests.proofs.meeting.meet_all.Goals as goal
use Rattle.koth_contests.proofs.meeting.meet_all.Goals.{in-Done-meet, in-Refused}

pub returns-in_default : goal.returns-in_default
returns-in_default g c = no_arena _ _ _ _ c.memory.result c.tell.result _ _ _ c.memory.ensures c.tell.ensures

pub returns-in_default-write_line : goal.returns-in_default-write_line
returns-in_default-write_line g c = not_begun _ _ _ _ c.write_line.result _ _ _ _ c.in_default-write_line.not-Done
    (line_of _ _ _ _ c.heading_line.result (heading c.args.terms.view) c.write_line.result c.heading_line.ensures c.write_line.ensures)

pub loop-place-init : goal.loop-place-init
loop-place-init g c =
    let first = line_of _ _ _ _ c.heading_line.result (heading c.args.terms.view) Status.Done c.heading_line.ensures c.in-Done.ensures in
    record {
      met = none_so_far c.args.settings.now c.args.terms (entrant c.args.file.now c.args.mine.now) (names_of c.args.opponents.now) _ _ first.0;
      told = kept_notes c.args.terms.view _ _ first.1;
      few = omega arith;
      settings = ap (λ (r : Round). r.settings) c.in-Ok.ensures;
      rounds = omega arith;
    }

pub returns-in_default-meet : goal.returns-in_default-meet
returns-in_default-meet g c =
    let files = names_of c.args.opponents.now in
    let within : c.loop-place.place < length files = omega (arith, as_many c.args.opponents.now, c.loop-place-test.true) in
    let here = named_here c.args.opponents.now c.loop-place.place c.index-opponents-place.result c.loop-place-test.true c.index-opponents-place.is in
    meeting_failed _ _ _ files c.loop-place.place c.loop-place.status c.meet.result c.loop-place.fought c.loop-place.sum c.meet.new.sum _ _ _ _ _ _ _ within here
    c.loop-place.invariant.met c.in_default-meet.not-Done c.in_default-meet.not-Refused c.meet.ensures.meets
    (some_before c.args.terms.view c.loop-place.status _ _ _ (g.E.Write.contents c.meet.new.errors) c.loop-place.invariant.told c.tell_progress.ensures)

pub loop-place-preserved : goal.loop-place-preserved
loop-place-preserved g c =
    let s = c.args.settings.now in
    let terms = c.args.terms in
    let mine = entrant c.args.file.now c.args.mine.now in
    let files = names_of c.args.opponents.now in
    let within : c.loop-place.place < length files = omega (arith, as_many c.args.opponents.now, c.loop-place-test.true) in
    let here = named_here c.args.opponents.now c.loop-place.place c.index-opponents-place.result c.loop-place-test.true c.index-opponents-place.is in
    let o = g.O.Write.contents c.args.output.now in
    let q = g.O.Write.contents c.meet.new.output in
    let e = g.E.Write.contents c.args.errors.now in
    let h = g.E.Write.contents c.meet.new.errors in
    elim c.match-meet.branch [
      | in-Done-meet w ↦ record {
        met = subst₂ (λ t n. SoFar s terms mine files (c.loop-place.place + 1) t n c.meet.new.sum o q) (sym w.status-is) (sym w.fought-is)
            (one_fought s terms mine files c.loop-place.place c.loop-place.status c.loop-place.fought c.loop-place.sum c.meet.new.sum _ _ _ _ _ _ within here
            c.loop-place.invariant.met w.in-Done-meet.ensures.meets);
        told = subst (λ t. NotesSo terms.view t e h) (sym w.status-is)
            (notes_kept terms.view c.loop-place.status _ _ _ _ c.loop-place.invariant.told c.tell_progress.ensures w.in-Done-meet.ensures.meets.4);
        few = omega (arith, w.fought-is, c.loop-place.invariant.few);
        settings = c.meet.ensures.settings ∙ c.loop-place.invariant.settings;
        rounds = omega (arith, c.meet.ensures.rounds, c.loop-place.invariant.rounds);
      }
      | in-Refused w ↦ record {
        met = subst₂ (λ t n. SoFar s terms mine files (c.loop-place.place + 1) t n c.meet.new.sum o q) (sym w.status-is) (sym w.fought-is)
            (one_missing s terms mine files c.loop-place.place c.loop-place.status c.loop-place.fought c.loop-place.sum c.meet.new.sum _ _ _ _ _ _ within here
            c.loop-place.invariant.met w.in-Refused.ensures.meets);
        told = subst (λ t. NotesSo terms.view t e h) (sym w.status-is)
            (some_more terms.view c.loop-place.status _ _ _ _ c.loop-place.invariant.told c.tell_progress.ensures w.in-Refused.ensures.meets.2);
        few = omega (arith, w.fought-is, c.loop-place.invariant.few);
        settings = c.meet.ensures.settings ∙ c.loop-place.invariant.settings;
        rounds = omega (arith, c.meet.ensures.rounds, c.loop-place.invariant.rounds);
      }
    ]

pub returns-in-Done-write_line : goal.returns-in-Done-write_line
returns-in-Done-write_line g c =
    let files = names_of c.args.opponents.now in
    let mine = entrant c.args.file.now c.args.mine.now in
    let view = c.args.terms.view in
    let fought = c.loop-place.fought in
    let sum = c.loop-place.sum in
    let past : length files ≤ c.loop-place.place = omega (arith, as_many c.args.opponents.now, c.loop-place-test.false) in
    let told = subst (λ m. IfOk c.sum_line-line.result (λ l. l.items ≡ sum_line view m fought sum)) c.contender.ensures c.sum_line-line.ensures in
    all_met _ _ mine files c.loop-place.place c.loop-place.status fought sum _ _ _ _ _ _ c.loop-place.invariant.met c.loop-place.invariant.told past
    (line_of _ _ _ _ c.sum_line-line.result (sum_line view (contender mine) fought sum) Status.Done told c.in-Done-write_line.ensures)

pub returns : goal.returns
returns g c =
    let mine = entrant c.args.file.now c.args.mine.now in
    let view = c.args.terms.view in
    let fought = c.loop-place.fought in
    let sum = c.loop-place.sum in
    let told = subst (λ m. IfOk c.sum_line-line.result (λ l. l.items ≡ sum_line view m fought sum)) c.contender.ensures c.sum_line-line.ensures in
    sum_failed _ _ mine (names_of c.args.opponents.now) c.loop-place.place c.loop-place.status fought sum _ _ _ _ _ _ c.loop-place.invariant.met
    c.loop-place.invariant.told c.write_line-2.result c.in_default-write_line-2.not-Done
    (line_of _ _ _ _ c.sum_line-line.result (sum_line view (contender mine) fought sum) c.write_line-2.result told c.write_line-2.ensures)
