-- Step by step, and the ends.
use Rattle.std.proofs.{Common.{◌∙◌, ◌++◌, [], ap, arith, length, not, refl, rules, subst, sym, take, true≢false}, lemmas.List.{length-append, length-take-le}, KnownBytes.{Consumes-kept, Consumes-nil, Consumes-trans}}
use Rattle.koth_session.proofs.{Endings.{end_taken, ends_within, kept_within, never_read}, PeerReads.{less_answered, less_closed, less_read, open_peer, room_now}, Standing.{none_of, unmet_then}, Streams.{all_answered, begun, closed_now, ends_all, took}}
use Rattle.{koth_protocol.specs.Counted.Rose, koth_session.specs.{Inbox.is_met, Sessions.scene}}
use Rattle.koth_session.proofs.sessions.serve.Goals as goal

pub steps-init : goal.steps-init
steps-init g c = record {
  came = [];
  took = Consumes-nil (g.R.Read.remaining c.args.input.now.stream);
  counted = omega arith;
  serving = begun g.D.Device.facts c.args.peer.now _ c.requires;
  at_end = λ closed. absurd (true≢false (sym closed ∙ c.requires.open_still));
  read_faults = refl;
  write_faults = refl;
}

pub read_chunk-requires-clause-room : goal.read_chunk-requires-clause-room
read_chunk-requires-clause-room g c =
    let so_far = c.steps.invariant in
    let goes_on = sym c.end.ensures ∙ none_of c.end.result (c.is_none.ensures ∙ ap not c.steps-test.true) in
    room_now c.steps.peer so_far.came _ goes_on (sym c.is_due.ensures ∙ c.if-is_due.false) so_far.serving.reads

pub returns-in-Err-read_chunk-clause-ends : goal.returns-in-Err-read_chunk-clause-ends
returns-in-Err-read_chunk-clause-ends g c =
    let so_far = c.steps.invariant in
    let goes_on = sym c.end.ensures ∙ none_of c.end.result (c.is_none.ensures ∙ ap not c.steps-test.true) in (
      so_far.came,
      Consumes-kept _ _ _ _ so_far.took c.in-Err-read_chunk.ensures.kept,
      so_far.serving.reads.few,
      so_far.serving.answered.served.kept,
      all_answered g.D.Device.facts so_far.came c.steps.peer _ _ goes_on (sym c.is_due.ensures ∙ c.if-is_due.false) so_far.serving,
    )

pub returns-in-Err-clause-ends : goal.returns-in-Err-clause-ends
returns-in-Err-clause-ends g c =
    let so_far = c.steps.invariant in
    let first = c.in-Err.ensures.goes so_far.came _ so_far.serving in (
      so_far.came,
      so_far.took,
      so_far.serving.reads.few,
      kept_within g.D.Device.facts c.args.steps so_far.came c.in-Err.end _ _ first,
      ends_within g.D.Device.facts c.args.steps c.in-Err.end so_far.came _ _ _ first,
    )

pub steps-smaller-in_default : goal.steps-smaller-in_default
steps-smaller-in_default g c =
    let so_far = c.steps.invariant in
    let now = c.in_default.ensures.goes so_far.came _ so_far.serving in
    less_answered c.steps.peer c.answer_next.new.peer so_far.came _ _ (sym c.is_due.ensures ∙ c.if-is_due.true) so_far.serving.reads now.reads c.in_default.ensures.fewer

pub steps-preserved-in-Ok-eq0 : goal.steps-preserved-in-Ok-eq0
steps-preserved-in-Ok-eq0 g c =
    let so_far = c.steps.invariant in
    let goes_on = sym c.end.ensures ∙ none_of c.end.result (c.is_none.ensures ∙ ap not c.steps-test.true) in
    let waits = sym c.is_due.ensures ∙ c.if-is_due.false in record {
      came = so_far.came;
      took = end_taken _ _ _ so_far.came c.read_chunk.new.chunk c.in-Ok-eq0.field-0 (search rules) so_far.took c.in-Ok-eq0.ensures.taken;
      counted = omega (arith, c.in-Ok-eq0.ensures.counted, so_far.counted);
      serving = closed_now g.D.Device.facts so_far.came c.steps.peer c.close.new.self _ _ goes_on waits c.close.ensures so_far.serving;
      at_end = λ closed. c.in-Ok-eq0.ensures.end (search rules);
      read_faults = c.in-Ok-eq0.ensures.ok ∙ so_far.read_faults;
      write_faults = so_far.write_faults;
    }

pub steps-preserved : goal.steps-preserved
steps-preserved g c =
    let so_far = c.steps.invariant in
    let goes_on = sym c.end.ensures ∙ none_of c.end.result (c.is_none.ensures ∙ ap not c.steps-test.true) in
    let waits = sym c.is_due.ensures ∙ c.if-is_due.false in
    let bytes = take c.in-Ok.count c.read_chunk.new.chunk in
    let size = length-take-le c.in-Ok.count c.read_chunk.new.chunk (omega (arith, c.in-Ok.ensures.within.1, c.read_chunk.ensures.size)) in
    let both = length-append so_far.came bytes in record {
      came = so_far.came ++ bytes;
      took = Consumes-trans _ _ _ _ _ so_far.took c.in-Ok.ensures.taken;
      counted = omega (arith, c.in-Ok.ensures.counted, so_far.counted, both, size);
      serving =
          took g.D.Device.facts so_far.came bytes c.steps.peer c.take.new.self _ _ goes_on waits (omega (arith, size, c.in-Ok.ensures.within.1))
          c.take.ensures so_far.serving;
      at_end = λ closed. absurd (true≢false (sym closed ∙ c.take.ensures.closed ∙ open_peer c.steps.peer so_far.came _ goes_on waits so_far.serving.reads));
      read_faults = c.in-Ok.ensures.ok ∙ so_far.read_faults;
      write_faults = so_far.write_faults;
    }

pub returns-clause-ends : goal.returns-clause-ends
returns-clause-ends g c =
    let so_far = c.steps.invariant in (
      so_far.came,
      so_far.took,
      so_far.serving.reads.few,
      so_far.serving.answered.served.kept,
      rw c.end_of.ensures (ends_all g.D.Device.facts c.args.steps c.in-Some.end so_far.came _ c.steps.peer _ _ (sym c.end-2.ensures ∙ c.in-Some.is) so_far.at_end so_far.serving),
    )

pub returns-in-Err-clause-read_fault : goal.returns-in-Err-clause-read_fault
returns-in-Err-clause-read_fault g c = λ is.
    let so_far = c.steps.invariant in
    absurd (never_read g.D.Device.facts c.args.steps so_far.came c.in-Err.end (scene (g.W.Write.contents c.args.output.now.stream) c.args.store.now)
    (scene (g.W.Write.contents c.answer_next.new.output.stream) c.answer_next.new.store)
    (c.in-Err.ensures.goes so_far.came (scene (g.W.Write.contents c.args.output.now.stream) c.args.store.now) so_far.serving) is)

pub returns-in-Err-clause-write_fault : goal.returns-in-Err-clause-write_fault
returns-in-Err-clause-write_fault g c = λ is.
    subst (λ n. Rose n c.answer_next.new.output.faults) c.steps.invariant.write_faults (c.in-Err.ensures.rose is)

pub steps-smaller-in-Ok-eq0 : goal.steps-smaller-in-Ok-eq0
steps-smaller-in-Ok-eq0 g c =
    let so_far = c.steps.invariant in
    let goes_on = sym c.end.ensures ∙ none_of c.end.result (c.is_none.ensures ∙ ap not c.steps-test.true) in
    let waits = sym c.is_due.ensures ∙ c.if-is_due.false in
    let now = closed_now g.D.Device.facts so_far.came c.steps.peer c.close.new.self _ _ goes_on waits c.close.ensures so_far.serving in
    less_closed c.steps.peer c.close.new.self so_far.came so_far.came _ _ goes_on so_far.serving.reads now.reads c.close.ensures.closed
    (ap (λ i. is_met i.due) c.close.ensures.inbox ∙ unmet_then c.steps.peer.end _ goes_on waits)

pub steps-smaller : goal.steps-smaller
steps-smaller g c =
    let so_far = c.steps.invariant in
    let goes_on = sym c.end.ensures ∙ none_of c.end.result (c.is_none.ensures ∙ ap not c.steps-test.true) in
    let waits = sym c.is_due.ensures ∙ c.if-is_due.false in
    let bytes = take c.in-Ok.count c.read_chunk.new.chunk in
    let size = length-take-le c.in-Ok.count c.read_chunk.new.chunk (omega (arith, c.in-Ok.ensures.within.1, c.read_chunk.ensures.size)) in
    let now =
    took g.D.Device.facts so_far.came bytes c.steps.peer c.take.new.self _ _ goes_on waits (omega (arith, size, c.in-Ok.ensures.within.1))
    c.take.ensures so_far.serving in
    less_read c.steps.peer c.take.new.self so_far.came bytes _ _ goes_on so_far.serving.reads (λ none. let zero = ap length none in absurd (omega (arith, size, zero)))
    now.reads now.few
