use Rattle.{std.proofs.{Common.{◌≡◌, ◌+◌, ◌++◌, ◌∷◌, [], arith, refl, subst, sym, ap, length, ◌∙◌}, lemmas.List.length_push}, sector_disk.proofs.Kept.{kept_on, kept_same}}
use Rattle.{hill_store.specs.{Runs.texts, Seen.Seen}, hill_store.proofs.{Holdings.holds_runs, Lists.{RunsOpen, all_next, cut_next, open_next, texts_length, text_at, pushed}}}
use Rattle.hill_store.proofs.store.Store.submit_all.Goals as goal

pub returns-clause-runs : goal.returns-clause-runs
returns-clause-runs g c =
    all_next g.D.Device.facts c.args.self.now c.loop-source.self (texts c.args.sources.now) c.loop-source.source-index c.loop-source.replies.items (omega (arith, c.loop-source-test.false, texts_length c.args.sources.now)) c.loop-source.invariant.runs

pub returns-then-is_disk-clause-runs : goal.returns-then-is_disk-clause-runs
returns-then-is_disk-clause-runs g c =
    cut_next g.D.Device.facts c.args.self.now c.loop-source.self c.submit-reply.new.self (texts c.args.sources.now) c.loop-source.source-index c.loop-source.replies.items c.push.new.self.items _ c.submit-reply.result (omega (arith, c.loop-source-test.true, texts_length c.args.sources.now)) (text_at c.args.sources.now c.loop-source.source-index _ c.loop-source-test.true) (pushed c.push.result c.loop-source.replies.items (c.loop-source.replies.items ++ c.submit-reply.result ∷ []) c.push.new.self.items (c.push.ensures.succeeds (omega (arith, c.loop-source.invariant.room, c.loop-source.invariant.count, c.loop-source-test.true))) c.push.ensures.items) c.loop-source.invariant.runs (record { kept = c.submit-reply.ensures.kept; submits = c.submit-reply.ensures.submits }) (sym c.is_disk.ensures ∙ c.if-is_disk.true)

pub loop-source-preserved : goal.loop-source-preserved
loop-source-preserved g c = record {
  runs = open_next g.D.Device.facts c.args.self.now c.loop-source.self c.submit-reply.new.self (texts c.args.sources.now) c.loop-source.source-index c.loop-source.replies.items c.push.new.self.items _ c.submit-reply.result (omega (arith, c.loop-source-test.true, texts_length c.args.sources.now)) (text_at c.args.sources.now c.loop-source.source-index _ c.loop-source-test.true) (pushed c.push.result c.loop-source.replies.items (c.loop-source.replies.items ++ c.submit-reply.result ∷ []) c.push.new.self.items (c.push.ensures.succeeds (omega (arith, c.loop-source.invariant.room, c.loop-source.invariant.count, c.loop-source-test.true))) c.push.ensures.items) c.loop-source.invariant.runs (record { kept = c.submit-reply.ensures.kept; submits = c.submit-reply.ensures.submits }) (sym c.is_disk.ensures ∙ c.if-is_disk.false);
  room = omega (arith, c.loop-source.invariant.room, c.push.ensures.capacity);
  count = ap length (pushed c.push.result c.loop-source.replies.items (c.loop-source.replies.items ++ c.submit-reply.result ∷ []) c.push.new.self.items (c.push.ensures.succeeds (omega (arith, c.loop-source.invariant.room, c.loop-source.invariant.count, c.loop-source-test.true))) c.push.ensures.items)
      ∙ length_push c.loop-source.replies.items c.submit-reply.result ∙ ap (λ n. n + 1) c.loop-source.invariant.count;
  kept = kept_on g.D.Device.facts c.args.self.now.device c.loop-source.self.device c.submit-reply.new.self.device c.loop-source.invariant.kept c.submit-reply.ensures.kept;
  worn = λ full.
      let same : c.loop-source.self ≡ c.args.self.now = c.loop-source.invariant.worn full in
      c.submit-reply.ensures.worn (ap (λ (s : Seen _). s.generation) same ∙ full) ∙ same;
}

pub returns-clause-holds : goal.returns-clause-holds
returns-clause-holds g c = λ s. λ before. λ holding.
    holds_runs g.D.Device.facts s before c.args.self.now c.loop-source.self (texts c.args.sources.now) c.loop-source.replies.items
    (all_next g.D.Device.facts c.args.self.now c.loop-source.self (texts c.args.sources.now) c.loop-source.source-index c.loop-source.replies.items (omega (arith, c.loop-source-test.false, texts_length c.args.sources.now)) c.loop-source.invariant.runs) holding

pub returns-then-is_disk-clause-holds : goal.returns-then-is_disk-clause-holds
returns-then-is_disk-clause-holds g c = λ s. λ before. λ holding.
    holds_runs g.D.Device.facts s before c.args.self.now c.submit-reply.new.self (texts c.args.sources.now) c.push.new.self.items
    (cut_next g.D.Device.facts c.args.self.now c.loop-source.self c.submit-reply.new.self (texts c.args.sources.now) c.loop-source.source-index c.loop-source.replies.items c.push.new.self.items _ c.submit-reply.result (omega (arith, c.loop-source-test.true, texts_length c.args.sources.now)) (text_at c.args.sources.now c.loop-source.source-index _ c.loop-source-test.true) (pushed c.push.result c.loop-source.replies.items (c.loop-source.replies.items ++ c.submit-reply.result ∷ []) c.push.new.self.items (c.push.ensures.succeeds (omega (arith, c.loop-source.invariant.room, c.loop-source.invariant.count, c.loop-source-test.true))) c.push.ensures.items) c.loop-source.invariant.runs (record { kept = c.submit-reply.ensures.kept; submits = c.submit-reply.ensures.submits }) (sym c.is_disk.ensures ∙ c.if-is_disk.true)) holding

pub loop-source-init : goal.loop-source-init
loop-source-init g c = record {
  runs = subst (λ rs. RunsOpen g.D.Device.facts c.args.self.now [] rs c.args.self.now) (sym c.in_ok-replies.ensures.items) refl;
  room = c.in_ok-replies.ensures.capacity;
  count = ap length c.in_ok-replies.ensures.items;
  kept = kept_same g.D.Device.facts c.args.self.now.device;
  worn = λ full. refl;
}

pub returns-clause-kept : goal.returns-clause-kept
returns-clause-kept g c = c.loop-source.invariant.kept

pub returns-clause-worn : goal.returns-clause-worn
returns-clause-worn g c = c.loop-source.invariant.worn

pub returns-then-is_disk-clause-kept : goal.returns-then-is_disk-clause-kept
returns-then-is_disk-clause-kept g c = kept_on g.D.Device.facts c.args.self.now.device c.loop-source.self.device c.submit-reply.new.self.device c.loop-source.invariant.kept c.submit-reply.ensures.kept

pub returns-then-is_disk-clause-worn : goal.returns-then-is_disk-clause-worn
returns-then-is_disk-clause-worn g c = λ full.
    let same : c.loop-source.self ≡ c.args.self.now = c.loop-source.invariant.worn full in
    c.submit-reply.ensures.worn (ap (λ (s : Seen _). s.generation) same ∙ full) ∙ same

pub returns-in_err-replies-clause-kept : goal.returns-in_err-replies-clause-kept
returns-in_err-replies-clause-kept g c = kept_same g.D.Device.facts c.args.self.now.device
