use Rattle.{std.proofs.Common.{◌≡◌, Some, IfSome, true≢false, subst, sym, ap, ◌∙◌}, std.specs.Cmp.Lexicographic.bytes_decides, std.proofs.lemmas.Slice.Eq.slice_eq-Decides}
use Rattle.{war_types.specs.Warrior.Fits, hill_bytes.specs.Layout.{FitRounds, new_layout, results_in, slot_bytes}}
use Rattle.hill_bytes.proofs.slot.Slot.decode.Goals as goal

pub returns-then-eq : goal.returns-then-eq
returns-then-eq g c =
    let sectors = c.args.self.now.sectors in
    let again = c.encode-again.result.sectors in
    let same : again ≡ sectors = (slice_eq-Decides bytes_decides again sectors c.eq.result c.eq.ensures).0 c.if-eq.true in
    record {
      fits = subst (λ read. IfSome read (Fits c.args.settings.now)) c.in-Some.is c.in_ok-warrior.ensures.fits;
      titled = c.encode-again.ensures.titled;
      rounds = subst (λ n. FitRounds n (results_in new_layout sectors)) c.rounds.ensures.value (subst (FitRounds c.rounds.result) c.results-results.ensures.value (c.fit_rounds.ensures.0 c.if-not-fit_rounds.false));
      sectors_are = sym same ∙ c.encode-again.ensures.value ∙ ap (slot_bytes new_layout c.in-Some.warrior) c.results-results.ensures.value;
    }

pub returns-else-eq : goal.returns-else-eq
returns-else-eq g c = λ w is.
    let sectors = c.args.self.now.sectors in
    let again = c.encode-again.result.sectors in
    let read : c.in_ok-warrior.field-0 ≡ Some w = c.in_ok-warrior.ensures.every w is in
    let was : c.in_ok-warrior.field-0 ≡ Some c.in-Some.warrior = c.in-Some.is in
    let this : c.in-Some.warrior ≡ w = cc in
    let same : again ≡ sectors =
    c.encode-again.ensures.value ∙ ap (λ x. slot_bytes new_layout x c.results-results.result) this ∙ ap (slot_bytes new_layout w) c.results-results.ensures.value
    ∙ sym is.sectors_are in
    true≢false (sym ((slice_eq-Decides bytes_decides again sectors c.eq.result c.eq.ensures).1 same) ∙ c.if-eq.false)
