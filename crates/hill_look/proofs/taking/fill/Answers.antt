use Rattle.{std.proofs.Common.{Bool, ◌&&◌, refl, sym, ap, ap₂, true≢false, ◌∙◌}, std.specs.Cmp.Lexicographic.bytes_decides, hill_file.specs.declared.sector_file.Headers.Headers, sector_disk.proofs.Kept.{kept_on, kept_where_served}}
use Rattle.hill_look.{specs.Looked.shown, proofs.{Moves.{moves_more, stays}, Takings.{changed, headers_within}}}
use Rattle.hill_look.proofs.taking.fill.Goals as goal

pub loop-try-preserved : goal.loop-try-preserved
loop-try-preserved g c =
    let facts = g.S.Source.facts in
    let old = shown facts c.args.source.now in
    let mid = shown facts c.loop-try.source in
    let new = shown facts c.take.new.source in
    record {
      kept = kept_on facts c.args.source.now c.loop-try.source c.take.new.source c.loop-try.invariant.kept (kept_where_served facts c.loop-try.source c.take.new.source _ c.in_ok-after.ensures.served);
      faultless = c.in_ok-after.ensures.served.ok refl ∙ c.loop-try.invariant.faultless;
      size = c.in_ok-after.ensures.size ∙ c.loop-try.invariant.size;
      moved = λ lawful. moves_more old mid new (c.loop-try.invariant.moved lawful) (c.in_ok-after.ensures.moved (c.loop-try.invariant.kept.same_laws.1 lawful));
      stood = λ lawful. headers_within old mid new new c.in_ok-after.after (c.loop-try.invariant.moved lawful) (stays new) (c.in_ok-after.ensures.stood (c.loop-try.invariant.kept.same_laws.1 lawful));
      changed = λ lawful more.
          let later = c.loop-try.invariant.kept.same_laws.1 lawful in
          changed old mid new c.loop-try.before c.in_ok-after.after (c.loop-try.invariant.stood lawful)
          (headers_within old mid new new c.in_ok-after.after (c.loop-try.invariant.moved lawful) (stays new) (c.in_ok-after.ensures.stood later))
          (c.in_ok-after.ensures.moved later) (λ same.
          let even = (bytes_decides c.in_ok-after.after.even c.loop-try.before.even).1 (ap (λ (headers : Headers). headers.even) same) in
          let odd = (bytes_decides c.in_ok-after.after.odd c.loop-try.before.odd).1 (ap (λ (headers : Headers). headers.odd) same) in
          true≢false (sym (c.eq.ensures ∙ ap₂ (λ (x y : Bool). x && y) even odd) ∙ c.if-eq.false));
    }
