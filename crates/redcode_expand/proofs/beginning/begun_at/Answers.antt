use Rattle.{std.proofs.{Common.{ℕ, List, Ok, sym, ap, ◌∙◌, ◌≤◌, length, arith}, lemmas.List.length-map}, redcode_text.specs.Tokens.{piece_of}}
use Rattle.{redcode_lines.specs.{Line.SourceLine, Views.line_read}, redcode_copies.specs.Counter.in_copies, redcode_expand.specs.{Kept.{counter_before}, Marks.line_in, Rest.counters_of, Walk.{begun, begun_as}}}
use Rattle.redcode_expand.proofs.{AddedEqus.begun-same, Latest.{begun-latest, kept-learned, kept-same, latest-count}}
use Rattle.redcode_expand.proofs.beginning.begun_at.Goals as goal

pub returns-then-line-gt1-clause-kept : goal.returns-then-line-gt1-clause-kept
returns-then-line-gt1-clause-kept g c =
    let s = c.args.settings.now in
    let cs = counters_of c.args.blocks.now in
    let line = line_read c.reading-line.result in
    let b = begun_as c.begin.new.self c.in_ok-begun.begun.counter.now c.in_ok-begun.begun.copies in
    let same = begun-same s (in_copies cs line) c.args.walk.now b c.in_ok-begun.ensures.begun in
    kept-same s c.args.lines.now cs c.args.walk.now c.begin.new.self c.args.counts.now same.0 same.1 c.requires.kept

pub returns-in-Some-clause-begun : goal.returns-in-Some-clause-begun
returns-in-Some-clause-begun g c =
    let s = c.args.settings.now in
    let cs = counters_of c.args.blocks.now in
    let line = line_in c.args.lines.now c.args.at in
    let st = c.args.walk.now in
    let n = c.in-Some.copies in
    let is = latest-count s c.args.lines.now cs st c.args.counts.now c.args.at c.mark-count.result.count n c.mark-count.ensures.count (sym c.at.ensures ∙ c.in-Some.is) c.requires.kept in
    let short : length line.front ≤ 1 =
    omega (arith, ap (λ (l : SourceLine). length l.front) c.reading-line.ensures.line, length-map c.reading-line.result.front.now piece_of, c.if-line-gt1.false) in
    begun-latest s cs line st n c.requires.word short is.count
    ∙ ap (λ (l : SourceLine). Ok (begun_as st (counter_before l.front) n)) (sym c.reading-line.ensures.line)
    ∙ ap (λ (name : List ℕ). Ok (begun_as st name n)) (sym c.begun_with.ensures.counter)
    ∙ ap (λ (k : ℕ). Ok (begun_as st c.begun_with.result.counter.now k)) (sym c.begun_with.ensures.copies)

pub returns-clause-kept : goal.returns-clause-kept
returns-clause-kept g c =
    let s = c.args.settings.now in
    let cs = counters_of c.args.blocks.now in
    let line = line_in c.args.lines.now c.args.at in
    let b = c.in_ok-begun-2.begun in
    let short : length line.front ≤ 1 =
    omega (arith, ap (λ (l : SourceLine). length l.front) c.reading-line.ensures.line, length-map c.reading-line.result.front.now piece_of, c.if-line-gt1.false) in
    kept-learned s c.args.lines.now cs c.args.walk.now c.begin-2.new.self c.args.counts.now c.learn.new.self c.args.at c.mark-count.result.count b.copies b.counter.now c.requires.word short
    (ap (λ (l : SourceLine). begun s cs l c.args.walk.now) (sym c.reading-line.ensures.line) ∙ c.in_ok-begun-2.ensures.begun) c.in_ok-begun-2.ensures.few c.mark-count.ensures.count
    c.requires.kept c.learn.ensures
