use Rattle.{std.proofs.Common.{arith, ◌-◌, ◌+◌, subst, ℕ, List, ◌∷◌, drop, Ok, sym, ap, ◌∙◌}, redcode_copies.specs.Counter.counter_of, redcode_expand.specs.{Marks.line_in, Rest.{OpenBlock, counters_of, open_block, GoesOn}, Walk.begun_as, Left.rest_steps}, redcode_lines.specs.Block.parsed}
use Rattle.redcode_expand.proofs.{AddedEqus.closed-equs, GoingOn.{block-goes-on}, GoingSteps.{block-taken, passed-taken}, Latest.{kept-later, kept-same}}
use Rattle.redcode_expand.proofs.blocks.begin.Goals as goal

pub returns-clause-goes_on : goal.returns-clause-goes_on
returns-clause-goes_on g c =
    let s = c.args.settings.now in
    let lines = c.args.lines.now in
    let name = c.in_ok-begun.begun.counter.now in
    let n = c.in_ok-begun.begun.copies in
    let pushed = c.in_ok-push.ensures ∙ ap (λ (b : OpenBlock). b ∷ c.args.blocks.now) c.new.ensures
    ∙ ap (λ (k : ℕ). open_block c.number-number.result (counter_of name 1) (n - 1) k (c.args.at + 1) ∷ c.args.blocks.now) c.counted-start.ensures
    ∙ ap (λ (k : ℕ). open_block k (counter_of name 1) (n - 1) c.begun_at.new.walk.counted (c.args.at + 1) ∷ c.args.blocks.now) c.number-number.ensures in
    subst (λ (bs : List OpenBlock). GoesOn s lines c.args.blocks.now c.args.at c.args.walk.now bs (c.args.at + 1) c.begun_at.new.walk) (sym pushed)
    (block-goes-on s lines c.args.blocks.now c.args.at c.mark-rof.result.rof name c.args.walk.now c.begun_at.new.walk n c.requires.some c.requires.goes_on c.requires.word c.mark-rof.ensures.rof
    (omega (arith, c.len.ensures, c.if-rof-len.false)) c.in_ok-begun.ensures.begun c.in_ok-begun.ensures.goes_on c.requires.opened c.if-begun-eq0.false c.in_ok-begun.ensures.counted)

pub returns-then-begun-eq0-clause-kept : goal.returns-then-begun-eq0-clause-kept
returns-then-begun-eq0-clause-kept g c =
    let cs = counters_of c.args.blocks.now in
    let same = closed-equs c.args.settings.now cs (line_in c.args.lines.now c.mark-rof.result.rof) c.begun_at.new.walk c.close.new.walk c.in_ok-close.ensures.closed in
    kept-same c.args.settings.now c.args.lines.now cs c.begun_at.new.walk c.close.new.walk c.begun_at.new.counts same c.in_ok-close.ensures.before c.in_ok-begun.ensures.kept

pub returns-then-begun-eq0-clause-taken : goal.returns-then-begun-eq0-clause-taken
returns-then-begun-eq0-clause-taken g c =
    passed-taken c.args.settings.now c.args.lines.now c.args.blocks.now c.args.at c.mark-rof.result.rof c.in_ok-begun.begun.counter.now c.args.walk.now c.begun_at.new.walk c.close.new.walk
    c.args.work.now c.begun_at.new.work c.requires.some c.requires.goes_on c.requires.word c.mark-rof.ensures.rof (omega (arith, c.len.ensures, c.if-rof-len.false))
    (c.in_ok-begun.ensures.begun ∙ ap (λ (n : ℕ). Ok (begun_as c.begun_at.new.walk c.in_ok-begun.begun.counter.now n)) c.if-begun-eq0.true) c.in_ok-begun.ensures.work c.in_ok-close.ensures.closed

pub returns-clause-taken : goal.returns-clause-taken
returns-clause-taken g c =
    let s = c.args.settings.now in
    let lines = c.args.lines.now in
    let name = c.in_ok-begun.begun.counter.now in
    let n = c.in_ok-begun.begun.copies in
    let pushed = c.in_ok-push.ensures ∙ ap (λ (b : OpenBlock). b ∷ c.args.blocks.now) c.new.ensures
    ∙ ap (λ (k : ℕ). open_block c.number-number.result (counter_of name 1) (n - 1) k (c.args.at + 1) ∷ c.args.blocks.now) c.counted-start.ensures
    ∙ ap (λ (k : ℕ). open_block k (counter_of name 1) (n - 1) c.begun_at.new.walk.counted (c.args.at + 1) ∷ c.args.blocks.now) c.number-number.ensures in
    omega (
      arith,
      ap (λ (bs : List OpenBlock). rest_steps s lines bs (parsed (drop (c.args.at + 1) lines)) c.begun_at.new.walk) pushed,
      block-taken s lines c.args.blocks.now c.args.at c.mark-rof.result.rof name c.args.walk.now c.begun_at.new.walk n c.args.work.now c.begun_at.new.work c.requires.some c.requires.goes_on
          c.requires.word c.mark-rof.ensures.rof (omega (arith, c.len.ensures, c.if-rof-len.false)) c.in_ok-begun.ensures.begun c.in_ok-begun.ensures.work c.if-begun-eq0.false,
    )

pub returns-clause-kept : goal.returns-clause-kept
returns-clause-kept g c =
    kept-later c.args.settings.now c.args.lines.now (counters_of c.args.blocks.now) (counters_of c.push.new.self) c.begun_at.new.walk c.begun_at.new.walk c.begun_at.new.counts c.rise.new.self
    c.in_ok-rise.ensures c.in_ok-begun.ensures.kept

pub overflow_sub-left : goal.overflow_sub-left
overflow_sub-left g c = omega (arith, c.if-begun-eq0.false)

pub overflow_add-body : goal.overflow_add-body
overflow_add-body g c = omega (arith, c.requires.some, c.requires.few)

pub new-requires : goal.new-requires
new-requires g c = omega (arith, c.in_ok-begun.ensures.few, c.if-begun-eq0.false)
