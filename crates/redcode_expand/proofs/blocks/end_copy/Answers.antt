use Rattle.{std.proofs.Common.{ap, arith, length, refl}, redcode_expand.specs.Rest.OpenBlock, redcode_expand.proofs.{GoingOn.{copied-few, next-copied}, GoingSteps.{last-taken, next-taken}}}
use Rattle.redcode_expand.proofs.blocks.end_copy.Goals as goal

pub returns-clause-goes_on : goal.returns-clause-goes_on
returns-clause-goes_on g c =
    let b = c.block.inside in
    let is = c.block.view_is in
    next-copied c.args.settings.now c.args.lines.now c.args.blocks.now c.pop.new.self c.push.new.self c.in-Some.block c.next_copy.result c.args.at b.number b.start b.left b.body
    c.counted.result c.args.walk.now c.end_copy.new.self c.in-Some.ensures
    (ap (λ (o : OpenBlock). o.number) is) (ap (λ (o : OpenBlock). o.start) is) (ap (λ (o : OpenBlock). o.left) is) (ap (λ (o : OpenBlock). o.body) is)
    c.counted.ensures c.next_copy.ensures c.in_ok-push.ensures c.requires.few c.requires.some c.requires.goes_on c.requires.word c.requires.opened
    c.in_ok-end_copy.ensures.copied c.in_ok-end_copy.ensures.goes_on c.in_ok-end_copy.ensures.counted c.if-block-eq0.false

pub returns-clause-counted : goal.returns-clause-counted
returns-clause-counted g c = copied-few c.block.inside.start c.args.walk.now.counted c.end_copy.new.self.counted c.in_ok-end_copy.ensures.counted

pub returns-clause-taken : goal.returns-clause-taken
returns-clause-taken g c =
    let b = c.block.inside in
    let is = c.block.view_is in
    next-taken c.args.settings.now c.args.lines.now c.args.blocks.now c.pop.new.self c.push.new.self c.in-Some.block c.next_copy.result c.args.at b.number b.start b.left b.body
    c.counted.result c.args.work.now c.saturating_add.result c.args.walk.now c.end_copy.new.self c.in-Some.ensures
    (ap (λ (o : OpenBlock). o.number) is) (ap (λ (o : OpenBlock). o.start) is) (ap (λ (o : OpenBlock). o.left) is) (ap (λ (o : OpenBlock). o.body) is)
    c.counted.ensures c.next_copy.ensures c.in_ok-push.ensures c.requires.some c.requires.goes_on c.requires.word c.requires.opened
    c.in_ok-end_copy.ensures.copied c.if-block-eq0.false
    (omega (arith, c.saturating_add.ensures, ap length c.name.ensures.name, ap (λ (o : OpenBlock). length o.counter.name) is))

pub returns-then-block-eq0-clause-taken : goal.returns-then-block-eq0-clause-taken
returns-then-block-eq0-clause-taken g c =
    let b = c.block.inside in
    let is = c.block.view_is in
    last-taken c.args.settings.now c.args.lines.now c.args.blocks.now c.pop.new.self c.in-Some.block c.args.at b.number b.start b.left c.args.work.now c.args.work.now
    c.args.walk.now c.end_copy.new.self c.close.new.walk c.in-Some.ensures
    (ap (λ (o : OpenBlock). o.number) is) (ap (λ (o : OpenBlock). o.start) is) (ap (λ (o : OpenBlock). o.left) is) c.requires.some c.requires.goes_on c.requires.word
    c.in_ok-end_copy.ensures.copied c.if-block-eq0.true c.in_ok-close.ensures.closed refl

pub overflow_add-result : goal.overflow_add-result
overflow_add-result g c = omega (arith, c.requires.some, c.requires.few)

pub next_copy-requires : goal.next_copy-requires
next_copy-requires g c = omega (arith, ap (λ (o : OpenBlock). o.left) c.block.view_is, c.if-block-eq0.false)
