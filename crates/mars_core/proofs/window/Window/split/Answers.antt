use Rattle.std.proofs.lemmas.Grind.{common_steps}
use Rattle.std.proofs.Common.{◌≡◌, ◌≤◌, ◌∷◌, ◌++◌, [], length, arith, ap, ap₂, sym, ◌∙◌, length-append, take_all, take_at}
use Rattle.mars_core.{specs.Queue.{processes, waiting, behind_front}, proofs.Windows.{second, take-front, held-length, behind-length, put-next}}
use Rattle.mars_core.proofs.window.Window.split.Goals as goal

pub returns-then-self-clause-value : goal.returns-then-self-clause-value
returns-then-self-clause-value g c =
    let w = c.follow.new.self in
    let places = c.follow.new.places in
    let q = c.follow.new.queue in
    let kept = c.follow.ensures.window in
    let xs = waiting w.head w.count places (behind_front q.addresses) ++ c.args.behind ∷ [] in
    let short : length (w.front ∷ xs) ≤ q.limit =
    omega (arith, length-append (waiting w.head w.count places (behind_front q.addresses)) (c.args.behind ∷ []), held-length w places q kept, kept.room, kept.within, c.if-self.true) in
    ap (λ xs. processes q.limit (w.front ∷ xs)) (put-next c.args.behind w places q kept)
    ∙ (ap (processes q.limit) (sym (take_all q.limit (w.front ∷ xs) short))
    ∙ second c.args.address c.args.behind c.args.self.now w c.args.places.now places c.args.queue.now q c.requires.window c.follow.ensures.value)

pub returns-then-self-2-clause-value : goal.returns-then-self-2-clause-value
returns-then-self-2-clause-value g c =
    let w = c.follow.new.self in
    let places = c.follow.new.places in
    let q = c.follow.new.queue in
    let kept = c.follow.ensures.window in
    let xs = waiting w.head w.count places (behind_front q.addresses) ++ c.args.behind ∷ [] in
    ap₂ (λ limit xs. processes limit (w.front ∷ xs)) c.take_in-self.ensures.limit c.take_in-self.ensures.value
    ∙ (ap (processes q.limit) (take-front q.limit w.front xs (omega (arith, behind-length q.addresses kept.lives, kept.within)))
    ∙ second c.args.address c.args.behind c.args.self.now w c.args.places.now places c.args.queue.now q c.requires.window c.follow.ensures.value)

pub returns-else-self-2-clause-value : goal.returns-else-self-2-clause-value
returns-else-self-2-clause-value g c =
    let w = c.follow.new.self in
    let places = c.follow.new.places in
    let q = c.follow.new.queue in
    let kept = c.follow.ensures.window in
    let all = w.front ∷ waiting w.head w.count places (behind_front q.addresses) in
    let size : length all ≡ q.limit = omega (arith, held-length w places q kept, kept.room, kept.count, kept.within, c.if-self.false, c.if-self-2.false) in
    ap (processes q.limit) (sym (take_at all (c.args.behind ∷ []) q.limit size))
    ∙ second c.args.address c.args.behind c.args.self.now w c.args.places.now places c.args.queue.now q c.requires.window c.follow.ensures.value

pub returns-then-self-clause-window : goal.returns-then-self-clause-window
returns-then-self-clause-window g c = grind (arith, common_steps)

pub returns-then-self-2-clause-window : goal.returns-then-self-2-clause-window
returns-then-self-2-clause-window g c = grind (arith, common_steps)

pub returns-else-self-2-clause-window : goal.returns-else-self-2-clause-window
returns-else-self-2-clause-window g c = grind (arith, common_steps)

pub bounds-places-self : goal.bounds-places-self
bounds-places-self g c = grind (arith, common_steps)
