use Rattle.{std.proofs.Common.{◌≤◌, sym, ap, subst, ◌∙◌, arith}, sector_disk.specs.Memory.{memory_size, set_at}}
use Rattle.hill_look.{specs.Looked.{WasTaken, shown}, proofs.{Moves.{moves_more, stays}, Takings.{headers_within, was_taken}}}
use Rattle.hill_look.proofs.taking.take.Goals as goal

pub returns-in_err-headers-clause-moved : goal.returns-in_err-headers-clause-moved
returns-in_err-headers-clause-moved g c = λ lawful.
    moves_more _ _ _ (c.in_ok-read_slots.ensures.moved lawful) (c.in_err-headers.ensures.moved (c.in_ok-read_slots.ensures.served.same_laws.1 lawful))

pub returns-clause-moved : goal.returns-clause-moved
returns-clause-moved g c = λ lawful.
    moves_more _ _ _ (c.in_ok-read_slots.ensures.moved lawful) (c.in_ok-headers.ensures.moved (c.in_ok-read_slots.ensures.served.same_laws.1 lawful))

pub returns-clause-stood : goal.returns-clause-stood
returns-clause-stood g c = λ lawful.
    headers_within _ _ _ _ c.in_ok-headers.headers (c.in_ok-read_slots.ensures.moved lawful) (stays _) (c.in_ok-headers.ensures.stood (c.in_ok-read_slots.ensures.served.same_laws.1 lawful))

pub returns-clause-taken : goal.returns-clause-taken
returns-clause-taken g c = λ lawful start before.
    let facts = g.S.Source.facts in
    let headers = c.in_ok-headers.headers in
    let two : 2 ≤ memory_size c.read_slots.new.device = omega (arith, c.requires.headers, c.in_ok-read_slots.ensures.size) in
    subst (WasTaken start (shown facts c.read_headers.new.source)) (sym (c.set-2.ensures ∙ ap (set_at 1 headers.odd) c.set.ensures))
    (was_taken start (shown facts c.args.source.now) (shown facts c.read_slots.new.source) (shown facts c.read_headers.new.source) headers c.read_slots.new.device two
    (c.in_ok-read_slots.ensures.moved lawful) before (c.in_ok-read_slots.ensures.stood lawful) (c.in_ok-headers.ensures.stood (c.in_ok-read_slots.ensures.served.same_laws.1 lawful)))
