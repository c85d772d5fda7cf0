-- What the parser found is what is asked; without a whole head there is none to find.
use Rattle.std.proofs.{Common.{◌∙◌, Err, ap, arith, drop, inl, inr, length, refl, sym, take}, lemmas.List.{length-map, length-take-le}}
use Rattle.httparse.specs.Spans.{header_bytes, name_and_value}
use Rattle.koth_http.proofs.asked.asked_in.Goals as goal

pub returns-in-Ok-Complete : goal.returns-in-Ok-Complete
returns-in-Ok-Complete c =
    let found = rw c.in-Ok-Complete.field-0-is at c.in-Ok-Complete.ensures.found in
    let within = rw c.in-Ok-Complete.field-0-is at c.in-Ok-Complete.ensures.within in
    let (head, at) = rw c.in-Ok-Complete.field-0-is at c.in-Ok-Complete.ensures.complete in
    let spans = c.parse_request.new.headers in
    let count = c.in-Ok-Complete.head.headers in
    let fields = sym (length-map head.fields name_and_value) ∙ sym (ap length at.fields) ∙ length-map (take count spans) (header_bytes c.args.bytes.now)
    ∙ length-take-le count spans within.section.count_fits in
    record {
      found = λ head rest reads few. (c.asked_by.result, refl, c.asked_by.ensures head (found head rest reads few));
      said = inl (
        head,
        drop c.in-Ok-Complete.head.len c.args.bytes.now,
        at.reads,
        omega (arith, fields, within.section.count_fits, c.parse_request.auto.headers),
        c.asked_by.ensures head at,
      );
    }

pub returns-in-Ok-Partial : goal.returns-in-Ok-Partial
returns-in-Ok-Partial c =
    let partial = rw c.in-Ok-Partial.field-0-is at c.in-Ok-Partial.ensures.partial in
    let unfinished = rw c.in-Ok-Partial.field-0-is at c.in-Ok-Partial.ensures.unfinished in
    record { found = λ head rest reads few. absurd (partial head rest reads); said = (partial, unfinished, omega arith) }

pub returns-in-Ok-Partial-2 : goal.returns-in-Ok-Partial-2
returns-in-Ok-Partial-2 c =
    let partial = rw c.in-Ok-Partial.field-0-is at c.in-Ok-Partial.ensures.partial in
    let unfinished = rw c.in-Ok-Partial.field-0-is at c.in-Ok-Partial.ensures.unfinished in
    record {
      found = λ head rest reads few. absurd (partial head rest reads);
      said = inr (inr (inr (partial, unfinished, omega arith), c.refused.ensures));
    }

pub returns-in-Err-TooManyHeaders : goal.returns-in-Err-TooManyHeaders
returns-in-Err-TooManyHeaders c =
    let e = c.in-Err-TooManyHeaders.ensures in
    record {
      found = λ head rest reads few. absurd (e.found head rest reads few);
      said = inr (inr (inl (e.too_many (ap Err c.in-Err-TooManyHeaders.field-0-is), e.no_room), c.refused-in-Err-TooManyHeaders.ensures));
    }

pub returns-in-Err-clause-found : goal.returns-in-Err-clause-found
returns-in-Err-clause-found c = λ head rest reads few. absurd (c.in-Err.ensures.found head rest reads few)
