use Rattle.std.proofs.Common.{◌≡◌, ◌<◌, ◌^◌, None, Some, length, drop, replicate, arith, sym, ◌∙◌}
use Rattle.hill_bytes.proofs.HeaderBytes.{header_fields, generation-at, settings-at, counter-at, count-at, entries-at, entries-fit, made}
use Rattle.hill_bytes.proofs.header.read_header.Goals as goal

pub returns-in_err-settings : goal.returns-in_err-settings
returns-in_err-settings c = λ layout h is.
    let some : c.read_settings.result ≡ Some h.settings = c.read_settings.ensures h.settings (drop 32 (header_fields h)) is.header.settings (settings-at layout c.args.bytes.now h is.bytes_are) in
    let none : c.read_settings.result ≡ None = c.in_err-settings.was in
    cc

pub returns-then-count-gt-PLACES : goal.returns-then-count-gt-PLACES
returns-then-count-gt-PLACES c = λ layout h is.
    let few = is.header.few in
    let most = is.header.settings.capacity_most in
    let count : c.u16_at.result ≡ length h.entries = c.u16_at.ensures (length h.entries) (drop 42 (header_fields h)) (omega (arith, few, most)) (count-at layout c.args.bytes.now h is.bytes_are) in
    absurd (omega (arith, few, most, count))

pub returns : goal.returns
returns c = λ layout h is.
    let bytes = c.args.bytes.now in
    let few = is.header.few in
    let most = is.header.settings.capacity_most in
    let low = is.header.counter in
    let top = is.header.generation in
    let below : h.counter < 2 ^ 64 = omega (arith, low, top) in
    let some : c.read_settings.result ≡ Some h.settings = c.read_settings.ensures h.settings (drop 32 (header_fields h)) is.header.settings (settings-at layout bytes h is.bytes_are) in
    let was : c.read_settings.result ≡ Some c.in_ok-settings.settings = c.in_ok-settings.was in
    let settings : c.in_ok-settings.settings ≡ h.settings = cc in
    let stored : c.u16_at.result ≡ length h.entries = c.u16_at.ensures (length h.entries) (drop 42 (header_fields h)) (omega (arith, few, most)) (count-at layout bytes h is.bytes_are) in
    let size : length h.entries ≡ c.from-count.result = sym (c.from-count.ensures ∙ stored) in
    made _ _ _ _ h c.new.result
    (c.u64_at.ensures h.generation (drop 8 (header_fields h)) (omega (arith, top)) (generation-at layout bytes h is.bytes_are))
    settings
    (c.u64_at-2.ensures h.counter (drop 40 (header_fields h)) below (counter-at layout bytes h is.bytes_are))
    (c.read_entries-places.ensures h.entries (replicate 122 0) size (entries-fit h.settings.capacity h.counter h.entries below is.header.entries) (entries-at layout bytes h is.bytes_are))
    is.header c.new.ensures
