use Rattle.{std.proofs.Common.{◌<◌, ◌*◌, ◌/◌, ◌%◌, [], drop, get_or, arith, ap, ◌∙◌}, hill_bytes.proofs.SlotBytes.code-in}
use Rattle.hill_bytes.proofs.slot.Slot.instr_at.Goals as goal

pub returns : goal.returns
returns c = λ is behind other inside below stands.
    let i = c.args.place in
    let low : i % 64 < 64 = omega arith in
    let place = code-in 3 8 (i / 64) (i % 64) i is other behind low (omega arith) inside (omega (arith, c.requires)) (omega arith) in
    c.read_instr.ensures (get_or is i other) place.0 below (ap (λ sectors. drop (8 * (i % 64)) (get_or sectors (i / 64) [])) stands ∙ place.1)
