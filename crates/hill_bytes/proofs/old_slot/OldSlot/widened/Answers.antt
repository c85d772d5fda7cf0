use Rattle.{std.proofs.Common.{rules, ◌≡◌, length}, hill_bytes.proofs.Widened.widened}
use Rattle.hill_bytes.proofs.old_slot.OldSlot.widened.Goals as goal

pub returns : goal.returns
returns c =
    let sectors = c.args.self.now.sectors in
    let two : length sectors ≡ 2 = search rules in
    widened sectors c.blank-slot.result.sectors c.code_part.result c.fields_part.result two c.code_part.ensures.len c.blank-slot.ensures c.code_part.ensures.value c.fields_part.ensures
