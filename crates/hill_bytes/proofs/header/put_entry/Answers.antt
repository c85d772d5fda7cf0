use Rattle.{std.proofs.Common.{[], ◌∷◌}, std.specs.Int.bytes_high_first, hill_bytes.proofs.Writes.writes-3}
use Rattle.hill_bytes.proofs.header.put_entry.Goals as goal

pub returns-clause-value : goal.returns-clause-value
returns-clause-value c =
    writes-3 c.args.sector.now _ _ _ (bytes_high_first 8 c.args.entry.now.entry) (c.args.entry.now.slot ∷ []) (bytes_high_first 8 c.args.entry.now.age)
    c.put_u64.ensures.value c.put_u8.ensures.value c.put_u64-2.ensures.value
