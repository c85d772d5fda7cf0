use Rattle.{std.specs.Int.bytes_high_first, hill_bytes.proofs.Writes.{renamed, writes-8}}
use Rattle.hill_bytes.proofs.header.put_settings.Goals as goal

pub returns-clause-value : goal.returns-clause-value
returns-clause-value c =
    let s = c.args.settings.now in
    writes-8 c.args.sector.now _ _ _ _ _ _ _ _ (bytes_high_first 2 s.core) (bytes_high_first 4 s.cycles) (bytes_high_first 2 s.processes) (bytes_high_first 2 s.length)
    (bytes_high_first 2 s.distance) (bytes_high_first 2 s.rounds) (bytes_high_first 4 s.seed) (bytes_high_first 2 s.capacity)
    (renamed 2 _ _ c.core.result s.core c.core.ensures.value c.put_u16.ensures.value)
    (renamed 4 _ _ c.cycles.result s.cycles c.cycles.ensures.value c.put_u32.ensures.value)
    (renamed 2 _ _ c.processes.result s.processes c.processes.ensures.value c.put_u16-2.ensures.value)
    (renamed 2 _ _ c.length.result s.length c.length.ensures.value c.put_u16-3.ensures.value)
    (renamed 2 _ _ c.distance.result s.distance c.distance.ensures.value c.put_u16-4.ensures.value)
    (renamed 2 _ _ c.rounds.result s.rounds c.rounds.ensures.value c.put_u16-5.ensures.value)
    (renamed 4 _ _ c.seed.result s.seed c.seed.ensures.value c.put_u32-2.ensures.value)
    (renamed 2 _ _ c.capacity.result s.capacity c.capacity.ensures.value c.put_u16-6.ensures.value)
