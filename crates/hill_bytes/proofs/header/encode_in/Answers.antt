use Rattle.{std.proofs.Common.{length, replicate, ap, ◌∙◌}, std.specs.Int.bytes_high_first, hill_bytes.specs.Layout.{header_bytes, layout_of, settings_bytes, limit_bytes, entry_places}}
use Rattle.hill_bytes.proofs.Writes.{renamed, rewritten, writes-all}
use Rattle.hill_bytes.proofs.header.encode_in.Goals as goal

pub returns : goal.returns
unfolding header_bytes
returns c =
    let h = c.args.header.now in
    c.into_sector.ensures
    ∙ writes-all c.new-sector.result _ _ _ _ _ _ _ _ (layout_of c.args.format).magic (bytes_high_first 8 h.generation) (settings_bytes h.settings) (limit_bytes h.settings) (bytes_high_first 8 h.counter) (bytes_high_first 2 (length h.entries)) (entry_places 20 h.entries) (replicate 122 0)
    c.new-sector.ensures
    (rewritten _ _ c.magic.result (layout_of c.args.format).magic c.magic.ensures c.put.ensures.value)
    (renamed 8 _ _ c.generation.result h.generation c.generation.ensures.value c.put_u64.ensures.value)
    (rewritten _ _ (settings_bytes c.settings.result.now) (settings_bytes h.settings) (ap settings_bytes c.settings.ensures.value) c.put_settings.ensures.value)
    (rewritten _ _ (limit_bytes c.settings-2.result.now) (limit_bytes h.settings) (ap limit_bytes c.settings-2.ensures.value) c.put_limits.ensures.value)
    (renamed 8 _ _ c.counter.result h.counter c.counter.ensures.value c.put_u64-2.ensures.value)
    (renamed 2 _ _ (length c.entries.result.now) (length h.entries) (ap length c.entries.ensures.value) c.put_u16.ensures.value)
    (rewritten _ _ (entry_places 20 c.entries-2.result.now) (entry_places 20 h.entries) (ap (entry_places 20) c.entries-2.ensures.value) c.put_entries.ensures.value)
    c.put_zeros.ensures.value
