use Rattle.{std.proofs.Common.{length, drop, replicate, ap, ◌∙◌}, std.specs.Int.bytes_high_first, hill_bytes.specs.Layout.{code_places, fields_bytes, filled, result_places}}
use Rattle.hill_bytes.proofs.Writes.{renamed, rewritten, writes-behind}
use Rattle.hill_bytes.proofs.slot.last_sector.Goals as goal

pub returns-clause-value : goal.returns-clause-value
unfolding fields_bytes
returns-clause-value g c =
    let w = c.args.warrior.now in
    c.into_sector.ensures
    ∙ writes-behind c.new-sector.result _ _ _ _ _ _ _ _ (code_places 8 (drop 192 w.code)) (replicate 224 0) (bytes_high_first 2 (length w.code)) (bytes_high_first 2 w.start) (filled 48 w.name) (filled 48 w.author) (result_places c.args.results.now) (replicate 40 0)
    c.new-sector.ensures
    (rewritten _ _ (code_places 8 c.code_from.result.now) (code_places 8 (drop 192 w.code)) (ap (code_places 8) (c.code_from.ensures ∙ ap (drop 192) c.code.ensures.value)) c.put_code.ensures.value)
    c.put_zeros.ensures.value
    (renamed 2 _ _ (length c.code-2.result.now) (length w.code) (ap length c.code-2.ensures.value) c.put_u16.ensures.value)
    (renamed 2 _ _ c.start.result w.start c.start.ensures.value c.put_u16-2.ensures.value)
    (rewritten _ _ (filled 48 c.name.result.now) (filled 48 w.name) (ap (filled 48) c.name.ensures) c.put_title.ensures.value)
    (rewritten _ _ (filled 48 c.author.result.now) (filled 48 w.author) (ap (filled 48) c.author.ensures) c.put_title-2.ensures.value)
    c.put_results.ensures.value
    c.put_zeros-2.ensures.value
