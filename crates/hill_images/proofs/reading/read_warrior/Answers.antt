use Rattle.{std.proofs.Common.{◌∙◌, Some, refl, subst, sym}, sector_disk.specs.Disk.current, sector_disk.proofs.Kept.kept_where_served}
use Rattle.{hill_bytes.specs.Layout.{FitRounds, IsSlotRead, layout_of, new_layout, slot_in}, hill_images.proofs.{Openings.if_ok_map, WarriorsRead.{decoded_some, not_decoded, same_read}}}
use Rattle.hill_images.proofs.reading.read_warrior.Goals as goal

pub returns-in-Ok-decoded-clause-read : goal.returns-in-Ok-decoded-clause-read
returns-in-Ok-decoded-clause-read g c = λ lawful.
    let s = c.args.settings.now in
    let sectors = c.in-Ok.content.sectors in
    same_read (layout_of c.args.format) s sectors (slot_in (layout_of c.args.format) (current (g.D.Device.facts.disk c.args.device.now)) c.args.slot) (Some c.in-Ok-decoded.warrior)
    (c.in-Ok.ensures.read lawful) (c.requires.room lawful)
    (decoded_some c.decode.result c.in-Ok-decoded.warrior (IsSlotRead new_layout s sectors) c.in-Ok-decoded.ensures c.decode.ensures)

pub returns-in-Err-decoded-clause-unread : goal.returns-in-Err-decoded-clause-unread
returns-in-Err-decoded-clause-unread g c =
    let s = c.args.settings.now in
    let sectors = c.in-Ok.content.sectors in
    let layout = layout_of c.args.format in
    let others = slot_in layout (current (g.D.Device.facts.disk c.args.device.now)) c.args.slot in
    not_decoded layout g.D.Device.facts c.args.device.now c.read_slot.new.device s c.args.slot c.decode.result c.in-Err-decoded.unread c.in-Err-decoded.ensures
    (if_ok_map (IsSlotRead new_layout s sectors) (λ read. g.D.Device.facts.lawful c.args.device.now → IsSlotRead layout s others read) c.decode.result
    (λ read. λ is. λ lawful. same_read layout s sectors others read (c.in-Ok.ensures.read lawful) (c.requires.room lawful) is) c.decode.ensures)

pub returns-in-Ok-decoded-clause-kept : goal.returns-in-Ok-decoded-clause-kept
returns-in-Ok-decoded-clause-kept g c = kept_where_served g.D.Device.facts c.args.device.now c.read_slot.new.device _ c.in-Ok.ensures.served

pub returns-in-Ok-decoded-clause-same : goal.returns-in-Ok-decoded-clause-same
returns-in-Ok-decoded-clause-same g c = c.in-Ok.ensures.same

pub returns-in-Ok-decoded-clause-faultless : goal.returns-in-Ok-decoded-clause-faultless
returns-in-Ok-decoded-clause-faultless g c = c.in-Ok.ensures.served.ok refl

pub returns-in-Ok-decoded-clause-fits : goal.returns-in-Ok-decoded-clause-fits
returns-in-Ok-decoded-clause-fits g c =
    (decoded_some c.decode.result c.in-Ok-decoded.warrior (IsSlotRead new_layout c.args.settings.now c.in-Ok.content.sectors) c.in-Ok-decoded.ensures c.decode.ensures).fits

pub returns-in-Ok-decoded-clause-rounds : goal.returns-in-Ok-decoded-clause-rounds
returns-in-Ok-decoded-clause-rounds g c =
    subst (FitRounds c.args.settings.now.rounds) (sym c.results.ensures.value)
    (decoded_some c.decode.result c.in-Ok-decoded.warrior (IsSlotRead new_layout c.args.settings.now c.in-Ok.content.sectors) c.in-Ok-decoded.ensures c.decode.ensures).rounds

pub returns-in-Ok-decoded-clause-len : goal.returns-in-Ok-decoded-clause-len
returns-in-Ok-decoded-clause-len g c = c.results.ensures.len

pub returns-in-Ok-decoded-clause-results : goal.returns-in-Ok-decoded-clause-results
returns-in-Ok-decoded-clause-results g c = λ lawful. c.results.ensures.value ∙ (c.in-Ok.ensures.read lawful).results

pub returns-in-Err-decoded-clause-kept : goal.returns-in-Err-decoded-clause-kept
returns-in-Err-decoded-clause-kept g c = kept_where_served g.D.Device.facts c.args.device.now c.read_slot.new.device _ c.in-Ok.ensures.served

pub returns-in-Err-decoded-clause-same : goal.returns-in-Err-decoded-clause-same
returns-in-Err-decoded-clause-same g c = c.in-Ok.ensures.same

pub returns-in-Err-clause-kept : goal.returns-in-Err-clause-kept
returns-in-Err-clause-kept g c = kept_where_served g.D.Device.facts c.args.device.now c.read_slot.new.device _ c.in-Err.ensures.served

pub returns-in-Err-clause-same : goal.returns-in-Err-clause-same
returns-in-Err-clause-same g c = c.in-Err.ensures.same

pub returns-in-Err-clause-unread : goal.returns-in-Err-clause-unread
returns-in-Err-clause-unread g c = c.in-Err.ensures.served.err refl
