use Rattle.{std.proofs.Common.{◌≡◌, length, take, min, get_or, List, ◌<◌, arith, length-take, refl, sym, ap, subst, ◌∙◌}, koth_hill.specs.Hill.Member, sector_disk.specs.Changes.after}
use Rattle.{hill_bytes.specs.{declared.header.HeaderEntry.HeaderEntry, Layout.{IsTitled, new_layout, slot_at}}, hill_images.specs.Places.{new_entry, results_by_slot, writes_from}}
use Rattle.hill_images.proofs.{Nexts.agree_length, WarriorsRead.{low_before, slot_there}, Stored.{below_entries, content_is, next_stored, none_cut, none_stored, row_long, stored_all, stored_next}}
use Rattle.hill_images.proofs.writing.write_members.Goals as goal

pub slice_bounds-results_by_slot-end : goal.slice_bounds-results_by_slot-end
slice_bounds-results_by_slot-end g c =
    let below = below_entries c.args.header.now c.args.hill.now c.loop-i.i c.entries-entries.result.now c.entries-entries.ensures.value c.len-i-end.ensures.hill c.requires.named (subst (λ n. c.loop-i.i < n) c.len-i-end.ensures.value c.loop-i-test.true) in
    let taken : length (take c.loop-i.i c.entries-entries.result.now) ≡ min c.loop-i.i (length c.entries-entries.result.now) = length-take c.loop-i.i c.entries-entries.result.now in
    omega (arith, below, taken)

pub bounds-entries-i : goal.bounds-entries-i
bounds-entries-i g c = below_entries c.args.header.now c.args.hill.now c.loop-i.i c.entries-entries.result.now c.entries-entries.ensures.value c.len-i-end.ensures.hill c.requires.named (subst (λ n. c.loop-i.i < n) c.len-i-end.ensures.value c.loop-i-test.true)

pub results_by_slot-results-requires-clause-each : goal.results_by_slot-results-requires-clause-each
results_by_slot-results-requires-clause-each g c =
    row_long c.args.header.now c.args.hill.now c.loop-i.i c.entries-entries.result.now c.entries-entries.ensures.value c.len-i-end.ensures.hill c.requires.named (subst (λ n. c.loop-i.i < n) c.len-i-end.ensures.value c.loop-i-test.true)
    c.unwrap-member.result c.bouts.result.now (sym c.member.ensures.value ∙ c.unwrap-member.ensures) c.bouts.ensures.value

pub returns-in_err-write_slot-clause-none : goal.returns-in_err-write_slot-clause-none
returns-in_err-write_slot-clause-none g c = λ lawful. λ each.
    let disk = g.D.Device.facts.disk in
    none_cut (get_or c.entries-entries.result.now c.loop-i.i (new_entry 0 0)).slot c.unwrap-member.result.warrior (results_by_slot (take c.loop-i.i c.args.header.now.entries) c.bouts.result.now) c.encode-content.result.sectors
    (disk c.loop-i.device) (disk c.write_slot.new.device) (content_is c.encode-content.result.sectors c.member-in-loop-i.inside.warrior.now c.results_by_slot-results.result c.unwrap-member.result c.loop-i.i c.entries-entries.result.now c.args.header.now.entries c.bouts.result.now c.encode-content.ensures.value (ap (λ (m : Member). m.warrior) (sym c.member-in-loop-i.view_is)) c.results_by_slot-results.ensures.value c.entries-entries.ensures.value) (c.in_err-write_slot.ensures.changes (c.loop-i.invariant.kept.same_laws.1 lawful)) (c.loop-i.invariant.none lawful each)

pub loop-i-preserved : goal.loop-i-preserved
loop-i-preserved g c =
    let disk = g.D.Device.facts.disk in
    let e = get_or c.args.header.now.entries c.loop-i.i (new_entry 0 0) in
    let titled : IsTitled c.unwrap-member.result.warrior = subst (λ (m : Member). IsTitled m.warrior) c.member-in-loop-i.view_is c.encode-content.ensures.titled in
    stored_next g.D.Device.facts c.args.device.now c.loop-i.device c.write_slot.new.device c.args.header.now c.args.hill.now c.loop-i.i e c.unwrap-member.result c.bouts.result.now c.encode-content.result.sectors
    (next_stored c.args.header.now c.args.hill.now c.loop-i.i c.entries-entries.result.now c.entries-entries.ensures.value c.len-i-end.ensures.hill c.requires.named (subst (λ n. c.loop-i.i < n) c.len-i-end.ensures.value c.loop-i-test.true)
    (new_entry 0 0) c.unwrap-member.result c.bouts.result.now c.entries-entries.ensures.header (sym c.member.ensures.value ∙ c.unwrap-member.ensures) c.bouts.ensures.value titled)
    (content_is c.encode-content.result.sectors c.member-in-loop-i.inside.warrior.now c.results_by_slot-results.result c.unwrap-member.result c.loop-i.i c.entries-entries.result.now c.args.header.now.entries c.bouts.result.now c.encode-content.ensures.value (ap (λ (m : Member). m.warrior) (sym c.member-in-loop-i.view_is)) c.results_by_slot-results.ensures.value c.entries-entries.ensures.value) c.loop-i.invariant
    (record { same_size = c.in_ok-write_slot.ensures.served.same_size; same_laws = c.in_ok-write_slot.ensures.served.same_laws; later = c.in_ok-write_slot.ensures.served.later })
    (c.in_ok-write_slot.ensures.served.ok refl)
    (λ lawful. subst (λ (es : List HeaderEntry). disk c.write_slot.new.device ≡ after (writes_from (slot_at new_layout (get_or es c.loop-i.i (new_entry 0 0)).slot) c.encode-content.result.sectors) (disk c.loop-i.device)) c.entries-entries.ensures.value (c.in_ok-write_slot.ensures.changes lawful))

pub returns-clause-stored : goal.returns-clause-stored
returns-clause-stored g c = λ lawful.
    let many = agree_length c.args.header.now.entries c.args.hill.now.members c.requires.named.entries in
    stored_all g.D.Device.facts c.args.device.now c.loop-i.device c.args.header.now c.args.hill.now c.loop-i.i (omega (arith, many, c.loop-i-test.false, c.len-i-end.ensures.value)) c.len-i-end.ensures.hill c.requires.named c.loop-i.invariant lawful

pub write_slot-requires : goal.write_slot-requires
write_slot-requires g c =
    slot_there new_layout g.D.Device.facts c.args.device.now c.loop-i.device c.args.header.now c.entries-entries.result.now c.loop-i.i (new_entry 0 0) c.entries-entries.ensures.value c.entries-entries.ensures.header
    (below_entries c.args.header.now c.args.hill.now c.loop-i.i c.entries-entries.result.now c.entries-entries.ensures.value c.len-i-end.ensures.hill c.requires.named (subst (λ n. c.loop-i.i < n) c.len-i-end.ensures.value c.loop-i-test.true))
    c.loop-i.invariant.kept c.requires.size

pub results_by_slot-results-requires-clause-slots : goal.results_by_slot-results-requires-clause-slots
results_by_slot-results-requires-clause-slots g c = low_before c.args.header.now c.entries-entries.result.now c.loop-i.i c.entries-entries.ensures.value c.entries-entries.ensures.header

pub loop-i-init : goal.loop-i-init
loop-i-init g c = none_stored g.D.Device.facts c.args.device.now c.args.header.now c.args.hill.now

pub returns-clause-none : goal.returns-clause-none
returns-clause-none g c = c.loop-i.invariant.none

pub returns-clause-header : goal.returns-clause-header
returns-clause-header g c = c.entries-entries.ensures.header

pub returns-in_err-write_slot-clause-header : goal.returns-in_err-write_slot-clause-header
returns-in_err-write_slot-clause-header g c = c.entries-entries.ensures.header
