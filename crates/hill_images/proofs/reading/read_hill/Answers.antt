use Rattle.std.proofs.Common.{◌≡◌, ◌<◌, ◌≤◌, List, length, min, take, All, arith, sym, ap, refl, subst, ◌∙◌, length-take}
use Rattle.{war_types.specs.{declared.settings.RawSettings.RawSettings, Warrior.Fits}, koth_match.specs.Match.rounds_in, sector_disk.proofs.Kept.{kept_on, kept_same}}
use Rattle.{hill_bytes.specs.{declared.header.HeaderEntry.HeaderEntry, Layout.{FitRounds, code_room, layout_of}}, hill_images.specs.Places.new_entry}
use Rattle.hill_images.proofs.WarriorsRead.{next_read, none_read, read_next, read_failed, read_all, IsRowRead, row_rounds, low_before, within_of, members_read, slot_there}
use Rattle.hill_images.proofs.reading.read_hill.Given.{Over}
use Rattle.hill_images.proofs.reading.read_hill.Goals as goal

pub returns-in-Err-read_warrior-clause-unread : goal.returns-in-Err-read_warrior-clause-unread
returns-in-Err-read_warrior-clause-unread g c =
    read_failed g.D.Device.facts c.args.device.now c.loop-i.device c.read_warrior.new.device c.args.header.now c.loop-i.i c.loop-i.hill c.entries-entries.result.now (new_entry 0 0) c.settings.result.now c.in-Err-read_warrior.unread c.entries-entries.ensures.value c.settings.ensures.value c.loop-i-test.true c.loop-i.invariant c.in-Err-read_warrior.ensures.kept c.in-Err-read_warrior.ensures.unread

pub bouts_with-bouts-requires-clause-slots : goal.bouts_with-bouts-requires-clause-slots
bouts_with-bouts-requires-clause-slots g c = low_before c.args.header.now c.entries-entries.result.now c.loop-i.i c.entries-entries.ensures.value c.settings.ensures.header

pub put_back-requires-clause-room : goal.put_back-requires-clause-room
put_back-requires-clause-room g c = let next = next_read g.D.Device.facts c.args.device.now c.loop-i.device c.args.header.now c.loop-i.i c.loop-i.hill c.entries-entries.result.now (new_entry 0 0) c.entries-entries.ensures.value c.settings.ensures.header c.loop-i-test.true c.loop-i.invariant in next.room

pub put_back-requires-clause-entry : goal.put_back-requires-clause-entry
put_back-requires-clause-entry g c = let next = next_read g.D.Device.facts c.args.device.now c.loop-i.device c.args.header.now c.loop-i.i c.loop-i.hill c.entries-entries.result.now (new_entry 0 0) c.entries-entries.ensures.value c.settings.ensures.header c.loop-i-test.true c.loop-i.invariant in next.entry

pub put_back-requires-clause-counted : goal.put_back-requires-clause-counted
put_back-requires-clause-counted g c = let next = next_read g.D.Device.facts c.args.device.now c.loop-i.device c.args.header.now c.loop-i.i c.loop-i.hill c.entries-entries.result.now (new_entry 0 0) c.entries-entries.ensures.value c.settings.ensures.header c.loop-i-test.true c.loop-i.invariant in next.counted

pub put_back-requires-clause-age : goal.put_back-requires-clause-age
put_back-requires-clause-age g c = let next = next_read g.D.Device.facts c.args.device.now c.loop-i.device c.args.header.now c.loop-i.i c.loop-i.hill c.entries-entries.result.now (new_entry 0 0) c.entries-entries.ensures.value c.settings.ensures.header c.loop-i-test.true c.loop-i.invariant in next.age

pub put_back-requires-clause-each : goal.put_back-requires-clause-each
put_back-requires-clause-each g c =
    let count : length c.loop-i.hill.members ≡ c.loop-i.i = members_read g.D.Device.facts c.args.device.now c.loop-i.device c.args.header.now c.loop-i.i c.loop-i.hill c.entries-entries.result.now c.entries-entries.ensures.value c.loop-i-test.true c.loop-i.invariant in
    let next = next_read g.D.Device.facts c.args.device.now c.loop-i.device c.args.header.now c.loop-i.i c.loop-i.hill c.entries-entries.result.now (new_entry 0 0) c.entries-entries.ensures.value c.settings.ensures.header c.loop-i-test.true c.loop-i.invariant in
    let most : c.loop-i.hill.settings.capacity ≤ 20 = subst (λ (s : RawSettings). s.capacity ≤ 20) (sym c.loop-i.invariant.settings) c.settings.ensures.header.settings.capacity_most in
    let long : length c.bouts_with-bouts.result ≡ 20 = c.bouts_with-bouts.ensures.len in
    let taken : length (take c.loop-i.i c.bouts_with-bouts.result) ≡ min c.loop-i.i (length c.bouts_with-bouts.result) = length-take c.loop-i.i c.bouts_with-bouts.result in
    let room : length c.loop-i.hill.members < c.loop-i.hill.settings.capacity = next.room in
    omega (arith, count, most, long, taken, room)

-- the results that are put back are those that stand in the slot
row_is : (g : Over) (c : goal.After-bouts-1 g) → IsRowRead c.entries-entries.result.now c.loop-i.i c.rounds.result c.in-Ok-read_warrior.held.results (take c.loop-i.i c.bouts_with-bouts.result)
row_is g c =
    let taken : length (take c.loop-i.i c.entries-entries.result.now) ≡ min c.loop-i.i (length c.entries-entries.result.now) = length-take c.loop-i.i c.entries-entries.result.now in
    let all : c.loop-i.i ≡ length (take c.loop-i.i c.entries-entries.result.now) = omega (arith, taken, c.loop-i-test.true) in
    ap (λ n. take n c.bouts_with-bouts.result) all ∙ c.bouts_with-bouts.ensures.value

pub put_back-requires-clause-rounds : goal.put_back-requires-clause-rounds
put_back-requires-clause-rounds g c =
    let rounds : c.rounds.result ≡ c.loop-i.hill.settings.rounds =
    c.rounds.ensures.value ∙ ap (λ (s : RawSettings). s.rounds) (c.settings.ensures.value ∙ sym c.loop-i.invariant.settings) in
    let fits : FitRounds c.rounds.result c.in-Ok-read_warrior.held.results = subst (λ n. FitRounds n c.in-Ok-read_warrior.held.results) (sym c.rounds.ensures.value) c.in-Ok-read_warrior.ensures.rounds in
    let low = low_before c.args.header.now c.entries-entries.result.now c.loop-i.i c.entries-entries.ensures.value c.settings.ensures.header in
    let within = within_of (length c.in-Ok-read_warrior.held.results) (take c.loop-i.i c.entries-entries.result.now) c.in-Ok-read_warrior.ensures.len low in
    subst (λ n. All (λ b. rounds_in b ≡ n) (take c.loop-i.i c.bouts_with-bouts.result)) rounds
    (subst (All (λ b. rounds_in b ≡ c.rounds.result)) (sym (row_is g c)) (row_rounds c.rounds.result c.in-Ok-read_warrior.held.results (take c.loop-i.i c.entries-entries.result.now) fits within))

pub loop-i-preserved : goal.loop-i-preserved
loop-i-preserved g c =
    let taken : length (take c.loop-i.i c.entries-entries.result.now) ≡ min c.loop-i.i (length c.entries-entries.result.now) = length-take c.loop-i.i c.entries-entries.result.now in
    let all : c.loop-i.i ≡ length (take c.loop-i.i c.entries-entries.result.now) = omega (arith, taken, c.loop-i-test.true) in
    let row : IsRowRead c.entries-entries.result.now c.loop-i.i c.rounds.result c.in-Ok-read_warrior.held.results (take c.loop-i.i c.bouts_with-bouts.result) =
    ap (λ n. take n c.bouts_with-bouts.result) all ∙ c.bouts_with-bouts.ensures.value in
    read_next g.D.Device.facts c.args.device.now c.loop-i.device c.read_warrior.new.device c.args.header.now c.loop-i.i c.loop-i.hill c.put_back.new.self c.entries-entries.result.now (new_entry 0 0)
    c.in-Ok-read_warrior.held.warrior c.in-Ok-read_warrior.held.results (take c.loop-i.i c.bouts_with-bouts.result) c.settings.result.now c.rounds.result
    c.entries-entries.ensures.value c.settings.ensures.value c.rounds.ensures.value c.loop-i-test.true c.loop-i.invariant
    c.in-Ok-read_warrior.ensures.kept c.in-Ok-read_warrior.ensures.faultless c.in-Ok-read_warrior.ensures.same c.in-Ok-read_warrior.ensures.read c.in-Ok-read_warrior.ensures.results
    row c.put_back.ensures

pub returns-clause-read : goal.returns-clause-read
returns-clause-read g c =
    let past : length c.args.header.now.entries ≤ c.loop-i.i = subst (λ (xs : List HeaderEntry). length xs ≤ c.loop-i.i) c.entries-entries.ensures.value c.loop-i-test.false in
    read_all g.D.Device.facts c.args.device.now c.loop-i.device c.args.header.now c.loop-i.i c.loop-i.hill past c.len-count.ensures.hill c.loop-i.invariant

pub read_warrior-requires-clause-size : goal.read_warrior-requires-clause-size
read_warrior-requires-clause-size g c =
    slot_there (layout_of c.args.format) g.D.Device.facts c.args.device.now c.loop-i.device c.args.header.now c.entries-entries.result.now c.loop-i.i (new_entry 0 0) c.entries-entries.ensures.value c.settings.ensures.header c.loop-i-test.true c.loop-i.invariant.kept c.requires.size

pub read_warrior-requires-clause-room : goal.read_warrior-requires-clause-room
read_warrior-requires-clause-room g c = λ lawful.
    subst (λ (s : RawSettings). s.length ≤ code_room (layout_of c.args.format)) (sym c.settings.ensures.value) (c.requires.room (c.loop-i.invariant.kept.same_laws.0 lawful))

pub bouts_with-bouts-requires-clause-few : goal.bouts_with-bouts-requires-clause-few
bouts_with-bouts-requires-clause-few g c =
    let few : length c.args.header.now.entries ≤ c.args.header.now.settings.capacity = c.settings.ensures.header.few in
    let most : c.args.header.now.settings.capacity ≤ 20 = c.settings.ensures.header.settings.capacity_most in
    let taken : length (take c.loop-i.i c.entries-entries.result.now) ≡ min c.loop-i.i (length c.entries-entries.result.now) = length-take c.loop-i.i c.entries-entries.result.now in
    omega (arith, few, most, taken, ap length c.entries-entries.ensures.value)

pub put_back-requires-clause-fits : goal.put_back-requires-clause-fits
put_back-requires-clause-fits g c = subst (λ (s : RawSettings). Fits s c.in-Ok-read_warrior.held.warrior) (c.settings.ensures.value ∙ sym c.loop-i.invariant.settings) c.in-Ok-read_warrior.ensures.fits

pub returns-clause-kept : goal.returns-clause-kept
returns-clause-kept g c = c.loop-i.invariant.kept

pub returns-clause-same : goal.returns-clause-same
returns-clause-same g c = c.loop-i.invariant.same

pub returns-in-Err-read_warrior-clause-kept : goal.returns-in-Err-read_warrior-clause-kept
returns-in-Err-read_warrior-clause-kept g c =
    kept_on g.D.Device.facts c.args.device.now c.loop-i.device c.read_warrior.new.device c.loop-i.invariant.kept c.in-Err-read_warrior.ensures.kept

pub returns-in-Err-read_warrior-clause-same : goal.returns-in-Err-read_warrior-clause-same
returns-in-Err-read_warrior-clause-same g c = λ lawful. c.in-Err-read_warrior.ensures.same (c.loop-i.invariant.kept.same_laws.1 lawful) ∙ c.loop-i.invariant.same lawful

pub bouts_with-bouts-requires-clause-rounds : goal.bouts_with-bouts-requires-clause-rounds
bouts_with-bouts-requires-clause-rounds g c = subst (λ n. FitRounds n c.in-Ok-read_warrior.held.results) (sym c.rounds.ensures.value) c.in-Ok-read_warrior.ensures.rounds

pub loop-i-init : goal.loop-i-init
loop-i-init g c =
    none_read g.D.Device.facts c.args.device.now c.args.header.now c.in-Ok.hill c.settings.result.now c.counter.result c.in-Ok.ensures c.settings.ensures.value c.counter.ensures.value

pub slice_bounds-bouts_with-end : goal.slice_bounds-bouts_with-end
slice_bounds-bouts_with-end g c = omega (arith, c.loop-i-test.true, length-take c.loop-i.i c.entries-entries.result.now)

pub slice_bounds-put_back-end : goal.slice_bounds-put_back-end
slice_bounds-put_back-end g c =
    let few : length c.args.header.now.entries ≤ c.args.header.now.settings.capacity = c.settings.ensures.header.few in
    let most : c.args.header.now.settings.capacity ≤ 20 = c.settings.ensures.header.settings.capacity_most in
    omega (arith, few, most, ap length c.entries-entries.ensures.value, c.loop-i-test.true, c.bouts_with-bouts.ensures.len, length-take c.loop-i.i c.bouts_with-bouts.result)

pub returns-in-Err-clause-kept : goal.returns-in-Err-clause-kept
returns-in-Err-clause-kept g c = kept_same g.D.Device.facts c.args.device.now

pub returns-in-Err-clause-same : goal.returns-in-Err-clause-same
returns-in-Err-clause-same g c = λ lawful. refl

pub returns-clause-faultless : goal.returns-clause-faultless
returns-clause-faultless g c = c.loop-i.invariant.faultless

pub returns-in-Err-read_warrior-clause-unfaulted : goal.returns-in-Err-read_warrior-clause-unfaulted
returns-in-Err-read_warrior-clause-unfaulted g c = λ is. c.in-Err-read_warrior.ensures.unfaulted is ∙ c.loop-i.invariant.faultless
