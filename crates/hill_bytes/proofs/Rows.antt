-- The layout of a small hill, computed by the definitions.
use Rattle.{std.proofs.Common.{◌≡◌, ℕ, List, [], ◌∷◌, ◌++◌, take, drop, replicate, refl}, war_types.specs.{declared.settings.RawSettings.RawSettings, Warrior.{WarriorParts, warrior_parts}}}
use Rattle.{war_types.specs.{declared.instr.Op.Op, declared.instr.Modifier.Modifier, declared.instr.Mode.Mode}, hill_bytes.specs.{declared.header.HeaderEntry.HeaderEntry, declared.wins.Wins.Wins}}
use Rattle.hill_bytes.specs.Layout.{HeaderParts, new_layout, old_layout, new_magic, old_magic, header_bytes, fields_bytes, last_sector, slot_bytes, slot_at, slot_in, results_in, sectors_for}
use Rattle.hill_bytes.specs.Layout.{sectors_in}

abbrev small : RawSettings
small = record { core = 64; cycles = 100; processes = 8; length = 10; distance = 10; rounds = 2; seed = 1; capacity = 2; read_limit = 64; write_limit = 64 }

abbrev entry : ℕ → ℕ → ℕ → HeaderEntry
entry number slot age = record { entry = number; slot = slot; age = age }

-- the second generation, of a hill of two warriors
abbrev second : HeaderParts
second = record { generation = 2; settings = small; counter = 2; entries = entry 1 0 1 ∷ entry 2 1 0 ∷ [] }

second_begins : take 84 (header_bytes new_layout second) ≡
    0x4b ∷ 0x4f ∷ 0x54 ∷ 0x48 ∷ 0x48 ∷ 0x49 ∷ 0x4c ∷ 0x32 ∷ 0 ∷ 0 ∷ 0 ∷ 0 ∷ 0 ∷ 0 ∷ 0 ∷ 2
    ∷ 0 ∷ 0x40 ∷ 0 ∷ 0 ∷ 0 ∷ 0x64 ∷ 0 ∷ 8 ∷ 0 ∷ 0x0a ∷ 0 ∷ 0x0a ∷ 0 ∷ 2 ∷ 0 ∷ 0 ∷ 0 ∷ 1 ∷ 0 ∷ 2 ∷ 0 ∷ 0 ∷ 0 ∷ 0
    ∷ 0 ∷ 0 ∷ 0 ∷ 0 ∷ 0 ∷ 0 ∷ 0 ∷ 2 ∷ 0 ∷ 2
    ∷ 0 ∷ 0 ∷ 0 ∷ 0 ∷ 0 ∷ 0 ∷ 0 ∷ 1 ∷ 0 ∷ 0 ∷ 0 ∷ 0 ∷ 0 ∷ 0 ∷ 0 ∷ 0 ∷ 1
    ∷ 0 ∷ 0 ∷ 0 ∷ 0 ∷ 0 ∷ 0 ∷ 0 ∷ 2 ∷ 1 ∷ 0 ∷ 0 ∷ 0 ∷ 0 ∷ 0 ∷ 0 ∷ 0 ∷ 0 ∷ []
unfolding header_bytes new_magic
second_begins = refl

second_ends : drop 84 (header_bytes new_layout second) ≡ replicate 428 0
unfolding header_bytes new_magic
second_ends = refl

-- the same in the old format
old_begins : take 16 (header_bytes old_layout second) ≡ 0x4b ∷ 0x4f ∷ 0x54 ∷ 0x48 ∷ 0x48 ∷ 0x49 ∷ 0x4c ∷ 0x31 ∷ 0 ∷ 0 ∷ 0 ∷ 0 ∷ 0 ∷ 0 ∷ 0 ∷ 2 ∷ []
unfolding header_bytes old_magic
old_begins = refl

old_behind : drop 8 (header_bytes old_layout second) ≡ drop 8 (header_bytes new_layout second)
unfolding header_bytes old_magic new_magic
old_behind = refl

-- a warrior of one instruction, MOV.I $0,$1
abbrev imp : WarriorParts
imp = warrior_parts (record { op = Op.Mov; modifier = Modifier.I; a_mode = Mode.Direct; a = 0; b_mode = Mode.Direct; b = 1 } ∷ []) 0 (65 ∷ []) (66 ∷ 67 ∷ [])

-- the first bytes of a slot's last sector from its fields on, for a warrior of one instruction
abbrev imp_fields : List ℕ
imp_fields = (0 ∷ 1 ∷ 0 ∷ 0 ∷ 65 ∷ []) ++ replicate 47 0 ++ (66 ∷ 67 ∷ []) ++ replicate 46 0

abbrev imp_code : List ℕ
imp_code = (1 ∷ 6 ∷ 1 ∷ 1 ∷ 0 ∷ 0 ∷ 0 ∷ 1 ∷ []) ++ replicate 504 0

abbrev wins : ℕ → ℕ → Wins
wins older younger = record { older = older; younger = younger }

-- the results of a warrior that met nobody
abbrev unmatched : List Wins
unmatched = replicate 21 (wins 0 0)

imp_slot : slot_bytes new_layout imp unmatched ≡ imp_code ∷ replicate 512 0 ∷ replicate 512 0 ∷ (replicate 288 0 ++ imp_fields ++ replicate 124 0) ∷ []
unfolding slot_bytes fields_bytes
imp_slot = refl

old_slot : slot_bytes old_layout imp unmatched ≡ imp_code ∷ (replicate 288 0 ++ imp_fields ++ replicate 124 0) ∷ []
unfolding slot_bytes fields_bytes
old_slot = refl

-- the results of a warrior that lost both rounds to the older one in slot 2
abbrev lost : List Wins
lost = replicate 2 (wins 0 0) ++ wins 2 0 ∷ replicate 18 (wins 0 0)

imp_lost : slot_bytes new_layout imp lost ≡
    imp_code ∷ replicate 512 0 ∷ replicate 512 0 ∷ (replicate 288 0 ++ imp_fields ++ replicate 8 0 ++ (0 ∷ 2 ∷ 0 ∷ 0 ∷ []) ++ replicate 112 0) ∷ []
unfolding slot_bytes fields_bytes
imp_lost = refl

lost_read : results_in new_layout (slot_bytes new_layout imp lost) ≡ lost
unfolding results_in slot_bytes fields_bytes
lost_read = refl

old_lost : slot_bytes old_layout imp lost ≡ imp_code ∷ (replicate 288 0 ++ imp_fields ++ replicate 8 0 ++ (0 ∷ 2 ∷ 0 ∷ 0 ∷ []) ++ replicate 112 0) ∷ []
unfolding slot_bytes fields_bytes
old_lost = refl

old_read : results_in old_layout (slot_bytes old_layout imp lost) ≡ lost
unfolding results_in slot_bytes fields_bytes
old_read = refl

-- a warrior of 193 instructions has the last of them in the fourth sector
abbrev long : WarriorParts
long = warrior_parts (replicate 193 (record { op = Op.Mov; modifier = Modifier.I; a_mode = Mode.Direct; a = 0; b_mode = Mode.Direct; b = 1 })) 0 (65 ∷ []) (66 ∷ 67 ∷ [])

long_last : take 290 (last_sector new_layout (slot_bytes new_layout long unmatched)) ≡ (1 ∷ 6 ∷ 1 ∷ 1 ∷ 0 ∷ 0 ∷ 0 ∷ 1 ∷ []) ++ replicate 281 0 ++ 193 ∷ []
unfolding slot_bytes fields_bytes
long_last = refl

-- where slots lie, and how large a device is
places : (slot_at new_layout 2 ≡ 10) × (sectors_for 2 ≡ 14) × (sectors_for 20 ≡ 86)
places = (refl, refl, refl)

sectors : (image : ℕ → List ℕ) → slot_in new_layout image 2 ≡ image 10 ∷ image 11 ∷ image 12 ∷ image 13 ∷ []
sectors image = refl

old_places : (slot_at old_layout 2 ≡ 6) × (sectors_in old_layout 2 ≡ 8) × (sectors_in old_layout 20 ≡ 44)
old_places = (refl, refl, refl)

old_sectors : (image : ℕ → List ℕ) → slot_in old_layout image 2 ≡ image 6 ∷ image 7 ∷ []
old_sectors image = refl
