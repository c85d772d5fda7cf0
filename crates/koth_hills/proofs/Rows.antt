-- The settings of a small hill, computed.
use Rattle.{std.proofs.Common.{◌≡◌, true, false, codes, refl}, std.specs.Fmt.digits, war_types.specs.declared.settings.RawSettings.RawSettings, koth_hills.specs.Settings.settings_text}

abbrev nano : RawSettings
nano = record { core = 80; cycles = 800; processes = 80; length = 5; distance = 5; rounds = 10; seed = 77; capacity = 20; read_limit = 80; write_limit = 40 }

without_seed : settings_text false nano
    ≡ codes "--core 80 --cycles 800 --processes 80 --length 5 --distance 5 --rounds 10 --capacity 20 --read-limit 0 --write-limit 40\n"
unfolding digits
without_seed = refl

with_seed : settings_text true nano
    ≡ codes "--core 80 --cycles 800 --processes 80 --length 5 --distance 5 --rounds 10 --capacity 20 --read-limit 0 --write-limit 40 --seed 77\n"
unfolding digits
with_seed = refl
