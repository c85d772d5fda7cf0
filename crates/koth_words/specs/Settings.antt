-- The settings that a command's words give: those of a hill that they name, or of a preset, or the default ones, and
-- what options give in place of them.
use Rattle.std.specs.{Prelude.{◌≡◌, ℕ, ◌==◌, if◌then◌else◌, List, codes, option_map, unwrap_or}, Option.option_map_or, Str.bytes_eq}
use Rattle.{clap.specs.Words.{Row, Text, first_of, one_of}, war_types.specs.declared.settings.RawSettings.RawSettings}
use Rattle.koth_words.specs.{Options.{default_settings, number_given}, declared.settings.Chosen.Chosen, declared.settings.Given.Given}

-- the settings of the preset of this name: of the tiny hill, or of the nano hill, and else, as of the hill '94nop, the
-- default ones
abbrev pub preset_settings : Text → RawSettings
preset_settings name =
    if bytes_eq name (codes "tiny") then record default_settings { core = 800; cycles = 8000; processes = 800; length = 20; distance = 20 } else (
    if bytes_eq name (codes "nano") then record default_settings { core = 80; cycles = 800; processes = 80; length = 5; distance = 5 }
    else default_settings)

-- those of the preset that is named, and else the default ones
abbrev pub base_in : List Row → RawSettings
base_in rows = option_map_or preset_settings (first_of (codes "preset") rows) default_settings

-- what options give
abbrev pub chosen_in : List Row → Chosen
chosen_in rows = record {
  core = number_given 4294967296 (one_of (codes "core") rows);
  cycles = number_given 4294967296 (one_of (codes "cycles") rows);
  processes = number_given 4294967296 (one_of (codes "processes") rows);
  length = number_given 4294967296 (one_of (codes "length") rows);
  distance = number_given 4294967296 (one_of (codes "distance") rows);
  rounds = number_given 4294967296 (one_of (codes "rounds") rows);
  seed = number_given 4294967296 (one_of (codes "seed") rows);
  capacity = number_given 4294967296 (one_of (codes "capacity") rows);
  read_limit = number_given 4294967296 (one_of (codes "read-limit") rows);
  write_limit = number_given 4294967296 (one_of (codes "write-limit") rows);
}

-- settings, with what options give in place of theirs
abbrev pub over : RawSettings → Chosen → RawSettings
over base chosen = record {
  core = unwrap_or chosen.core base.core;
  cycles = unwrap_or chosen.cycles base.cycles;
  processes = unwrap_or chosen.processes base.processes;
  length = unwrap_or chosen.length base.length;
  distance = unwrap_or chosen.distance base.distance;
  rounds = unwrap_or chosen.rounds base.rounds;
  seed = unwrap_or chosen.seed base.seed;
  capacity = unwrap_or chosen.capacity base.capacity;
  read_limit = unwrap_or chosen.read_limit base.read_limit;
  write_limit = unwrap_or chosen.write_limit base.write_limit;
}

-- the settings that a command's words give, if they name no hill
abbrev pub settings_in : List Row → RawSettings
settings_in rows = over (base_in rows) (chosen_in rows)

-- a limit as one gives it: one of the core's size is 0
abbrev pub limit_given : ℕ → ℕ → ℕ
limit_given core limit = if limit == core then 0 else limit

-- the settings of a hill as one gives them
abbrev pub given_as : RawSettings → RawSettings
given_as s = record s { read_limit = limit_given s.core s.read_limit; write_limit = limit_given s.core s.write_limit }

-- what is given is what these words give
pub record IsGiven (rows : List Row) (given : Given) : Type 0 where
  pub like : option_map (λ file. file.now) given.like ≡ first_of (codes "like") rows
  pub base : given.base ≡ base_in rows
  pub chosen : given.chosen ≡ chosen_in rows
