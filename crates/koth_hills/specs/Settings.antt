-- The settings of a hill, as options.
use Rattle.std.specs.Prelude.{ℕ, Bool, if◌then◌else◌, List, [], ◌++◌, codes, decimal}
use Rattle.{war_types.specs.declared.settings.RawSettings.RawSettings, koth_words.specs.Settings.given_as}

-- an option and its number
abbrev pub option_text : List ℕ → ℕ → List ℕ
option_text name number = name ++ decimal number

-- the sizes of a match, and its cycles
abbrev pub sizes_text : RawSettings → List ℕ
sizes_text s = option_text (codes "--core ") s.core ++ option_text (codes " --cycles ") s.cycles ++ option_text (codes " --processes ") s.processes
    ++ option_text (codes " --length ") s.length ++ option_text (codes " --distance ") s.distance

-- its rounds, the capacity of the hill, and how far operands reach
abbrev pub bounds_text : RawSettings → List ℕ
bounds_text s = option_text (codes " --rounds ") s.rounds ++ option_text (codes " --capacity ") s.capacity
    ++ option_text (codes " --read-limit ") s.read_limit ++ option_text (codes " --write-limit ") s.write_limit

-- the seed, if it is asked for, and the end of the line
abbrev pub seed_text : Bool → ℕ → List ℕ
seed_text with_seed seed = (if with_seed then option_text (codes " --seed ") seed else []) ++ codes "\n"

-- a line of options that give these settings
abbrev pub settings_text : Bool → RawSettings → List ℕ
settings_text with_seed s = sizes_text (given_as s) ++ bounds_text (given_as s) ++ seed_text with_seed s.seed
