-- The seed of a hill that is made.
use Rattle.std.specs.Prelude.{◌≡◌, ℕ, ◌+◌, ◌%◌, ◌==◌, Bool, true, false, if◌then◌else◌, List, [], codes}
use Rattle.{war_types.specs.declared.settings.RawSettings.RawSettings, koth_match.specs.Seeds.IsSeed}
use Rattle.koth_words.specs.Options.{default_settings}

-- the seed for a random number: one more than its remainder modulo the number of seeds
abbrev pub seed_of : ℕ → ℕ
seed_of number = 1 + number % 2147483646

-- the line for people about a seed that everybody knows; nothing about any other
abbrev pub seed_hint : ℕ → List ℕ
seed_hint seed =
    if seed == default_settings.seed
    then codes "this hill has seed 1, the default, so authors can write warriors for its very positions; koth create --draw-seed draws another seed\n"
    else []

-- the settings of a hill that is made: those that are given, or these with a seed that was drawn in place of theirs
abbrev pub AreMade : Bool → RawSettings → RawSettings → Type 0
AreMade false given settings = settings ≡ given
AreMade true given settings = (seed : ℕ) × IsSeed seed × (settings ≡ record given { seed = seed })
