-- The settings of a hill or a ranking, without the seed.
use Rattle.std.specs.Prelude.{ℕ, ◌==◌, Bool, if◌then◌else◌, List, [], ◌++◌, codes, decimal}
use Rattle.{war_types.specs.declared.settings.RawSettings.{RawSettings}, koth_page.specs.declared.parts.TheConstants.{MEANINGS, RANKING_RULES, RULES}}

-- a setting after what it is called
unfoldable pub setting_text : List ℕ → ℕ → List ℕ
setting_text name n = name ++ decimal n

-- of the machine
unfoldable pub machine_text : RawSettings → List ℕ
machine_text s =
    setting_text (codes "<details>\n<summary>Settings: core ") s.core ++ setting_text (codes ", cycles ") s.cycles ++ setting_text (codes ", processes ") s.processes

-- of warriors and their matches
unfoldable pub rules_text : RawSettings → List ℕ
rules_text s =
    setting_text (codes ", length ") s.length ++ setting_text (codes ", distance ") s.distance ++ setting_text (codes ", rounds ") s.rounds

-- a limit in a core of this size, if it is on
unfoldable pub limit_text : List ℕ → ℕ → ℕ → List ℕ
limit_text name n core = if n == core then [] else setting_text name n

unfoldable pub limits_text : RawSettings → List ℕ
limits_text s = limit_text (codes ", read limit ") s.read_limit s.core ++ limit_text (codes ", write limit ") s.write_limit s.core

-- the line of the settings of a hill
unfoldable pub hill_line : RawSettings → List ℕ
hill_line s = machine_text s ++ rules_text s ++ setting_text (codes ", places ") s.capacity ++ limits_text s

-- it opens what a hill is, and what they mean
unfoldable pub settings_text : RawSettings → List ℕ
settings_text s = hill_line s ++ RULES.now ++ MEANINGS.now

-- what is said of the orders in which each match is fought
abbrev pub orders_text : Bool → List ℕ
orders_text both = if both then codes " in both orders" else []

-- the line of the settings of a ranking, which has no places
unfoldable pub ranking_line : RawSettings → Bool → List ℕ
ranking_line s both = machine_text s ++ rules_text s ++ orders_text both ++ limits_text s

-- it opens what a ranking is, and what they mean
unfoldable pub ranking_settings : RawSettings → Bool → List ℕ
ranking_settings s both = ranking_line s both ++ RANKING_RULES.now ++ MEANINGS.now
