-- A contest of one warrior, which is called mine, against another: their match with mine as the older one, or both
-- orders.
use Rattle.std.specs.Prelude.{ℕ, ◌+◌, Bool, true, false}
use Rattle.{war_types.specs.{Warrior.WarriorParts, declared.settings.RawSettings.RawSettings}, koth_match.specs.Match.match_of}
use Rattle.koth_text.specs.{declared.tally.Tally.Tally, Tally.{of_older, of_younger}}

abbrev pub tally : ℕ → ℕ → ℕ → Tally
tally won lost tied = record { won = won; lost = lost; tied = tied }

abbrev pub no_rounds : Tally
no_rounds = tally 0 0 0

-- how many rounds these are
abbrev pub rounds_in : Tally → ℕ
rounds_in t = t.won + t.lost + t.tied

-- no contest has more rounds: it is two matches at most, and 16 bits count the rounds of a match
abbrev pub most_rounds : ℕ
most_rounds = 131070

-- the rounds of both
abbrev pub added : Tally → Tally → Tally
added a b = tally (a.won + b.won) (a.lost + b.lost) (a.tied + b.tied)

-- the rounds of a contest from mine's side: of the match with mine as the older one, and if both orders are played,
-- also of the other match
abbrev pub contest_tally : RawSettings → Bool → WarriorParts → WarriorParts → Tally
contest_tally s false mine other = of_older (match_of s mine other)
contest_tally s true mine other = added (of_older (match_of s mine other)) (of_younger (match_of s other mine))
