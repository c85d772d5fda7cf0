-- The rounds of a match from one side.
use Rattle.std.specs.Prelude.{ℕ, ◌+◌, ◌*◌}
use Rattle.{koth_match.specs.declared.bout.Bout.Bout, koth_text.specs.declared.tally.Tally.Tally}

-- a result from the side of the older warrior
abbrev pub of_older : Bout → Tally
of_older b = record { won = b.older_wins; lost = b.younger_wins; tied = b.ties }

-- and from the side of the younger
abbrev pub of_younger : Bout → Tally
of_younger b = record { won = b.younger_wins; lost = b.older_wins; tied = b.ties }

-- what these rounds are worth, as a hill counts them
abbrev pub points_of : Tally → ℕ
points_of t = 3 * t.won + t.tied
