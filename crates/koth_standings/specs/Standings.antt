-- The rounds of each warrior of a field in some matches, each of which is the match of a pair.
use Rattle.std.specs.{Prelude.{◌≡◌, ℕ, ◌+◌, ◌*◌, ◌≤◌, ◌==◌, if◌then◌else◌, List, map, length, get_or, set, All}, List.{range_with_len, sum_by}}
use Rattle.{koth_text.specs.declared.tally.Tally.Tally, koth_standings.specs.{declared.pairs.Pair.Pair}}

abbrev pub tally : ℕ → ℕ → ℕ → Tally
tally won lost tied = record { won = won; lost = lost; tied = tied }

abbrev pub no_rounds : Tally
no_rounds = tally 0 0 0

-- the rounds of both
abbrev pub both : Tally → Tally → Tally
both a b = tally (a.won + b.won) (a.lost + b.lost) (a.tied + b.tied)

-- the same rounds from the other side
abbrev pub turned : Tally → Tally
turned t = tally t.lost t.won t.tied

abbrev pub rounds_in : Tally → ℕ
rounds_in t = t.won + t.lost + t.tied

-- no match has more rounds: it is played in two orders at most, and 16 bits count the rounds of each
abbrev pub most_rounds : ℕ
most_rounds = 131070

-- no field has more matches
abbrev pub most_matches : ℕ
most_matches = 4294967296

-- the rounds of one place in the match of a pair, whose rounds are given from the side of the older: none if it isn't
-- one of the pair
abbrev pub rounds_of_side : ℕ → Pair → Tally → Tally
rounds_of_side place p t = if place == p.older then t else (if place == p.younger then turned t else no_rounds)

-- the rounds of one place in the matches of these pairs: the sums over these
abbrev pub rounds_of : (Pair → Tally) → List Pair → ℕ → Tally
rounds_of match_of ps place = tally (sum_by (λ p. (rounds_of_side place p (match_of p)).won) ps)
    (sum_by (λ p. (rounds_of_side place p (match_of p)).lost) ps)
    (sum_by (λ p. (rounds_of_side place p (match_of p)).tied) ps)

-- the rounds of each place of a field of n in the matches of these pairs
abbrev pub counts_of : (Pair → Tally) → ℕ → List Pair → List Tally
counts_of match_of n ps = map (rounds_of match_of ps) (range_with_len 0 n)

-- the rounds of each place, and how many matches they are of
pub record StandingsParts : Type 0 where
  pub counts : List Tally
  pub matches : ℕ

abbrev pub standings_parts : List Tally → ℕ → StandingsParts
standings_parts counts matches = record { counts = counts; matches = matches }

-- the rounds at a place
abbrev pub at_place : List Tally → ℕ → Tally
at_place counts place = get_or counts place no_rounds

-- the counts with the match of one pair more
abbrev pub with_match : List Tally → Pair → Tally → List Tally
with_match counts p t =
    set (set counts p.older (both (at_place counts p.older) t)) p.younger (both (at_place counts p.younger) (turned t))

-- what standings keep: no place has more rounds than its matches may have
pub record AreStandings (s : StandingsParts) : Type 0 where
  pub rounds : All (λ t. rounds_in t ≤ most_rounds * s.matches) s.counts
  pub few : s.matches ≤ most_matches

-- the standings of a field of n after the matches of these pairs
pub record AreOf (match_of : Pair → Tally) (n : ℕ) (ps : List Pair) (s : StandingsParts) : Type 0 where
  pub counts : s.counts ≡ counts_of match_of n ps
  pub matches : s.matches ≡ length ps
