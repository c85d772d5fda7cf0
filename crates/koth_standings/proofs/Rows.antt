-- Small fields, computed: the pairs written out, and counts added by hand.
use Rattle.std.proofs.Common.{◌≡◌, ◌==◌, if◌then◌else◌, [], ◌∷◌, refl}
use Rattle.{koth_text.specs.{declared.tally.Tally.Tally}, koth_standings.specs.{declared.pairs.Pair.Pair, Pairs.{pair, pairs}, Parts.{part_of, sums_of}, Standings.{counts_of, tally}, Ranking.points_at}}

no_field : pairs 0 ≡ []
no_field = refl

alone : pairs 1 ≡ []
alone = refl

-- six pairs of four warriors: nobody meets itself, and each two meet once
four : pairs 4 ≡ pair 0 1 ∷ pair 0 2 ∷ pair 0 3 ∷ pair 1 2 ∷ pair 1 3 ∷ pair 2 3 ∷ []
four = refl

-- the first wins 3 rounds, loses 1 and ties 2 against each; among the others the older one wins 5 and loses 1
abbrev match_of : Pair → Tally
match_of p = if p.older == 0 then tally 3 1 2 else tally 5 1 0

three : counts_of match_of 3 (pairs 3) ≡ tally 6 2 4 ∷ tally 6 4 2 ∷ tally 2 8 2 ∷ []
three = refl

-- 22 points before 20 and 8
points : points_at (counts_of match_of 3 (pairs 3)) 0 ≡ 22
points = refl

-- a match that is missing is in no count: without that of the first and the last
without : counts_of match_of 3 (pair 0 1 ∷ pair 1 2 ∷ []) ≡ tally 3 1 2 ∷ tally 6 4 2 ∷ tally 1 5 0 ∷ []
without = refl

-- three parts of six pairs: each pair is in one of them
first_of_three : part_of 1 3 (pairs 4) ≡ pair 0 1 ∷ pair 1 2 ∷ []
first_of_three = refl

second_of_three : part_of 2 3 (pairs 4) ≡ pair 0 2 ∷ pair 1 3 ∷ []
second_of_three = refl

third_of_three : part_of 3 3 (pairs 4) ≡ pair 0 3 ∷ pair 2 3 ∷ []
third_of_three = refl

-- a part may have no pairs
empty_part : part_of 8 9 (pairs 4) ≡ []
empty_part = refl

-- the counts of two parts add up to those of the field
joined : sums_of 3 (counts_of match_of 3 (part_of 1 2 (pairs 3)) ∷ counts_of match_of 3 (part_of 2 2 (pairs 3)) ∷ []) ≡ counts_of match_of 3 (pairs 3)
joined = refl
