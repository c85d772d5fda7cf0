-- The parts of a field's pairs, as contests are shared out: of `count` parts, part `number`, from 1, has each pair whose
-- place among them, from 0, leaves `number - 1` by division by `count`.
use Rattle.std.specs.{Prelude.{◌≡◌, ℕ, zero, suc, ◌-◌, List, [], ◌∷◌, length, map, sum_by}, List.range_with_len}
use Rattle.{koth_text.specs.declared.tally.Tally.Tally, koth_standings.specs.{Pairs.{pairs, pairs_left}, Standings.{at_place, both, tally}}}
use Rattle.koth_standings.specs.declared.{pairs.Pair.Pair, parts.PairsOfPart.PairsOfPart}

-- of a list, one in `count`: the first that is taken comes after `skipped` others
abbrev pub each_nth : {X : Type 0} → ℕ → ℕ → List X → List X
each_nth count skipped [] = []
each_nth count zero (x ∷ xs) = x ∷ each_nth count (count - 1) xs
each_nth count (suc skipped) (x ∷ xs) = each_nth count skipped xs

-- part `number` of `count` parts of a list
abbrev pub part_of : {X : Type 0} → ℕ → ℕ → List X → List X
part_of number count xs = each_nth count (number - 1) xs

-- the pairs of a part that are left
abbrev pub part_left : PairsOfPart → List Pair
part_left p = each_nth p.count p.skipped (pairs_left p.left)

-- the numbers of `count` parts
abbrev pub numbers : ℕ → List ℕ
numbers count = range_with_len 1 count

-- each place has in some counts together what it has in each: the sums over these
abbrev pub sums_at : List (List Tally) → ℕ → Tally
sums_at parts place = tally (sum_by (λ c. (at_place c place).won) parts)
    (sum_by (λ c. (at_place c place).lost) parts) (sum_by (λ c. (at_place c place).tied) parts)

-- some counts of a field of n together
abbrev pub sums_of : ℕ → List (List Tally) → List Tally
sums_of n parts = map (sums_at parts) (range_with_len 0 n)

-- the parts share out a list: whatever is counted of its members, the parts have together what the list has. So each
-- member is in one part and in no other
abbrev pub SharesOut : {X : Type 0} → ℕ → List X → Type 0
SharesOut {X} count xs = (f : X → ℕ) → sum_by (λ number. sum_by f (part_of number count xs)) (numbers count) ≡ sum_by f xs

-- the counts of a field with those of one part more, place by place
abbrev pub added_up : List Tally → List Tally → List Tally
added_up counts part = map (λ place. both (at_place counts place) (at_place part place)) (range_with_len 0 (length counts))
