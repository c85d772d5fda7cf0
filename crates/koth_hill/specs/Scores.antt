-- Points beside entries, and what their order is.
use Rattle.std.specs.Prelude.{ℕ, ◌+◌, ◌==◌, Bool, ◌||◌, ◌&&◌, nat_lt, if◌then◌else◌, List, [], ◌∷◌, length, map, count_by, Option, Some, None}
use Rattle.koth_hill.specs.{declared.score.Score.Score, Hill.{Member, Results, points}}

abbrev pub score_of : Results → List Member → Member → Score
score_of f all m = record { entry = m.entry; points = points f all m }

-- the scores of these, each among all of them
abbrev pub scores_of : Results → List Member → List Score
scores_of f all = map (score_of f all) all

-- more points, or as many and an earlier entry
abbrev pub outranks : Score → Score → Bool
outranks y x = nat_lt x.points y.points || ((y.points == x.points) && nat_lt y.entry x.entry)

-- 1 and the number of those above
abbrev pub rank_among : List Score → Score → ℕ
rank_among xs x = 1 + count_by (λ y. outranks y x) xs

-- the entry of the last rank
abbrev pub last_among : List Score → List Score → Option ℕ
last_among all [] = None
last_among all (x ∷ xs) = if rank_among all x == length all then Some x.entry else last_among all xs

-- those of one rank
abbrev pub of_rank : List Score → ℕ → List Score → List Score
of_rank all r [] = []
of_rank all r (x ∷ xs) = if rank_among all x == r then x ∷ of_rank all r xs else of_rank all r xs
