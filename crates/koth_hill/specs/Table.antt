-- The table of a hill.
use Rattle.std.specs.Prelude.{ℕ, ◌+◌, ◌==◌, if◌then◌else◌, zero, suc, List, [], ◌∷◌, ◌++◌, length}
use Rattle.koth_hill.specs.{declared.score.Score.Score, Hill.{Member, Hill, Results, fights}, Scores.{rank_among, scores_of}}

-- a line of the table
pub record RowParts : Type 0 where
  pub entry : ℕ
  pub name : List ℕ
  pub author : List ℕ
  pub score : ℕ
  pub age : ℕ

-- the line of a member with this score
abbrev pub row_with : ℕ → Member → RowParts
row_with score m = record { entry = m.entry; name = m.warrior.name; author = m.warrior.author; score = score; age = m.age }

-- the rows of those of one rank, each member beside its score
abbrev pub rows_of_rank : List Score → ℕ → List Member → List Score → List RowParts
rows_of_rank all r [] xs = []
rows_of_rank all r (m ∷ ms) [] = []
rows_of_rank all r (m ∷ ms) (x ∷ xs) = if rank_among all x == r then row_with x.points m ∷ rows_of_rank all r ms xs else rows_of_rank all r ms xs

-- the rows of a number of ranks from one on
abbrev pub rows_by_rank : List Score → List Member → ℕ → ℕ → List RowParts
rows_by_rank all ms r zero = []
rows_by_rank all ms r (suc n) = rows_of_rank all r ms all ++ rows_by_rank all ms (r + 1) n

-- the rows of these by rank
abbrev pub table_by : Results → List Member → List RowParts
table_by f ms = rows_by_rank (scores_of f ms) ms 1 (length ms)

-- the table of a hill: every pair fought again
unfoldable pub table : Hill → List RowParts
table h = table_by (fights h.settings) h.members
