-- The shade of a cell: by how much one side is ahead.
use Rattle.std.specs.Prelude.{ℕ, ◌+◌, ◌*◌, nat_lt, if◌then◌else◌, List, ◌++◌, codes, decimal}
use Rattle.koth_text.specs.declared.tally.Tally.{Tally}

-- in which quarter of all rounds it lies by how many `one` is more than `other`, from 1 on
abbrev pub quarter : ℕ → ℕ → ℕ → ℕ
quarter one other all =
    if nat_lt (3 * all + 4 * other) (4 * one) then 4 else (
    if nat_lt (2 * all + 4 * other) (4 * one) then 3 else (
    if nat_lt (all + 4 * other) (4 * one) then 2 else 1))

abbrev pub all_rounds : Tally → ℕ
all_rounds r = r.won + r.lost + r.tied

-- the class of a cell: more rounds won, more lost, or as many
unfoldable pub shade : Tally → List ℕ
shade r =
    if nat_lt r.lost r.won then codes "w" ++ decimal (quarter r.won r.lost (all_rounds r)) else (
    if nat_lt r.won r.lost then codes "l" ++ decimal (quarter r.lost r.won (all_rounds r)) else codes "e")
