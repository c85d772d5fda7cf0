-- Of the code alone: the core in the words of its cells, and the list of those that were written. No definition of
-- turns and rounds names a word of this file.
use Rattle.std.specs.Prelude.{◌≡◌, ℕ, ◌<◌, ◌≤◌, Bool, true, false, List, length, map, slice_index, count_by, All}
use Rattle.war_types.specs.declared.instr.Instr.{Instr}
use Rattle.{mars_words.specs.Words.{word_in, IsWord}, mars_operations.specs.Cells.blank}

-- the core in these cells
abbrev pub core_in : List ℕ → List Instr
core_in cells = map (λ bits. (word_in bits).instr) cells

abbrev pub is_marked : ℕ → Bool
is_marked bits = (word_in bits).is_marked

-- the address stands in the list at one of the places from the first on and before the last
abbrev pub IsListed : ℕ → ℕ → ℕ → List ℕ → Type 0
IsListed at first last written = (place : ℕ) × (first ≤ place) × (place < last) × (slice_index written place ≡ at)

-- what holds of a core's cells and of the list of those that were written, whose first `count` places count: a cell
-- that isn't marked is blank, a marked one is listed, and there are as many marked ones as are listed
pub record AreCells (cells written : List ℕ) (count : ℕ) : Type 0 where
  pub small : length cells ≤ 65535
  pub room : length written ≡ length cells
  pub words : All IsWord cells
  pub blanks : All (λ bits. is_marked bits ≡ false → (word_in bits).instr ≡ blank) cells
  pub listed : (at : ℕ) → at < length cells → is_marked (slice_index cells at) ≡ true → IsListed at 0 count written
  pub inside : (place : ℕ) → place < count → slice_index written place < length cells
  pub as_many : count ≡ count_by is_marked cells
