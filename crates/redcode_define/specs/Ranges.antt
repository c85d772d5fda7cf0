-- The numbers of a range.
use Rattle.std.specs.Prelude.{ℕ, ◌+◌, ◌-◌, ◌*◌, ◌<◌, ◌≤◌}
use Rattle.redcode_define.specs.declared.numbers.Range.{Range}

-- all numbers up to the last that are the first, or greater by steps: none is left out, and none is past the last; at most 10,000
pub record IsRange (last : ℕ) (range : Range) : Type 0 where
  pub some : 0 < range.count
  pub within : range.first + (range.count - 1) * range.step ≤ last
  pub whole : last < range.first + range.count * range.step
  pub few : range.count ≤ 10000
