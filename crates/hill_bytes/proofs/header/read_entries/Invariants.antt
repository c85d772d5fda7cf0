-- The entries so far are those that stand in the places.
use Rattle.{std.proofs.Common.{◌≡◌, ℕ, ◌^◌, ◌<◌, ◌++◌, List, length, take, drop, All}, hill_bytes.specs.{declared.header.HeaderEntry.HeaderEntry, Layout.entry_places}}
use Rattle.hill_bytes.proofs.header.read_entries.Given as goal

abbrev pub invariant-loop-i : goal.invariant-loop-i
invariant-loop-i l = record {
  read : (es : List HeaderEntry) (rest : List ℕ) → length es ≡ l.count → All (λ e. (e.entry < 2 ^ 64) × (e.age < 2 ^ 64)) es
      → drop 50 l.bytes ≡ entry_places 20 es ++ rest → take l.i l.places ≡ take l.i es;
  len : length l.places ≡ 20;
}
