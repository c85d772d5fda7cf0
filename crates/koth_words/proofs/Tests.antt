-- Two tests, one after the other. For `unmet_need` and `unclear_hill`.
use Rattle.std.proofs.Common.{◌≡◌, ◌&&◌, Bool, true, false, true≢false, not, refl, sym}

pub first_fails : (a b : Bool) → true ≡ not a → true ≡ not (a && b)
first_fails true b fails = absurd (true≢false fails)
first_fails false b fails = refl

pub second_tells : (a b told : Bool) → false ≡ not a → told ≡ not b → told ≡ not (a && b)
second_tells true b told holds tells = tells
second_tells false b told holds tells = absurd (true≢false (sym holds))
