-- A limit of reading or writing is at most the size of the core.
use Rattle.std.proofs.{Common.{◌≡◌, ℕ, ◌%◌, ◌<◌, ◌≤◌, arith, mod-eq_of_lt}, lemmas.Bool.Decides.nat_tests}

pub divisor-most : (n d : ℕ) → 0 < n → n % d ≡ 0 → d ≤ n
divisor-most n d some divides = grind (arith, mod-eq_of_lt, nat_tests)
