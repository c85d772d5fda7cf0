-- What a peer is given to send.
use Rattle.std.specs.Prelude.{ℕ, List}

-- the answers that aren't sent yet, and the number of bytes more for which there is memory
pub record Outgoing : Type 0 where
  pub unsent : List ℕ
  pub spare : ℕ
