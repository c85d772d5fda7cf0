-- One step after another, up to the first fault.
use Rattle.std.specs.Prelude.{Result, Ok, Err}

infixl 10 ◌>>=◌
abbrev pub ◌>>=◌ : {X Y E : Type 0} → Result X E → (X → Result Y E) → Result Y E
(Ok x) >>= f = f x
(Err fault) >>= f = Err fault
