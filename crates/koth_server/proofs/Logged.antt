-- What a service reports stands on standard error.
use Rattle.{std.proofs.Common.{ℕ, List, Option, refl}, koth_service.specs.Told.Grows, koth_commands.specs.Told.WritesSome, koth_commands.proofs.Told.whole_part}

pub is_log : (a b : Option (List ℕ)) → Grows a b → WritesSome a b
is_log a b (text, grows) = (text, whole_part a b text text refl grows)

pub is_told : (a b : Option (List ℕ)) → WritesSome a b → Grows a b
is_told a b (text, part) = (part.part, part.written)
