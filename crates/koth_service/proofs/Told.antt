-- What a host writes grows on.
use Rattle.{std.proofs.{Common.{ℕ, List, [], ◌++◌, Option}, KnownBytes.{Appends-nil, Appends-trans}}, koth_service.specs.Told.Grows}

pub stays : (a : Option (List ℕ)) → Grows a a
stays a = ([], Appends-nil a)

pub grows_on : (a b c : Option (List ℕ)) → Grows a b → Grows b c → Grows a c
grows_on a b c (first, one) (second, other) = (first ++ second, Appends-trans a b c first second one other)
