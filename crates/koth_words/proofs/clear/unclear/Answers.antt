-- Nothing is refused.
use Rattle.std.proofs.Common.{◌≡◌, Bool, true, false, not, refl}
use Rattle.koth_words.proofs.clear.unclear.Goals as goal

holds : (b : Bool) → false ≡ not b → b ≡ true
holds true e = refl
holds false e = e

pub returns-clause-clear : goal.returns-clause-clear
returns-clause-clear c none = (
  holds _ c.in_default.ensures,
  holds _ c.in_default-unknown_text.ensures,
  holds _ c.in_default-unclear_sources.ensures,
  holds _ c.in_default-unmet_need.ensures,
  c.if-not-has_address.ensures.0 refl,
)
