-- The text is what the matches have.
use Rattle.{std.proofs.Common.{◌↔◌, subst}, std.specs.Prelude.IsTrue, koth_words.specs.Words.WritesAddress, koth_words.proofs.Addresses.given_is}
use Rattle.koth_words.proofs.serving.has_address.Goals as goal

pub returns-in-Some : goal.returns-in-Some
returns-in-Some c =
    subst (λ t. IsTrue c.writes_address.result ↔ WritesAddress t) (given_is c.text_given.result c.in-Some.text _ c.text_given.ensures c.in-Some.is) c.writes_address.ensures
