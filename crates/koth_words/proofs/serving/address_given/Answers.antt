-- The address is read from the text that the matches have, or from the default.
use Rattle.{std.proofs.Common.{refl, subst}, std.specs.Net.Grammar.{IsIpText, Parses}, koth_words.proofs.{Addresses.reads_address, Texts.file_text}}
use Rattle.koth_words.proofs.serving.address_given.Goals as goal

pub unwrap-requires : goal.unwrap-requires
unwrap-requires c =
    let text = file_text c.text_given.result _ c.unwrap_or-text.result _ c.unwrap_or-text.ensures refl c.text_given.ensures in
    reads_address _ c.parse.result c.requires (subst (λ t. Parses IsIpText t c.parse.result) text c.parse.ensures.value)

pub returns : goal.returns
returns c =
    let text = file_text c.text_given.result _ c.unwrap_or-text.result _ c.unwrap_or-text.ensures refl c.text_given.ensures in
    let parsed = subst (λ t. Parses IsIpText t c.parse.result) text c.parse.ensures.value in
    rw c.unwrap.ensures at parsed
