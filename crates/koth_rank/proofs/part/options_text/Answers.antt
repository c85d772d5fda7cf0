-- The options come one after the other.
use Rattle.{std.proofs.Common.{[], ◌∙◌, ◌++◌, ap, ap₂}, std.specs.Prelude.string_bytes, koth_rank.{specs.Part.{bounds_text, sizes_text}, proofs.Parts.{put_three}}}
use Rattle.koth_rank.proofs.part.options_text.Goals as goal

pub returns : goal.returns
returns g c =
    let given = c.given_as-given.ensures.value in
    let first = c.in_ok-put_sizes.ensures ∙ ap₂ (λ a b. a ++ sizes_text b) c.new-text.ensures.bytes given in
    let second = c.in_ok-put_bounds.ensures ∙ ap (λ b. string_bytes c.put_sizes.new.text ++ bounds_text b) given in
    let third = c.in_ok-push_str.ensures.bytes ∙ ap (λ l. string_bytes c.put_bounds.new.text ++ l) c.both_text.ensures in
    put_three [] _ _ _ _ _ _ first second third
