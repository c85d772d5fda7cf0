-- The number that is given, or the default.
use Rattle.{std.proofs.Common.{◌∙◌, ℕ, Option, ap}, std.specs.Prelude.unwrap_or}
use Rattle.koth_words.proofs.options.number_given.Goals as goal

pub returns : goal.returns
returns c = c.unwrap_or.ensures ∙ ap (λ (given : Option ℕ). unwrap_or given c.args.default) c.number_if_given.ensures
