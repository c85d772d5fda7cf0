-- What is said is how the round ended.
use Rattle.{std.proofs.Common.{◌∙◌, ap}, koth_rounds.specs.Page.told_of}
use Rattle.koth_rounds.proofs.page.told_round.Goals as goal

pub returns-clause-told : goal.returns-clause-told
returns-clause-told g c = record {
  story = c.story_of-story.result;
  ends = rw c.place_of-place.ensures.place at c.story_of-story.ensures.story;
  tells = c.told_of.ensures ∙ ap (λ n. told_of c.args.settings.now n c.story_of-story.result) c.place_of-place.ensures.place;
}
