-- What `create` answers.
use Rattle.std.specs.Prelude.{◌≡◌, ◌⊎◌, ℕ, Bool, true, false, List, [], IsErrAnd, codes}
use Rattle.war_types.specs.{Settings.settings_of, declared.settings.RawSettings.RawSettings}
use Rattle.{koth_match.specs.Seeds.IsSeed, koth_commands.specs.{Answer.{AnswerParts, answer_parts}, declared.status.Status.Status}}
use Rattle.{koth_files.specs.Trouble.IsOfHill, koth_keeping.specs.{Answers.{Answers, AnswersGiven, Outcome}, Seed.seed_hint}}

-- the line of a hill that was made, and then a hint as a note
abbrev pub SaysCreated : List ℕ → AnswerParts → Type 0
SaysCreated hint answer = answer ≡ answer_parts Status.Done (codes "CREATED\n") hint

-- so it is under the settings that are given
abbrev pub MayMake : List ℕ → RawSettings → Outcome → Type 0
MayMake hint given outcome = AnswersGiven (λ s. Answers (SaysCreated hint)) (settings_of given) outcome

-- What `create` answers, with a hint if the settings that are given have the default seed. If the seed is drawn, in place
-- of theirs, there is no hint, and the source of random numbers may fail.
abbrev pub MayCreate : Bool → RawSettings → Outcome → Type 0
MayCreate false given outcome = MayMake (seed_hint given.seed) given outcome
MayCreate true given outcome = ((seed : ℕ) × IsSeed seed × MayMake [] (record given { seed = seed }) outcome) ⊎ IsErrAnd outcome IsOfHill
