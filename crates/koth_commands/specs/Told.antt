-- What is reported on standard error.
use Rattle.std.specs.Prelude.{◌⊎◌, ℕ, Option, None, Some, List, ◌++◌, codes}
use Rattle.koth_text.specs.Written.{WritesPart}
use Rattle.koth_commands.specs.{Cause.cause_told, declared.cause.Cause.Cause, declared.telling.Apart.Apart, declared.telling.Apart.TheVariants.{Line, Blank, Colon}}

-- some text was written, from its beginning on
abbrev pub WritesSome : Option (List ℕ) → Option (List ℕ) → Type 0
WritesSome old new = (text : List ℕ) × WritesPart old new text

-- what stands between a word and the text after it
abbrev pub apart_text : Apart → List ℕ
apart_text Line = codes "\n"
apart_text Blank = codes " "
apart_text Colon = codes ": "

-- a word was written, then a line feed, a blank or a colon, and then a text; or a part of these if standard error
-- failed
pub record TellsWord (word : List ℕ) (old new : Option (List ℕ)) : Type 0 where
  pub apart : Apart
  pub text : List ℕ
  pub written : WritesPart old new (word ++ (apart_text apart ++ text))

-- a word was written alone on its line, or a part of that if standard error failed
abbrev pub TellsAlone : List ℕ → Option (List ℕ) → Option (List ℕ) → Type 0
TellsAlone word old new = WritesPart old new (word ++ codes "\n")

-- a word was written, followed by a blank and what failed and why if that is known; alone if it isn't, or if memory ran
-- out
abbrev pub TellsCause : List ℕ → Option Cause → Option (List ℕ) → Option (List ℕ) → Type 0
TellsCause word None old new = TellsAlone word old new
TellsCause word (Some cause) old new = TellsAlone word old new ⊎ WritesPart old new (word ++ (codes " " ++ cause_told cause))
