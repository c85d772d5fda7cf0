-- What `copy` and `reseed` answer.
use Rattle.std.specs.Prelude.{◌≡◌, ◌⊎◌, Bool, true, Some, IfOk, codes}
use Rattle.koth_hill.specs.{Kept.{Kept, AreTrue}, declared.untrue.Untrue.Untrue}
use Rattle.{koth_words.specs.declared.requests.View.View, koth_commands.specs.Answer.AnswerParts, koth_keeping.specs.{Answers.{Outcome, SaysLine}, Audit.{IsAudited, audit_answer}}}

-- the answer to copying this hill, if it is to be audited or not: the line of a copy, and then each of its results is its match's; or what an
-- audit found
abbrev pub CopiesOf : Kept → Bool → AnswerParts → Type 0
CopiesOf hill audit answer =
    ((audit ≡ true → AreTrue hill) × SaysLine (codes "COPIED\n") answer)
    ⊎ ((audit ≡ true) × ((untrue : Untrue) × IsAudited hill (Some untrue) × (answer ≡ audit_answer View.Plain (Some untrue))))

-- the same of some hill
abbrev pub SaysCopied : Bool → AnswerParts → Type 0
SaysCopied audit answer = (hill : Kept) × CopiesOf hill audit answer

-- what `reseed` answers: its line, or a fault, as that of a seed that is out of its range
abbrev pub MayReseed : Outcome → Type 0
MayReseed outcome = IfOk outcome (SaysLine (codes "RESEEDED\n"))
