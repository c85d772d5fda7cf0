-- What the command `explain` writes, and how it ends.
use Rattle.std.specs.Prelude.{◌≡◌, ◌⊎◌, ℕ, Option, List, [], Result, Ok, Err}
use Rattle.{koth_kinds.specs.Explained.Explains, koth_commands.specs.{Answer.{AnswerParts, EndsAs}, Streams.Streams, Trouble.no_memory}}
use Rattle.koth_commands.specs.declared.{status.Status.Status, trouble.{Fault.Fault, Trouble.Trouble}}

-- what the kinds of this name mean is answered, or that no kind has it, or memory ran out
abbrev pub IsExplained : Option (List ℕ) → Result AnswerParts Trouble → Type 0
IsExplained name (Ok answer) = (answer.status ≡ Status.Done) × Explains name answer.text × (answer.note ≡ [])
IsExplained name (Err trouble) = (trouble ≡ no_memory) ⊎ ((trouble.fault ≡ Fault.NoKind) × Explains name [])

-- how `explain` ends
abbrev pub EndsExplain : Option (List ℕ) → Status → Streams → Streams → Type 0
EndsExplain name status before after = EndsAs (λ i j. IsExplained name) status before after
