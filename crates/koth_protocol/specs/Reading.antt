-- How the commands are found as bytes come.
use Rattle.std.specs.{Prelude.{◌≡◌, ℕ, ⊤, Bool, true, false, List, [], ◌∷◌, ◌++◌, Option, None, Some, codes}, Str.bytes_eq}
use Rattle.koth_protocol.specs.{Commands.{Command, Reader, from_request, kept_source, read_from, word_of}, Kept.kept, Lines.{lines_from, without_dot}, declared.script.Met.Met, declared.script.Script.Script}
use Rattle.koth_protocol.specs.declared.script.Word.{Word}
use Rattle.koth_protocol.specs.declared.script.Met.TheVariants as met

-- these bytes are kept of the source under way
abbrev pub IsSourceKept : Bool → List ℕ → Option (List ℕ) → Type 0
IsSourceKept true bytes (Some source) = kept_source bytes ≡ kept_source source
IsSourceKept true bytes None = ⊥
IsSourceKept false bytes (Some source) = ⊥
IsSourceKept false bytes None = ⊤

-- what is kept of the beginning of a line, and of the source under way
pub record IsReading {A : Type 0} (script : Script A) (line : List ℕ) (source : Option (List ℕ)) : Type 0 where
  pub line_kept : script.line ≡ kept line
  pub source_kept : IsSourceKept script.in_source script.source source

-- what was met just now, with these bytes of a source, in front of other commands
abbrev pub commands_met : Reader → Met → List ℕ → List Command → List Command
commands_met reader met.Nothing bytes others = others
commands_met reader met.Submit bytes others = Command.Submit (kept_source bytes) ∷ others
commands_met reader met.Show bytes others = Command.Show ∷ others
commands_met reader met.Quit bytes others = Command.Quit ∷ []
commands_met reader met.Request bytes others = from_request reader others
commands_met reader met.Bad bytes others = Command.Bad ∷ others

-- what a byte makes of a reading: the commands of the bytes from it on are the one that was met, and those of the
-- reading after it
pub record Reads {A : Type 0} (line : List ℕ) (source : Option (List ℕ)) (byte : ℕ) (met : Met) (script : Script A) : Type 0 where
  pub new_line : List ℕ
  pub new_source : Option (List ℕ)
  pub reading : IsReading script new_line new_source
  pub commands : (reader : Reader) (more : List ℕ) → read_from reader source (lines_from line (byte ∷ more))
      ≡ commands_met reader met script.source (read_from reader new_source (lines_from new_line more))

-- what a line does if a command is due
abbrev pub TakesCommand : List ℕ → Met → Bool → List ℕ → Type 0
TakesCommand line met.Nothing in_source bytes = (word_of line ≡ Word.Submit) × (in_source ≡ true) × (bytes ≡ [])
TakesCommand line met.Submit in_source bytes = ⊥
TakesCommand line met.Show in_source bytes = (word_of line ≡ Word.Show) × (in_source ≡ false)
TakesCommand line met.Quit in_source bytes = (word_of line ≡ Word.Quit) × (in_source ≡ false)
TakesCommand line met.Request in_source bytes = (word_of line ≡ Word.Request) × (in_source ≡ false)
TakesCommand line met.Bad in_source bytes = (word_of line ≡ Word.Other) × (in_source ≡ false)

-- what a line does to the source under way
abbrev pub TakesSourceLine : List ℕ → List ℕ → Met → Bool → List ℕ → Type 0
TakesSourceLine line old met.Nothing in_source bytes = (bytes_eq line (codes ".") ≡ false) × (in_source ≡ true)
    × (bytes ≡ kept (kept (old ++ without_dot line) ++ 10 ∷ []))
TakesSourceLine line old met.Submit in_source bytes = (bytes_eq line (codes ".") ≡ true) × (in_source ≡ false) × (bytes ≡ old)
TakesSourceLine line old met.Show in_source bytes = ⊥
TakesSourceLine line old met.Quit in_source bytes = ⊥
TakesSourceLine line old met.Request in_source bytes = ⊥
TakesSourceLine line old met.Bad in_source bytes = ⊥
