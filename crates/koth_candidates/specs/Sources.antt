-- The sources of candidates, as they come on the input: each as a session sends it behind its line SUBMIT.
use Rattle.std.specs.{Prelude.{◌≡◌, ◌<◌, ℕ, Option, Some, None, List, [], ◌∷◌, ◌++◌, codes, length, Result, Ok, Err}, Io.KnownBytes.{Consumes, IsAtEnd, Keeps}}
use Rattle.koth_protocol.specs.{Commands.{Command, Reader, commands_of, kept_source, read_from}, Lines.lines_from, Reading.IsReading, declared.script.Script.Script}
use Rattle.koth_commands.specs.{Trouble.IsReadFault, declared.trouble.Trouble.Trouble}
use Rattle.koth_candidates.specs.declared.sources.Taken.{Taken}

-- the line before the source in a session
abbrev pub opening : List ℕ
opening = codes "SUBMIT\n"

-- these bytes are one whole source: a session that has them behind such a line has one submission, of this source
abbrev pub IsSent : List ℕ → List ℕ → Type 0
IsSent bytes source = commands_of (opening ++ bytes) ≡ Command.Submit source ∷ []

-- what is read of a session's text so far
pub record IsAt {A : Type 0} (script : Script A) (text : List ℕ) : Type 0 where
  pub line : List ℕ
  pub source : Option (List ℕ)
  pub reading : IsReading script line source
  pub rest : (more : List ℕ) → read_from Reader.Session None (lines_from [] (text ++ more)) ≡ read_from Reader.Session source (lines_from line more)

-- a source was taken from the input, by what that has left before and after
abbrev pub TakesSource : List ℕ → Option (List ℕ) → Option (List ℕ) → Type 0
TakesSource source i j = (bytes : List ℕ) × IsSent bytes source × Consumes i j bytes

-- what is taken next: a source; nothing, where the input is at its end; the beginning of a source, where the input ends
-- in it; or a part of one, since the input failed or memory ran out
abbrev pub TakesNext : {A : Type 0} → Result (Taken A) Trouble → Option (List ℕ) → Option (List ℕ) → Type 0
TakesNext (Ok (Taken.Source script)) i j = TakesSource (kept_source script.source) i j
TakesNext (Ok Taken.End) i j = Consumes i j [] × IsAtEnd j
TakesNext (Ok Taken.Cut) i j = (bytes : List ℕ) × Consumes i j bytes
TakesNext (Err trouble) i j = IsReadFault trouble × ((bytes : List ℕ) × Consumes i j bytes)

-- one byte is read, or none at the end of the input; or the input failed
abbrev pub ReadsByte : Result (Option ℕ) Trouble → Option (List ℕ) → Option (List ℕ) → Type 0
ReadsByte (Ok (Some byte)) i j = Consumes i j (byte ∷ [])
ReadsByte (Ok None) i j = Consumes i j [] × IsAtEnd j
ReadsByte (Err trouble) i j = IsReadFault trouble × ((bytes : List ℕ) × Consumes i j bytes)
