-- How `fight --many` ends.
use Rattle.std.specs.{Prelude.{◌≡◌, ◌⊎◌, ◌<◌, ℕ, true, Option, None, List, [], ◌∷◌, ◌++◌, length, map, All, Result}, List.flat_map, Io.KnownBytes.{Appends, Consumes, IsAtEnd, Keeps}}
use Rattle.war_types.specs.{declared.settings.RawSettings.RawSettings, declared.settings.SettingsFault.SettingsFault}
use Rattle.{koth_text.specs.Written.WritesPart, koth_words.specs.declared.requests.Source.Source}
use Rattle.koth_commands.specs.{Answer.EndsGiven, Streams.Streams, Told.{TellsWord, WritesSome}, Trouble.fault_word, declared.{status.Status.Status, trouble.Fault.Fault}}
use Rattle.{koth_contests.specs.{Lines.Entrant, Met.TellsAfter, Opponents.AreFiles}, koth_field.specs.Field.IsField}
use Rattle.koth_candidates.specs.{Answers.answers_of, Sources.IsSent}

-- a candidate: the bytes that were taken, and the source that they are
pub record Candidate : Type 0 where
  pub bytes : List ℕ
  pub source : List ℕ

abbrev pub bytes_of : List Candidate → List ℕ
bytes_of candidates = flat_map (λ (c : Candidate). c.bytes) candidates

abbrev pub sources_of : List Candidate → List (List ℕ)
sources_of candidates = map (λ (c : Candidate). c.source) candidates

abbrev pub AreSent : List Candidate → Type 0
AreSent candidates = All (λ (c : Candidate). IsSent c.bytes c.source) candidates

-- what was taken from the input is these candidates and then these bytes; each candidate was answered by its line, and of
-- the next one maybe a part of its line
pub record Answers (s : RawSettings) (opponents : List Entrant) (candidates : List Candidate) (rest : List ℕ) (i j : Option (List ℕ)) : Type 0 where
  pub sent : AreSent candidates
  pub taken : Consumes i j (bytes_of candidates ++ rest)

-- how the candidates' answers end, by what the input has left and what the output and then standard error hold, before
-- and after: all of the input was taken and answered; or it ends within a source; or a stream failed, or memory ran out
abbrev pub EndsAnswers : RawSettings → List Entrant → Status → Option (List ℕ) → Option (List ℕ) → Option (List ℕ) → Option (List ℕ) → Option (List ℕ) → Option (List ℕ) → Type 0
EndsAnswers s opponents Status.Done i j o p e f = (cs : List Candidate) × Answers s opponents cs [] i j × IsAtEnd j
    × Appends o p (answers_of s opponents (sources_of cs)) × Keeps e f
EndsAnswers s opponents Status.Refused i j o p e f = (cs : List Candidate) × ((rest : List ℕ) × Answers s opponents cs rest i j)
    × Appends o p (answers_of s opponents (sources_of cs)) × WritesSome e f
EndsAnswers s opponents Status.WordFault i j o p e f = ⊥
EndsAnswers s opponents Status.StreamFault i j o p e f = (cs : List Candidate) × ((rest : List ℕ) × Answers s opponents cs rest i j)
    × WritesPart o p (answers_of s opponents (sources_of cs)) × TellsWord (fault_word Fault.Stream) e f
EndsAnswers s opponents Status.NoMemory i j o p e f = (cs : List Candidate) × ((rest : List ℕ) × Answers s opponents cs rest i j)
    × WritesPart o p (answers_of s opponents (sources_of cs)) × TellsWord (fault_word Fault.Memory) e f

-- an opponent has no warrior, or there are too many, or memory ran out: nothing is answered, and standard error says why
abbrev pub NoField : Status → Option (List ℕ) → Option (List ℕ) → Option (List ℕ) → Option (List ℕ) → Type 0
NoField status o p e f = ((status ≡ Status.Refused) ⊎ (status ≡ Status.NoMemory)) × Keeps o p × WritesSome e f

-- the candidates are answered that were taken from the input, whatever that had
abbrev pub AnswersInput : RawSettings → List Entrant → Status → Option (List ℕ) → Option (List ℕ) → Option (List ℕ) → Option (List ℕ) → Type 0
AnswersInput s opponents status o p e f = (i : Option (List ℕ)) × ((j : Option (List ℕ)) × EndsAnswers s opponents status i j o p e f)

-- how the command ends with the opponents of these files: each has a warrior, and then the candidates are answered; or
-- nothing is
abbrev pub EndsWith : RawSettings → List (List ℕ) → Status → Option (List ℕ) → Option (List ℕ) → Option (List ℕ) → Option (List ℕ) → Type 0
EndsWith s files status o p e f =
    ((opponents : List Entrant) × IsField s files true opponents × ((d : Option (List ℕ)) × Keeps e d × AnswersInput s opponents status o p d f))
    ⊎ NoField status o p e f

-- how the command ends under settings, with the opponents of these words: as with those of the files for which they
-- stand; or nothing is answered
abbrev pub EndsCandidatesUnder : RawSettings → List Source → Status → Option (List ℕ) → Option (List ℕ) → Option (List ℕ) → Option (List ℕ) → Type 0
EndsCandidatesUnder s words status o p e f =
    ((files : List (List ℕ)) × AreFiles words files × EndsWith s files status o p e f) ⊎ NoField status o p e f

-- how the command ends: as under the settings that are given, with their refusal, or out of memory
abbrev pub EndsCandidates : List Source → Result RawSettings SettingsFault → Status → Streams → Streams → Type 0
EndsCandidates words settings status before after =
    EndsGiven (λ s end u v. EndsCandidatesUnder s words end u.output v.output u.errors v.errors) settings status before after
