-- What the streams of a session tell of it: the commands that came, and their answers on the hill with which it began.
use Rattle.std.specs.Prelude.{◌≡◌, ◌⊎◌, ℕ, ◌≤◌, List, [], ◌∷◌, ◌++◌, length, Option, None, Some}
use Rattle.std.specs.Io.KnownBytes.{Appends, Consumes, IsAtEnd, Keeps}
use Rattle.{koth_hill.specs.Kept.Kept, hill_store.specs.Seen.MayBeSpent}
use Rattle.koth_protocol.specs.{Commands.{Command, commands_of}, Written.WritesPart}
use Rattle.koth_session.specs.Transcript.{Exchange, answer, command_in, commands_in, hill_after, transcript}
use Rattle.koth_session.specs.declared.sessions.SessionEnd.{SessionEnd}

-- all commands in the bytes that were taken were answered
abbrev pub SpeaksAll : Kept → List ℕ → Option (List ℕ) → Option (List ℕ) → Type 0
SpeaksAll hill taken old new =
    (es : List Exchange) × (commands_of taken ≡ commands_in es) × Appends old new (transcript hill es)

-- those before this one were answered, and nothing after them was written
abbrev pub SpeaksTo : Command → Kept → List ℕ → Option (List ℕ) → Option (List ℕ) → Type 0
SpeaksTo command hill taken old new =
    (es : List Exchange) × (behind : List Command) × (commands_of taken ≡ commands_in es ++ (command ∷ behind))
    × Appends old new (transcript hill es)

-- of the answers to these and one more a part was written: all but the last answer, and that from its beginning on
abbrev pub SpeaksPart : Kept → List ℕ → Option (List ℕ) → Option (List ℕ) → Type 0
SpeaksPart hill taken old new =
    (es : List Exchange) × (e : Exchange) × (behind : List Command)
    × (commands_of taken ≡ commands_in es ++ (command_in e ∷ behind))
    × (sent : Option (List ℕ)) × Appends old sent (transcript hill es)
    × WritesPart sent new (answer (hill_after hill es) e)

-- a session on a store with this hill ended so, after these bytes were taken
abbrev pub SpeaksSo : Option ℕ → Kept → Option SessionEnd → List ℕ → Option (List ℕ) → Option (List ℕ)
    → Option (List ℕ) → Type 0
SpeaksSo steps hill (Some SessionEnd.Quit) taken left old new = SpeaksTo Command.Quit hill taken old new
SpeaksSo steps hill (Some SessionEnd.EndOfInput) taken left old new = IsAtEnd left × SpeaksAll hill taken old new
SpeaksSo steps hill (Some SessionEnd.ReadFault) taken left old new = SpeaksAll hill taken old new
SpeaksSo steps hill (Some SessionEnd.WriteFault) taken left old new = SpeaksPart hill taken old new
SpeaksSo steps hill (Some SessionEnd.Limit) taken left old new =
    (length taken ≡ 16777216) × SpeaksAll hill taken old new
SpeaksSo steps hill (Some SessionEnd.StoreFailed) taken left old new =
    (source : List ℕ) × SpeaksTo (Command.Submit source) hill taken old new
SpeaksSo steps hill (Some SessionEnd.Memory) taken left old new =
    ((taken ≡ []) × Keeps old new) ⊎ SpeaksTo Command.Show hill taken old new
SpeaksSo steps hill None taken left old new =
    (source : List ℕ) × MayBeSpent steps source × SpeaksTo (Command.Submit source) hill taken old new

-- bytes were taken of the input, 16,777,216 at most, and the session ended so
abbrev pub Speaks : Option ℕ → Kept → Option SessionEnd → Option (List ℕ) → Option (List ℕ) → Option (List ℕ)
    → Option (List ℕ) → Type 0
Speaks steps hill end had left old new =
    (taken : List ℕ) × Consumes had left taken × (length taken ≤ 16777216) × SpeaksSo steps hill end taken left old new
