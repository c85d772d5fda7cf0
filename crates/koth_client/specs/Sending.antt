-- What a client sends.
use Rattle.std.specs.{Prelude.{◌≡◌, ℕ, ◌&&◌, ◌==◌, Bool, true, false, if◌then◌else◌, List, [], ◌∷◌, ◌++◌, Option}, List.flat_map}
use Rattle.koth_protocol.specs.{Commands.{Command, Reader, commands_read}, Lines.lines_of, Written.WritesPart}

-- what ends the last line, unless a line starts
abbrev pub line_end : Bool → List ℕ
line_end true = []
line_end false = 10 ∷ []

-- these bytes with a line feed (byte 10) at the end of a last line that has none; first, whether a line starts
abbrev pub ended_from : Bool → List ℕ → List ℕ
ended_from starts [] = line_end starts
ended_from starts (byte ∷ bytes) = byte ∷ ended_from (byte == 10) bytes

-- a source with a line feed at the end of its last line
abbrev pub ended : List ℕ → List ℕ
ended source = ended_from true source

-- a source as a session takes it: its lines, as lines are read, each without a carriage return at its end
abbrev pub lines_taken : List ℕ → List ℕ
lines_taken source = flat_map (λ line. line ++ 10 ∷ []) (lines_of (ended source))

-- a byte as it is sent: a dot (byte 46) with which a line starts has another one before it
abbrev pub byte_sent : Bool → ℕ → List ℕ
byte_sent starts byte = if starts && byte == 46 then 46 ∷ byte ∷ [] else byte ∷ []

-- the lines of these bytes as they are sent
abbrev pub dotted_from : Bool → List ℕ → List ℕ
dotted_from starts [] = line_end starts
dotted_from starts (byte ∷ bytes) = byte_sent starts byte ++ dotted_from (byte == 10) bytes

-- whoever reads it, a session or a service, this text asks for this command, and then for the end
abbrev pub AsksAlone : Command → List ℕ → Type 0
AsksAlone command text = (reader : Reader) → commands_read reader text ≡ command ∷ Command.Quit ∷ []

-- this command was asked for, and nothing else, by a text that was written, or the beginning of one
abbrev pub Asks : Command → Option (List ℕ) → Option (List ℕ) → Type 0
Asks command old new = (text : List ℕ) × AsksAlone command text × WritesPart old new text
