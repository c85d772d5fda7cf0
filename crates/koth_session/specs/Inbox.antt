-- What came from a peer, and which commands of it are due.
use Rattle.std.specs.Prelude.{◌≡◌, ⊤, ℕ, ◌-◌, ◌≤◌, min, Bool, true, false}
use Rattle.std.specs.Prelude.{List, [], ◌∷◌, ◌++◌, length, Option}
use Rattle.koth_protocol.specs.{Commands.{Command, Reader, commands_read, read_from}, Lines.lines_from}
use Rattle.koth_protocol.specs.{Reading.{IsReading, commands_met}, declared.script.Met.Met}
use Rattle.koth_session.specs.declared.inbox.Inbox.{Inbox}
use Rattle.koth_protocol.specs.declared.script.Met.TheVariants as met

-- a command was met
abbrev pub is_met : Met → Bool
is_met met.Nothing = false
is_met met.Submit = true
is_met met.Show = true
is_met met.Quit = true
is_met met.Request = true
is_met met.Bad = true

-- a browser's request was met
abbrev pub is_request : Met → Bool
is_request met.Nothing = false
is_request met.Submit = false
is_request met.Show = false
is_request met.Quit = false
is_request met.Request = true
is_request met.Bad = false

-- a submission was met
abbrev pub is_submission : Met → Bool
is_submission met.Nothing = false
is_submission met.Submit = true
is_submission met.Show = false
is_submission met.Quit = false
is_submission met.Request = false
is_submission met.Bad = false

-- what was met is a command for this reader
abbrev pub IsTaken : Reader → Met → Type 0
IsTaken Reader.Session m = ⊤
IsTaken Reader.Service m = is_request m ≡ false

-- bytes that may come now
abbrev pub room_of : {A : Type 0} → Inbox A → ℕ
room_of inbox = min (4096 - length inbox.waiting) (16777216 - inbox.taken)

-- These bytes came, and these commands that a reader finds in them were carried out. The bytes but for those that wait
-- were read: with whatever comes next their commands are those that were carried out, the one that was met, and the
-- commands of what comes.
pub record IsFollowed {A : Type 0} (reader : Reader) (inbox : Inbox A) (came : List ℕ)
    (done : List Command) : Type 0 where
  pub line : List ℕ
  pub source : Option (List ℕ)
  pub reading : IsReading inbox.script line source
  pub upto : List ℕ
  pub split : came ≡ upto ++ inbox.waiting
  pub commands : (more : List ℕ) → commands_read reader (upto ++ more)
      ≡ done ++ commands_met reader inbox.due inbox.script.source (read_from reader source (lines_from line more))
  pub taken : inbox.taken ≡ length came
  pub few : length came ≤ 16777216

-- and the bytes were read up to the next command: if none was met, no byte waits
pub record IsReadTo {A : Type 0} (reader : Reader) (inbox : Inbox A) (came : List ℕ)
    (done : List Command) : Type 0 where
  pub followed : IsFollowed reader inbox came done
  pub read : is_met inbox.due ≡ false → inbox.waiting ≡ []

-- what was met is this command, whatever comes after it
abbrev pub IsNext : Reader → Met → List ℕ → Command → Type 0
IsNext reader met bytes command =
    (others : List Command) → commands_met reader met bytes others ≡ command ∷ others
