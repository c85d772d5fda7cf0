-- The commands of a session.
use Rattle.std.specs.{Prelude.{ℕ, if◌then◌else◌, List, [], ◌∷◌, ◌++◌, take, Option, None, Some, codes}, Str.bytes_eq}
use Rattle.koth_protocol.specs.{Lines.{lines_of, without_dot}, Request.is_foreign, declared.script.Word.Word}

pub data Command : Type 0 where
  Submit : List ℕ → Command
  Show : Command
  Quit : Command
  Bad : Command

-- of a source over 65,536 bytes 65,537 are kept
abbrev pub kept_source : List ℕ → List ℕ
kept_source source = take 65537 source

-- what a line asks for if a command is due
abbrev pub word_of : List ℕ → Word
word_of line =
    if bytes_eq line (codes "SUBMIT") then Word.Submit else (
    if bytes_eq line (codes "SHOW") then Word.Show else (
    if bytes_eq line (codes "QUIT") then Word.Quit else (
    if is_foreign line then Word.Request else Word.Other)))

-- who reads: a session takes the request of a browser as a line that is no command, and a service reads no further
pub data Reader : Type 0 where
  Session : Reader
  Service : Reader

abbrev pub from_request : Reader → List Command → List Command
from_request Reader.Session others = Bad ∷ others
from_request Reader.Service others = []

-- a command line in front of other commands; after `SUBMIT` the lines are the source's
abbrev pub commands_by : Reader → Word → List Command → List Command → List Command
commands_by reader Word.Submit behind others = behind
commands_by reader Word.Show behind others = Show ∷ others
commands_by reader Word.Quit behind others = Quit ∷ []
commands_by reader Word.Request behind others = from_request reader others
commands_by reader Word.Other behind others = Bad ∷ others

-- a source with one more line
abbrev pub with_line : List ℕ → List ℕ → List ℕ
with_line source line = source ++ without_dot line ++ 10 ∷ []

-- the commands of these lines, after the beginning of a source or while a command is due; a source without its last
-- line is none
abbrev pub read_from : Reader → Option (List ℕ) → List (List ℕ) → List Command
read_from reader source [] = []
read_from reader None (line ∷ lines) = commands_by reader (word_of line) (read_from reader (Some []) lines) (read_from reader None lines)
read_from reader (Some source) (line ∷ lines) =
    if bytes_eq line (codes ".") then Submit (kept_source source) ∷ read_from reader None lines
    else read_from reader (Some (with_line source line)) lines

-- the commands of these bytes, up to the first `QUIT`
abbrev pub commands_read : Reader → List ℕ → List Command
commands_read reader bytes = read_from reader None (lines_of bytes)

-- as a session reads them
abbrev pub commands_of : List ℕ → List Command
commands_of bytes = commands_read Reader.Session bytes

-- and as a service does: no command after the request of a browser is among them
abbrev pub commands_served : List ℕ → List Command
commands_served bytes = commands_read Reader.Service bytes
