-- What a command takes from its input, and its three streams.
use Rattle.std.specs.{Prelude.{ℕ, ◌<◌, ◌≤◌, Bool, true, false, Option, None, List, length}, Io.KnownBytes.{Consumes, IsAtEnd, Keeps}}
use Rattle.koth_words.specs.{Sources.{Place}, declared.requests.Source.{Source}}

-- bytes of a source that are read: one more than a source may have
abbrev pub read_limit : ℕ
read_limit = 65537

-- a source was taken: all that the input had, or as much as is read at most
pub record Takes (old new : Option (List ℕ)) (source : List ℕ) : Type 0 where
  pub bytes : Consumes old new source
  pub most : length source ≤ read_limit
  pub whole : length source < read_limit → IsAtEnd new

-- some bytes were taken, or none
abbrev pub TakesSome : Option (List ℕ) → Option (List ℕ) → Type 0
TakesSome old new = (taken : List ℕ) × Consumes old new taken

-- whether a place is the input
abbrev pub at_input : Place → Bool
at_input (Place.Input name) = true
at_input (Place.File file) = false

-- what messages call a source at this place
abbrev pub name_at : Place → List ℕ
name_at (Place.Input name) = name
name_at (Place.File file) = file

-- whether a source is standard input
abbrev pub is_input : Source → Bool
is_input (Source.Input name) = true
is_input (Source.File path) = false

-- what messages call a source
abbrev pub source_name : Source → List ℕ
source_name (Source.Input name) = name.now
source_name (Source.File path) = path.now

-- what is done to a reader, by what that has left before and after, is done to the input, or else to a file, of which
-- no bytes are known, and the input stays
abbrev pub From : Bool → (Option (List ℕ) → Option (List ℕ) → Type 0) → Option (List ℕ) → Option (List ℕ) → Type 0
From true Reads old new = Reads old new
From false Reads old new = Reads None None × Keeps old new

-- the bytes of the three streams: those that the input has left, and those that the others hold
pub record Streams : Type 0 where
  pub input : Option (List ℕ)
  pub output : Option (List ℕ)
  pub errors : Option (List ℕ)

abbrev pub streams : Option (List ℕ) → Option (List ℕ) → Option (List ℕ) → Streams
streams input output errors = record { input = input; output = output; errors = errors }

-- the streams of a command that reads nothing from the input
abbrev pub unread : Streams → Streams
unread s = streams None s.output s.errors
