-- The sources that words name.
use Rattle.std.specs.Prelude.{ℕ, ◌+◌, Bool, if◌then◌else◌, List, [], codes, count_by, map, unwrap_or}
use Rattle.{std.specs.Str.bytes_eq, clap.specs.Words.{Row, Text, all_of, first_of}, koth_words.specs.declared.requests.Source.Source}

-- Where a source is read: at the input, by what messages call it, or in the file of this name.
pub data Place : Type 0 where
  Input : Text → Place
  File : Text → Place

abbrev pub place : Source → Place
place (Source.Input name) = Place.Input name.now
place (Source.File file) = Place.File file.now

-- `-`, which stands for the input
abbrev pub is_input : Text → Bool
is_input word = bytes_eq word (codes "-")

-- the place at a word, if messages call the input so
abbrev pub place_at : Text → Text → Place
place_at called word = if is_input word then Place.Input called else Place.File word

-- what messages call the input
abbrev pub input_name : List Row → Text
input_name given = unwrap_or (first_of (codes "name") given) (codes "standard input")

-- the words of this argument
abbrev pub words_in : Text → List Row → List Text
words_in name given = unwrap_or (all_of name given) []

-- the place that this argument names
abbrev pub place_named : Text → List Row → Place
place_named name given = place_at (input_name given) (unwrap_or (first_of name given) [])

-- the places that it names
abbrev pub places_named : Text → List Row → List Place
places_named name given = map (place_at (input_name given)) (words_in name given)

-- how many of its words are `-`
abbrev pub inputs_at : Text → List Row → ℕ
inputs_at name given = count_by is_input (words_in name given)

-- how many sources are the input
abbrev pub inputs_in : List Row → ℕ
inputs_in given = inputs_at (codes "SOURCE") given + inputs_at (codes "MINE") given + inputs_at (codes "OTHER") given
    + inputs_at (codes "FOLDER") given
