-- The options that give settings.
use Rattle.std.specs.Prelude.{ℕ, ℤ, true, Some, codes, pos}
use Rattle.clap.specs.{Words.{App, Rule, Text, new_rule, with_rule}, declared.builder.value_parser.ValueParser.ValueParser}

-- an option with a text
abbrev pub text_rule : Text → Rule
text_rule name = record (new_rule name) { long = Some name; value_names = 1 }

-- an option with a whole number from the least to the greatest
abbrev pub ranged_rule : Text → ℤ → ℤ → Rule
ranged_rule name least greatest = record (new_rule name) {
  long = Some name;
  value_names = 1;
  parser = Some (ValueParser.Signed least greatest);
}

-- an option with a whole number of 32 bits
abbrev pub option_rule : Text → Rule
option_rule name = ranged_rule name (pos 0) (pos 4294967295)

-- an option with a whole number up to the greatest, which has to be given
abbrev pub required_rule : Text → ℕ → Rule
required_rule name greatest = record (ranged_rule name (pos 0) (pos greatest)) { required = true }

-- an option that a letter names too
abbrev pub lettered_rule : Text → ℕ → Rule
lettered_rule name letter = record (option_rule name) { short = Some letter }

abbrev pub with_option : App → Text → App
with_option app name = with_rule app (option_rule name)

abbrev pub with_lettered : App → Text → ℕ → App
with_lettered app name letter = with_rule app (lettered_rule name letter)

abbrev pub with_ranged : App → Text → ℕ → ℕ → App
with_ranged app name least greatest = with_rule app (ranged_rule name (pos least) (pos greatest))

-- the sizes of a match, with the letters s, p, l and d
abbrev pub with_sizes : App → App
with_sizes app = with_lettered (with_lettered (with_lettered (with_lettered app
    (codes "core") 115) (codes "processes") 112) (codes "length") 108) (codes "distance") 100

-- how long a match is, with the letters c and r, and how far its operands reach
abbrev pub with_bounds : App → App
with_bounds app = with_option (with_option (with_lettered (with_lettered app
    (codes "cycles") 99) (codes "rounds") 114) (codes "read-limit")) (codes "write-limit")

-- the command with an option for a preset, and one for each setting
abbrev pub with_settings : App → App
with_settings app = with_option (with_option (with_bounds (with_sizes (with_rule app (text_rule (codes "preset"))))) (codes "seed")) (codes "capacity")

-- and with one for a hill that has them
abbrev pub with_like : App → App
with_like app = with_settings (with_rule app (text_rule (codes "like")))
