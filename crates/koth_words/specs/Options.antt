-- The numbers that options have, and the default settings.
use Rattle.std.specs.{Prelude.{ℕ, ◌&&◌, Bool, nat_lt, if◌then◌else◌, length, Option, Some, None, option_and_then, unwrap_or}, Char.digit_value, List.list_all}
use Rattle.{std.specs.Str.Parse.{digits_value, without_leading_plus}, clap.specs.Words.Text, war_types.specs.declared.settings.RawSettings.RawSettings}

-- one decimal digit or more, which write a number below the limit
abbrev pub is_number : ℕ → Text → Bool
is_number limit digits = nat_lt 0 (length digits) && list_all (λ d. nat_lt (digit_value d) 10) digits && nat_lt (digits_value 10 digits) limit

-- the number below the limit that a text writes, a plus sign before it or not
abbrev pub number_in : ℕ → Text → Option ℕ
number_in limit text = if is_number limit (without_leading_plus text) then Some (digits_value 10 (without_leading_plus text)) else None

-- the number that an option's text writes, if the option is given (no other text is taken)
abbrev pub number_given : ℕ → Option Text → Option ℕ
number_given limit text = option_and_then (number_in limit) text

-- the same, with a default if the option is left out
abbrev pub number_below : ℕ → ℕ → Option Text → ℕ
number_below limit default text = unwrap_or (number_given limit text) default

-- the same of 32 bits
abbrev pub number_or : ℕ → Option Text → ℕ
number_or default text = number_below 4294967296 default text

-- the settings if no option gives another one
abbrev pub default_settings : RawSettings
default_settings = record {
  core = 8000;
  cycles = 80000;
  processes = 8000;
  length = 100;
  distance = 100;
  rounds = 10;
  seed = 1;
  capacity = 20;
  read_limit = 0;
  write_limit = 0;
}
