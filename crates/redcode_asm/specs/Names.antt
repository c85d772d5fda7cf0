-- What names stand for on a line.
use Rattle.std.specs.{Prelude.{ℕ, List, Option, ℤ, pos, ◌-ℤ◌}, Option.{option_map, option_or}}
use Rattle.{war_types.specs.declared.settings.RawSettings.RawSettings, redcode_names.specs.Name.{LabelList, address_of, predefined}}

-- A label is its address as seen from `origin`, and a predefined name has its value on a line with `before` instructions before it.
-- The origin is the instruction's own address in an operand, and 0 in ORG, END and ;assert.
abbrev pub values_of : RawSettings → LabelList → ℕ → ℕ → List ℕ → Option ℤ
values_of s labels before origin name = option_or (option_map (λ address. pos address -ℤ pos origin) (address_of labels name)) (predefined s before name)
