-- An object of JSON on one line. No value is an object or an array, so that a line is a row of a table.
use Rattle.std.specs.{Prelude.{ℕ, Bool, true, false, List, ◌++◌, map, codes, decimal}, List.flat_map}
use Rattle.koth_json.specs.{declared.{key.Key.Key, object.Value.Value as Put}, Keys.key_text, Strings.string_text}

-- a string for these bytes, a number, true or false, or null, where there is nothing
pub data Value : Type 0 where
  text : List ℕ → Value
  number : ℕ → Value
  truth : Bool → Value
  null : Value

-- as the code puts it
abbrev pub value_of : Put → Value
value_of (Put.Text bytes) = text bytes.now
value_of (Put.Number n) = number n
value_of (Put.Truth b) = truth b
value_of Put.Null = null

-- its name and its value
abbrev pub Field : Type 0
Field = Key × Value

abbrev pub field_of : Key × Put → Field
field_of field = (field.0, value_of field.1)

abbrev pub truth_text : Bool → List ℕ
truth_text true = codes "true"
truth_text false = codes "false"

abbrev pub value_text : Value → List ℕ
value_text (text bytes) = string_text bytes
value_text (number n) = decimal n
value_text (truth b) = truth_text b
value_text null = codes "null"

unfoldable pub field_text : Field → List ℕ
field_text field = string_text (key_text field.0) ++ (codes ":" ++ value_text field.1)

-- a field after another one
unfoldable pub further_field : Field → List ℕ
further_field field = codes "," ++ field_text field

abbrev pub further_text : List Field → List ℕ
further_text fields = flat_map further_field fields

-- the object of a field and those after it, and a line feed
abbrev pub object_line : Field → List Field → List ℕ
object_line first others = codes "{" ++ (field_text first ++ (further_text others ++ codes "}\n"))

-- what most objects begin with: what they are
abbrev pub type_field : List ℕ → Field
type_field name = (Key.Type, text name)
