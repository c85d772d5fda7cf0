-- Of the code alone: what its own values are in the words of the definitions. No definition names a word of this file.
use Rattle.std.specs.Prelude.{List, [], ◌∷◌}
use Rattle.mars_words.specs.{declared.field.Paired.Paired, Numbers.{Field, Arithmetic}, Pairs.Pair}
use Rattle.mars_words.specs.declared.field.Field as code_field
use Rattle.mars_words.specs.declared.field.Field.TheVariants as fields
use Rattle.mars_words.specs.declared.field.Pair as code_pair
use Rattle.mars_words.specs.declared.arithmetic.Arithmetic as code_arithmetic
use Rattle.mars_words.specs.declared.arithmetic.Arithmetic.TheVariants as arithmetics

abbrev pub field_of : code_field.Field → Field
field_of fields.A = Field.A
field_of fields.B = Field.B

abbrev pub pair_of : code_pair.Pair → Pair
pair_of p = record { source = field_of p.source; target = field_of p.target }

-- the pairs that it names one by one
abbrev pub listed : Paired → List Pair
listed (Paired.One p) = pair_of p ∷ []
listed (Paired.Two p q) = pair_of p ∷ pair_of q ∷ []

abbrev pub arithmetic_of : code_arithmetic.Arithmetic → Arithmetic
arithmetic_of arithmetics.Sum = Arithmetic.Sum
arithmetic_of arithmetics.Difference = Arithmetic.Difference
arithmetic_of arithmetics.Product = Arithmetic.Product
arithmetic_of arithmetics.Quotient = Arithmetic.Quotient
arithmetic_of arithmetics.Remainder = Arithmetic.Remainder
