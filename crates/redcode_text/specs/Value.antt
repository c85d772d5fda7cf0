-- The value of an expression: its tokens are split at the last of the operators between operands, outside parentheses,
-- that bind most loosely.
use Rattle.std.specs.Prelude.{ℕ, zero, suc, pred, ◌+◌, ◌-◌, ◌*◌, ◌^◌, Bool, true, false, nat_le, nat_lt, if◌then◌else◌, List, [], ◌∷◌, length, map, Option, Some, None, Ok, Err, ℤ, pos, codes}
use Rattle.{std.specs.Str.bytes_eq, war_types.specs.declared.fault.ExprFault.ExprFault, redcode_text.specs.{declared.operator.Operator.Operator, declared.expression.Part.Part}}
use Rattle.redcode_text.specs.{declared.token.TokenKind.TokenKind, Tokens.Piece, Operators.{Value, rank_of, applied, negated, denied}}

-- ---- what a token is in an expression

abbrev pub symbols : List (List ℕ × Part)
symbols =
    (codes "(", Part.Open) ∷ (codes ")", Part.Close) ∷ (codes "!", Part.Not)
    ∷ (codes "*", Part.Operator Operator.Times) ∷ (codes "/", Part.Operator Operator.Divide) ∷ (codes "%", Part.Operator Operator.Remainder)
    ∷ (codes "+", Part.Operator Operator.Plus) ∷ (codes "-", Part.Operator Operator.Minus)
    ∷ (codes "<", Part.Operator Operator.Less) ∷ (codes ">", Part.Operator Operator.Greater)
    ∷ (codes "<=", Part.Operator Operator.AtMost) ∷ (codes ">=", Part.Operator Operator.AtLeast)
    ∷ (codes "==", Part.Operator Operator.Equal) ∷ (codes "!=", Part.Operator Operator.NotEqual)
    ∷ (codes "&&", Part.Operator Operator.And) ∷ (codes "||", Part.Operator Operator.Or) ∷ []

abbrev pub listed : List (List ℕ × Part) → List ℕ → Part
listed [] text = Part.Other
listed (e ∷ es) text = if bytes_eq text e.0 then e.1 else listed es text

-- the number that the digits of n and these digits after them stand for
abbrev pub number_from : ℕ → List ℕ → ℕ
number_from n [] = n
number_from n (d ∷ ds) = number_from (10 * n + (d - 48)) ds

-- the number that digits stand for, which has to fit 64 bits with a sign
abbrev pub number_value : List ℕ → Value
number_value digits = if nat_lt (number_from 0 digits) (2 ^ 63) then Ok (pos (number_from 0 digits)) else Err ExprFault.Overflow

abbrev pub known : Option ℤ → Value
known None = Err ExprFault.UnknownName
known (Some z) = Ok z

abbrev pub part_by_kind : (List ℕ → Option ℤ) → TokenKind → List ℕ → Part
part_by_kind names TokenKind.Name text = Part.Operand (known (names text))
part_by_kind names TokenKind.Number text = Part.Operand (number_value text)
part_by_kind names TokenKind.Symbol text = listed symbols text
part_by_kind names TokenKind.Comment text = Part.Other
part_by_kind names TokenKind.Bad text = Part.Other

abbrev pub part_of : (List ℕ → Option ℤ) → Piece → Part
part_of names token = part_by_kind names token.kind token.text

-- ---- where an expression is split

pub record Split : Type 0 where
  pub left : List Part
  pub operator : Operator
  pub right : List Part

-- the split with a further part in front
abbrev pub behind : Part → Option Split → Option Split
behind part None = None
behind part (Some s) = Some (record { left = part ∷ s.left; operator = s.operator; right = s.right })

-- of an operator that may be split at and the split after it: the one that binds more loosely, or else the later one
abbrev pub looser : Operator → List Part → Option Split → Option Split
looser operator others None = Some (record { left = []; operator = operator; right = others })
looser operator others (Some s) =
    if nat_le (rank_of operator) (rank_of s.operator) then behind (Part.Operator operator) (Some s)
    else Some (record { left = []; operator = operator; right = others })

-- the split of parts that stand after an operand or not, within `nested` open parentheses
abbrev pub split_from : Bool → ℕ → List Part → Option Split
split_from operand nested [] = None
split_from operand nested (Part.Operand value ∷ others) = behind (Part.Operand value) (split_from true nested others)
split_from operand nested (Part.Open ∷ others) = behind Part.Open (split_from false (suc nested) others)
split_from operand nested (Part.Close ∷ others) = behind Part.Close (split_from true (pred nested) others)
split_from operand nested (Part.Not ∷ others) = behind Part.Not (split_from false nested others)
split_from operand nested (Part.Other ∷ others) = behind Part.Other (split_from false nested others)
split_from true zero (Part.Operator operator ∷ others) = looser operator others (split_from false zero others)
split_from true (suc nested) (Part.Operator operator ∷ others) = behind (Part.Operator operator) (split_from false (suc nested) others)
split_from false nested (Part.Operator operator ∷ others) = behind (Part.Operator operator) (split_from false nested others)

-- ---- the value

-- what an operator makes of its sides, if both are expressions
abbrev pub joined : Operator → Option Value → Option Value → Option Value
joined operator None right = None
joined operator (Some l) None = None
joined operator (Some l) (Some r) = Some (applied operator l r)

abbrev pub option_of : (Value → Value) → Option Value → Option Value
option_of f None = None
option_of f (Some v) = Some (f v)

-- a sign before a value
abbrev pub signed : Operator → Option Value → Option Value
signed Operator.Plus value = value
signed Operator.Minus value = option_of negated value
signed _ value = None

-- nothing is before a closing parenthesis that stands alone
abbrev pub if_close : Part → Option (List Part)
if_close Part.Close = Some []
if_close _ = None

abbrev pub onto : Part → Option (List Part) → Option (List Part)
onto part None = None
onto part (Some others) = Some (part ∷ others)

-- the parts before a closing parenthesis that ends them
abbrev pub closed : List Part → Option (List Part)
closed [] = None
closed (part ∷ []) = if_close part
closed (part ∷ next ∷ others) = onto part (closed (next ∷ others))

abbrev pub inside_of : (List Part → Option Value) → Option (List Part) → Option Value
inside_of value None = None
inside_of value (Some ps) = value ps

-- an expression without a split: a number or a name, a unary operator before the rest, or parentheses, at most `depth` of them around a token
abbrev pub whole : (ℕ → List Part → Option Value) → ℕ → List Part → Option Value
whole value depth (Part.Operand v ∷ []) = Some v
whole value (suc depth) (Part.Not ∷ others) = option_of denied (value depth others)
whole value (suc depth) (Part.Operator operator ∷ others) = signed operator (value depth others)
whole value (suc depth) (Part.Open ∷ others) = inside_of (value depth) (closed others)
whole value depth others = None

abbrev pub value_by : (ℕ → List Part → Option Value) → ℕ → List Part → Option Split → Option Value
value_by value depth expression None = whole value depth expression
value_by value depth expression (Some s) = joined s.operator (value depth s.left) (value depth s.right)

-- the value of at most n parts, or nothing if they make no expression
unfoldable pub value_within : ℕ → ℕ → List Part → Option Value
value_within zero depth expression = None
value_within (suc n) depth expression = value_by (value_within n) depth expression (split_from false 0 expression)

abbrev pub or_bad : Option Value → Value
or_bad None = Err ExprFault.BadExpression
or_bad (Some value) = value

-- the value of tokens by the values of names: BadExpression if they make no expression, or if more than 64 parentheses
-- and unary operators stand around one of them
abbrev pub value_of : (List ℕ → Option ℤ) → List Piece → Value
value_of names tokens = or_bad (value_within (length tokens) 64 (map (part_of names) tokens))
