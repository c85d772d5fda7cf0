-- The operators of an expression, with C's precedence, on 64-bit signed numbers.
use Rattle.std.specs.Prelude.{ℕ, ◌^◌, Bool, not, ◌&&◌, ◌||◌, nat_lt, if◌then◌else◌, Result, Ok, Err, ℤ, pos, negsuc, ◌+ℤ◌, ◌-ℤ◌, ◌*ℤ◌, neg_ℤ, int_lt, int_le, int_div, int_rem}
use Rattle.{war_types.specs.declared.fault.ExprFault.ExprFault, redcode_text.specs.declared.operator.Operator.Operator}

abbrev pub Value : Type 0
Value = Result ℤ ExprFault

-- how loosely an operator binds
abbrev pub rank_of : Operator → ℕ
rank_of Operator.Times = 1
rank_of Operator.Divide = 1
rank_of Operator.Remainder = 1
rank_of Operator.Plus = 2
rank_of Operator.Minus = 2
rank_of Operator.Less = 3
rank_of Operator.Greater = 3
rank_of Operator.AtMost = 3
rank_of Operator.AtLeast = 3
rank_of Operator.Equal = 4
rank_of Operator.NotEqual = 4
rank_of Operator.And = 5
rank_of Operator.Or = 6

abbrev pub fits : ℤ → Bool
fits (pos n) = nat_lt n (2 ^ 63)
fits (negsuc n) = nat_lt n (2 ^ 63)

-- a result that has to fit 64 bits with a sign
abbrev pub fitting : ℤ → Value
fitting z = if fits z then Ok z else Err ExprFault.Overflow

abbrev pub is_zero : ℤ → Bool
is_zero z = int_le z (pos 0) && int_le (pos 0) z

abbrev pub truth : Bool → ℤ
truth holds = if holds then pos 1 else pos 0

abbrev pub is_true : ℤ → Bool
is_true z = not (is_zero z)

abbrev pub is_same : ℤ → ℤ → Bool
is_same a b = int_le a b && int_le b a

-- division is toward zero, and a remainder has the dividend's sign
abbrev pub operated : Operator → ℤ → ℤ → Value
operated Operator.Times a b = fitting (a *ℤ b)
operated Operator.Divide a b = if is_zero b then Err ExprFault.DivideByZero else fitting (int_div a b)
operated Operator.Remainder a b = if is_zero b then Err ExprFault.DivideByZero else Ok (int_rem a b)
operated Operator.Plus a b = fitting (a +ℤ b)
operated Operator.Minus a b = fitting (a -ℤ b)
operated Operator.Less a b = Ok (truth (int_lt a b))
operated Operator.Greater a b = Ok (truth (int_lt b a))
operated Operator.AtMost a b = Ok (truth (int_le a b))
operated Operator.AtLeast a b = Ok (truth (int_le b a))
operated Operator.Equal a b = Ok (truth (is_same a b))
operated Operator.NotEqual a b = Ok (truth (not (is_same a b)))
operated Operator.And a b = Ok (truth (is_true a && is_true b))
operated Operator.Or a b = Ok (truth (is_true a || is_true b))

-- the left side's fault, else the right side's, else the operator's own
abbrev pub applied : Operator → Value → Value → Value
applied operator (Err fault) right = Err fault
applied operator (Ok a) (Err fault) = Err fault
applied operator (Ok a) (Ok b) = operated operator a b

abbrev pub negated : Value → Value
negated (Err fault) = Err fault
negated (Ok a) = fitting (neg_ℤ a)

abbrev pub denied : Value → Value
denied (Err fault) = Err fault
denied (Ok a) = Ok (truth (is_zero a))
