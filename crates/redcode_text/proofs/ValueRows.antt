-- The definition of the value computed on small expressions, with what it has to give.
use Rattle.{std.proofs.Common.{◌≡◌, ℕ, zero, suc, List, [], ◌++◌, Option, None, Ok, Err, ℤ, pos, negsuc, refl, codes}, war_types.specs.declared.fault.ExprFault.ExprFault}
use Rattle.redcode_text.specs.{Tokens.pieces_of, Operators.Value, Value.{value_of, value_within}}

abbrev no_names : List ℕ → Option ℤ
no_names name = None

abbrev gives : List ℕ → Value → Type 0
gives line v = value_of no_names (pieces_of line) ≡ v

-- n plus signs before a number
abbrev signs : ℕ → List ℕ
signs zero = codes "7"
signs (suc n) = codes "+" ++ signs n

-- 64 signs before a number are an expression, and 65 are none
rows :
    (mixed : gives (codes "1+2*3==7 && !0") (Ok (pos 1))) ×
    (minus_groups_left : gives (codes "10-4-3") (Ok (pos 3))) ×
    (quotient_toward_zero : gives (codes "-7/2") (Ok (negsuc 2))) ×
    (remainder_of_negative : gives (codes "-7%2") (Ok (negsuc 0))) ×
    (no_right_side : gives (codes "1+") (Err ExprFault.BadExpression)) ×
    (left_fault_first : gives (codes "(1/0)+foo") (Err ExprFault.DivideByZero)) ×
    (left_name_first : gives (codes "foo+1/0") (Err ExprFault.UnknownName)) ×
    (too_large_a_number : gives (codes "9223372036854775807+1") (Err ExprFault.Overflow)) ×
    (least_number_unwritable : gives (codes "-9223372036854775808") (Err ExprFault.Overflow)) ×
    (remainder_by_minus_one : gives (codes "(-9223372036854775807-1)%-1") (Ok (pos 0))) ×
    (both_sides_of_or : gives (codes "1||1/0") (Err ExprFault.DivideByZero)) ×
    (times_within_minus : gives (codes "10-2*3-1") (Ok (pos 3))) ×
    (deepest : gives (signs 64) (Ok (pos 7))) ×
    (too_deep : gives (signs 65) (Err ExprFault.BadExpression)) ×
    (parenthesis_after_operand : gives (codes "(1)(2)") (Err ExprFault.BadExpression)) ×
    (closed_before_opened : gives (codes "1)+(2") (Err ExprFault.BadExpression)) ×
    (signs_after_operators : gives (codes "3- -+!1*2") (Ok (pos 3))) ×
    (nothing : gives [] (Err ExprFault.BadExpression)) ×
    (bad_before_all : gives (codes "1/0+foo)") (Err ExprFault.BadExpression)) ×
    gives (codes "1<2==2>1 && 3<=3 && 4>=5 || 6!=7") (Ok (pos 1))
unfolding value_within
rows = (refl, refl, refl, refl, refl, refl, refl, refl, refl, refl, refl, refl, refl, refl, refl, refl, refl, refl, refl, refl)
