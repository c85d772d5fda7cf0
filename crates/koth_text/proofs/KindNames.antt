-- The name of a refusal is short.
use Rattle.{std.proofs.Common.{◌≤◌, length, arith}, war_types.specs.{Fault.{expr_fault_name, kind_name}, declared.fault.AsmKind.AsmKind, declared.fault.ExprFault.ExprFault}}

expression_is_short : (fault : ExprFault) → length (expr_fault_name fault) ≤ 20
expression_is_short ExprFault.BadExpression = omega arith
expression_is_short ExprFault.UnknownName = omega arith
expression_is_short ExprFault.DivideByZero = omega arith
expression_is_short ExprFault.Overflow = omega arith

pub kind_is_short : (kind : AsmKind) → length (kind_name kind) ≤ 20
kind_is_short AsmKind.SourceTooLong = omega arith
kind_is_short AsmKind.UnmatchedFor = omega arith
kind_is_short AsmKind.UnmatchedRof = omega arith
kind_is_short AsmKind.ForLimit = omega arith
kind_is_short AsmKind.DuplicateName = omega arith
kind_is_short AsmKind.BadEqu = omega arith
kind_is_short AsmKind.EquLimit = omega arith
kind_is_short AsmKind.Memory = omega arith
kind_is_short AsmKind.BadToken = omega arith
kind_is_short AsmKind.BadOperation = omega arith
kind_is_short AsmKind.Pspace = omega arith
kind_is_short AsmKind.BadModifier = omega arith
kind_is_short AsmKind.MissingOperand = omega arith
kind_is_short AsmKind.ExtraText = omega arith
kind_is_short AsmKind.Empty = omega arith
kind_is_short AsmKind.TooLong = omega arith
kind_is_short AsmKind.BadStart = omega arith
kind_is_short AsmKind.AssertFalse = omega arith
kind_is_short (AsmKind.ForCount fault) = expression_is_short fault
kind_is_short (AsmKind.Expression fault) = expression_is_short fault
