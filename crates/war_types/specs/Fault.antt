-- How a fault is named in a refusal.
use Rattle.{std.specs.Prelude.{ℕ, List, codes}, war_types.specs.{declared.fault.ExprFault.ExprFault, declared.fault.AsmKind.AsmKind, declared.fault.AsmFault.AsmFault}}

abbrev pub expr_fault_name : ExprFault → List ℕ
expr_fault_name ExprFault.BadExpression = codes "BadExpression"
expr_fault_name ExprFault.UnknownName = codes "UnknownName"
expr_fault_name ExprFault.DivideByZero = codes "DivideByZero"
expr_fault_name ExprFault.Overflow = codes "Overflow"

abbrev pub kind_name : AsmKind → List ℕ
kind_name AsmKind.SourceTooLong = codes "SourceTooLong"
kind_name AsmKind.UnmatchedFor = codes "UnmatchedFor"
kind_name AsmKind.UnmatchedRof = codes "UnmatchedRof"
kind_name AsmKind.ForLimit = codes "ForLimit"
kind_name AsmKind.DuplicateName = codes "DuplicateName"
kind_name AsmKind.BadEqu = codes "BadEqu"
kind_name AsmKind.EquLimit = codes "EquLimit"
kind_name (AsmKind.ForCount fault) = expr_fault_name fault
kind_name AsmKind.Memory = codes "Memory"
kind_name AsmKind.BadToken = codes "BadToken"
kind_name AsmKind.BadOperation = codes "BadOperation"
kind_name AsmKind.Pspace = codes "Pspace"
kind_name AsmKind.BadModifier = codes "BadModifier"
kind_name AsmKind.MissingOperand = codes "MissingOperand"
kind_name (AsmKind.Expression fault) = expr_fault_name fault
kind_name AsmKind.ExtraText = codes "ExtraText"
kind_name AsmKind.Empty = codes "Empty"
kind_name AsmKind.TooLong = codes "TooLong"
kind_name AsmKind.BadStart = codes "BadStart"
kind_name AsmKind.AssertFalse = codes "AssertFalse"

-- the refusal when memory runs out
abbrev pub no_memory : AsmFault
no_memory = record { line = 0; kind = AsmKind.Memory }
