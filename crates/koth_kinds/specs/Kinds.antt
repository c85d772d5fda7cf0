-- The kinds, what they are called, and the lines that they name.
use Rattle.std.specs.Prelude.{ℕ, List, [], ◌∷◌, codes}
use Rattle.{war_types.specs.{Fault.kind_name, declared.fault.{AsmKind.AsmKind, ExprFault.ExprFault}}, redcode_warnings.specs.{Kind.{kind_name as warning_name}, declared.kind.WarningKind.WarningKind}}
use Rattle.koth_kinds.specs.declared.kind.Kind.{Kind}

abbrev pub name_of : Kind → List ℕ
name_of (Kind.Refusal kind) = kind_name kind
name_of (Kind.Warning kind) = warning_name kind

-- the line that a refusal names
abbrev pub line_refused : AsmKind → List ℕ
line_refused AsmKind.SourceTooLong = codes "line 0"
line_refused AsmKind.UnmatchedFor = codes "the `FOR`"
line_refused AsmKind.UnmatchedRof = codes "the `ROF`"
line_refused AsmKind.ForLimit = codes "the line past the limit, or the `FOR` of a copy"
line_refused AsmKind.DuplicateName = codes "the later line"
line_refused AsmKind.BadEqu = codes "the `EQU`"
line_refused AsmKind.EquLimit = codes "the line"
line_refused AsmKind.Memory = codes "line 0"
line_refused AsmKind.BadToken = codes "the line"
line_refused AsmKind.BadOperation = codes "the line"
line_refused AsmKind.Pspace = codes "the line"
line_refused AsmKind.BadModifier = codes "the line"
line_refused AsmKind.MissingOperand = codes "the line"
line_refused AsmKind.ExtraText = codes "the line"
line_refused AsmKind.Empty = codes "line 0"
line_refused AsmKind.TooLong = codes "line 0"
line_refused AsmKind.BadStart = codes "the `ORG` or `END`"
line_refused AsmKind.AssertFalse = codes "the line"
line_refused (AsmKind.ForCount fault) = codes "the `FOR`"
line_refused (AsmKind.Expression fault) = codes "the line"

-- the line that a warning names
abbrev pub line_warned : WarningKind → List ℕ
line_warned WarningKind.NoName = codes "line 0"
line_warned WarningKind.NoAuthor = codes "line 0"
line_warned WarningKind.NoAssert = codes "line 0"
line_warned WarningKind.ChangedTitle = codes "the `;name` or `;author`"
line_warned WarningKind.StartOverruled = codes "the `ORG` or `END`"
line_warned WarningKind.NoStart = codes "the label's line"
line_warned WarningKind.UnusedLabel = codes "the label's line"
line_warned WarningKind.NamesAlone = codes "the label's line"
line_warned WarningKind.UnusedEqu = codes "the `EQU`"
line_warned WarningKind.CodeAfterEnd = codes "the first such line"

abbrev pub line_named : Kind → List ℕ
line_named (Kind.Refusal kind) = line_refused kind
line_named (Kind.Warning kind) = line_warned kind

-- all kinds: the refusals in the order in which they are looked for, then the warnings
unfoldable pub all_kinds : List Kind
all_kinds =
    (Kind.Refusal AsmKind.SourceTooLong)
    ∷ (Kind.Refusal AsmKind.UnmatchedFor)
    ∷ (Kind.Refusal AsmKind.UnmatchedRof)
    ∷ (Kind.Refusal AsmKind.ForLimit)
    ∷ (Kind.Refusal AsmKind.DuplicateName)
    ∷ (Kind.Refusal AsmKind.BadEqu)
    ∷ (Kind.Refusal AsmKind.EquLimit)
    ∷ (Kind.Refusal (AsmKind.ForCount ExprFault.BadExpression))
    ∷ (Kind.Refusal (AsmKind.ForCount ExprFault.UnknownName))
    ∷ (Kind.Refusal (AsmKind.ForCount ExprFault.DivideByZero))
    ∷ (Kind.Refusal (AsmKind.ForCount ExprFault.Overflow))
    ∷ (Kind.Refusal AsmKind.BadToken)
    ∷ (Kind.Refusal AsmKind.BadOperation)
    ∷ (Kind.Refusal AsmKind.Pspace)
    ∷ (Kind.Refusal AsmKind.BadModifier)
    ∷ (Kind.Refusal AsmKind.MissingOperand)
    ∷ (Kind.Refusal (AsmKind.Expression ExprFault.BadExpression))
    ∷ (Kind.Refusal (AsmKind.Expression ExprFault.UnknownName))
    ∷ (Kind.Refusal (AsmKind.Expression ExprFault.DivideByZero))
    ∷ (Kind.Refusal (AsmKind.Expression ExprFault.Overflow))
    ∷ (Kind.Refusal AsmKind.ExtraText)
    ∷ (Kind.Refusal AsmKind.Empty)
    ∷ (Kind.Refusal AsmKind.TooLong)
    ∷ (Kind.Refusal AsmKind.BadStart)
    ∷ (Kind.Refusal AsmKind.AssertFalse)
    ∷ (Kind.Refusal AsmKind.Memory)
    ∷ (Kind.Warning WarningKind.NoName)
    ∷ (Kind.Warning WarningKind.NoAuthor)
    ∷ (Kind.Warning WarningKind.NoAssert)
    ∷ (Kind.Warning WarningKind.ChangedTitle)
    ∷ (Kind.Warning WarningKind.StartOverruled)
    ∷ (Kind.Warning WarningKind.NoStart)
    ∷ (Kind.Warning WarningKind.UnusedLabel)
    ∷ (Kind.Warning WarningKind.NamesAlone)
    ∷ (Kind.Warning WarningKind.UnusedEqu)
    ∷ (Kind.Warning WarningKind.CodeAfterEnd)
    ∷ []
