-- How a warning's kind is named.
use Rattle.std.specs.Prelude.{ℕ, List, codes}
use Rattle.redcode_warnings.specs.declared.kind.WarningKind.{WarningKind}

abbrev pub kind_name : WarningKind → List ℕ
kind_name WarningKind.UnusedLabel = codes "UnusedLabel"
kind_name WarningKind.NamesAlone = codes "NamesAlone"
kind_name WarningKind.ChangedTitle = codes "ChangedTitle"
kind_name WarningKind.NoName = codes "NoName"
kind_name WarningKind.NoAuthor = codes "NoAuthor"
kind_name WarningKind.NoAssert = codes "NoAssert"
kind_name WarningKind.CodeAfterEnd = codes "CodeAfterEnd"
kind_name WarningKind.NoStart = codes "NoStart"
kind_name WarningKind.StartOverruled = codes "StartOverruled"
kind_name WarningKind.UnusedEqu = codes "UnusedEqu"
