-- What the text of a refusal or a warning begins with.
use Rattle.std.specs.Prelude.{◌≡◌, ◌==◌, ℕ, if◌then◌else◌, List, [], ◌++◌, codes, decimal}
use Rattle.war_types.specs.{declared.fault.AsmFault.AsmFault, Fault.kind_name}
use Rattle.redcode_warnings.specs.{declared.kind.WarningKind.WarningKind, Kind.{kind_name as warning_name}}

-- a text that begins with the front
abbrev pub Begins : List ℕ → List ℕ → Type 0
Begins front text = (rest : List ℕ) × (text ≡ front ++ rest)

-- the line that an editor goes to: the first one if the source as a whole is to blame
abbrev pub shown_line : ℕ → ℕ
shown_line line = if line == 0 then 1 else line

-- PATH:LINE:COLUMN: with a severity, which may be empty, and a kind after it
unfoldable pub said_heading : List ℕ → ℕ → ℕ → List ℕ → List ℕ → List ℕ
said_heading path line column severity kind = path ++ codes ":" ++ decimal (shown_line line) ++ codes ":" ++ decimal column ++ codes ": " ++ severity ++ kind ++ codes ": "

-- PATH:LINE:COLUMN: Kind:
abbrev pub heading : List ℕ → AsmFault → ℕ → List ℕ
heading path fault column = said_heading path fault.line column [] (kind_name fault.kind)

-- PATH:LINE:COLUMN: warning: Kind:
abbrev pub warning_heading : List ℕ → WarningKind → ℕ → ℕ → List ℕ
warning_heading path kind line column = said_heading path line column (codes "warning: ") (warning_name kind)

-- a name with a number after it
abbrev pub numbered : List ℕ → ℕ → List ℕ
numbered name number = name ++ decimal number
