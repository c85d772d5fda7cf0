-- The lines of `check`, and of a source that is refused.
use Rattle.std.specs.Prelude.{ℕ, List, [], ◌∷◌, ◌++◌, Option, None, Some, codes}
use Rattle.koth_json.specs.{declared.finding.Copied.Copied, declared.finding.Finding.Finding, declared.finding.Severity.Severity, declared.key.Key.Key}
use Rattle.koth_json.specs.Objects.{Field, Value, object_line, type_field}

abbrev pub severity_text : Severity → List ℕ
severity_text Severity.Error = codes "error"
severity_text Severity.Warning = codes "warning"

-- where it is
abbrev pub place_fields : Finding → List Field
place_fields f = (Key.Line, Value.number f.line) ∷ (Key.Column, Value.number f.column) ∷ (Key.Width, Value.number f.width) ∷ []

-- how the line reads in a copy of a block
abbrev pub copied_fields : Copied → List Field
copied_fields c = (Key.Copy, Value.number c.times) ∷ (Key.Block, Value.number c.block) ∷ (Key.Reads, Value.text c.text.now) ∷ []

-- and in the copy that is to blame, if there is one
abbrev pub copy_fields : Option Copied → List Field
copy_fields None = []
copy_fields (Some copy) = copied_fields copy

-- where it is, and what
abbrev pub finding_fields : Finding → List Field
finding_fields f =
    place_fields f
    ++ (Key.Kind, Value.text f.kind.now)
    ∷ (Key.Severity, Value.text (severity_text f.severity))
    ∷ (Key.Message, Value.text f.message.now)
    ∷ (Key.Text, Value.text f.text.now)
    ∷ copy_fields f.copy

-- a finding in the source in a file; fields are added at the end, so what it is stands there
abbrev pub finding_line : List ℕ → Finding → List ℕ
finding_line file f = object_line (Key.File, Value.text file) (finding_fields f ++ (Key.Type, Value.text (codes "finding")) ∷ [])

-- a source that is refused, for what is found in it
abbrev pub refused_line : List ℕ → Finding → List ℕ
refused_line file f = object_line (type_field (codes "refused")) ((Key.File, Value.text file) ∷ finding_fields f)
