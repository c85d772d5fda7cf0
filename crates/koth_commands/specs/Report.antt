-- The report of a source: its faults, and its warnings if they are asked for.
use Rattle.std.specs.Prelude.{◌≡◌, ◌⊎◌, ℕ, Bool, true, false, ◌||◌, ◌&&◌, if◌then◌else◌, Option, None, Some, List, [], ◌∷◌, ◌++◌, codes, decimal, is_err, map, option_map}
use Rattle.{war_types.specs.{declared.fault.AsmFault.AsmFault, declared.settings.RawSettings.RawSettings, Fault.kind_name}, redcode_asm.specs.{Assembly.assembly, Within.MaySpend}}
use Rattle.{redcode_lines.specs.Place.{IsPlaceIn, line_text}, redcode_diagnosis.specs.{Told.TellsAll, Text.{Begins, said_heading}}}
use Rattle.redcode_warnings.specs.{Kind.{kind_name as warning_name}, Warnings.{Noted, warnings_of}}
use Rattle.{koth_json.specs.{Finding.finding_line, declared.finding.{Finding.Finding, Severity.Severity}}, koth_words.specs.declared.{serving.TheConstants.STEPS, requests.{Checked.Checked, Form.Form}}}
use Rattle.koth_commands.specs.{Answer.AnswerParts, Name.shown_name, declared.status.Status.Status}

-- how sources are reported: for people or for programs, with warnings or without, whether a warning is refused, and with
-- the body of a definition in place of those of its name, if one is given
pub record Manner : Type 0 where
  pub form : Form
  pub warnings : Bool
  pub deny : Bool
  pub define : Option (List ℕ)

abbrev pub manner_of : Checked → Manner
manner_of checked = record {
  form = checked.form;
  warnings = checked.warnings;
  deny = checked.deny;
  define = option_map (λ words. words.now) checked.define;
}

-- ---- its lines

-- what is found: how bad it is, its kind, and its line
pub record Found : Type 0 where
  pub severity : Severity
  pub kind : List ℕ
  pub line : ℕ

abbrev pub found_fault : AsmFault → Found
found_fault fault = record { severity = Severity.Error; kind = kind_name fault.kind; line = fault.line }

abbrev pub found_warning : Noted → Found
found_warning noted = record { severity = Severity.Warning; kind = warning_name noted.0; line = noted.1 }

-- what people read before its kind
abbrev pub severity_shown : Severity → List ℕ
severity_shown Severity.Error = []
severity_shown Severity.Warning = codes "warning: "

-- the finding is that, at this column with this width
pub record IsFound (found : Found) (place : ℕ × ℕ) (finding : Finding) : Type 0 where
  pub severity : finding.severity ≡ found.severity
  pub kind : finding.kind.now ≡ found.kind
  pub line : finding.line ≡ found.line
  pub column : finding.column ≡ place.0
  pub width : finding.width ≡ place.1

-- what is written of it, for people or for programs, in the source that is called so
abbrev pub IsFoundLine : Form → List ℕ → Found → ℕ × ℕ → List ℕ → Type 0
IsFoundLine Form.Text name found place line =
    Begins (said_heading (shown_name name) found.line place.0 (severity_shown found.severity) found.kind) line
IsFoundLine Form.Json name found place line =
    (finding : Finding) × IsFound found place finding × (line ≡ finding_line name finding)

-- with a place in its line of the source
pub record TellsFound (form : Form) (name source : List ℕ) (found : Found) (line : List ℕ) : Type 0 where
  pub place : ℕ × ℕ
  pub placed : IsPlaceIn (line_text source found.line) place.0 place.1
  pub told : IsFoundLine form name found place line

-- one line for each, in their order
abbrev pub AreLines : {A : Type 0} → (A → List ℕ → Type 0) → List A → List ℕ → Type 0
AreLines IsLine [] text = text ≡ []
AreLines IsLine (x ∷ xs) text = (line : List ℕ) × (rest : List ℕ) × IsLine x line × AreLines IsLine xs rest × (text ≡ line ++ rest)

-- ---- what is found

abbrev pub has_any : {A : Type 0} → List A → Bool
has_any [] = false
has_any (x ∷ xs) = true

-- the warnings of a source, if they are asked for
abbrev pub warnings_if : Bool → List ℕ → List Noted
warnings_if asked source = if asked then warnings_of source else []

-- what is written of a source on the output: its faults, none if it assembles, and else all from the one that the
-- assembler answers on; then its warnings
pub record IsReport (s : RawSettings) (how : Manner) (name source text : List ℕ) : Type 0 where
  pub faults : List AsmFault
  pub all : TellsAll s source faults (assembly s source)
  pub lines : AreLines (TellsFound how.form name source)
      (map found_fault faults ++ map found_warning (warnings_if how.warnings source)) text

-- what is told of a source whose assembly spends what a service gives it by default
abbrev pub steps_over : ℕ → List ℕ
steps_over steps = codes ": over " ++ (decimal steps ++ codes " steps: a service doesn't assemble it (--steps)\n")

-- the line of one that is called so
abbrev pub steps_told : List ℕ → List ℕ
steps_told name = shown_name name ++ steps_over STEPS

-- what is written of it on standard error: nothing, or that line if its assembly may spend that
abbrev pub IsNoteOf : List ℕ → List ℕ → List ℕ → Type 0
IsNoteOf name source note = (note ≡ []) ⊎ ((note ≡ steps_told name) × MaySpend STEPS source)

-- whether a source is refused that was read: it doesn't assemble, or it has warnings and these are denied
abbrev pub is_refused : RawSettings → Manner → Option (List ℕ) → Bool
is_refused s how None = false
is_refused s how (Some source) = is_err (assembly s source) || (how.deny && has_any (warnings_if how.warnings source))

abbrev pub status_by : Bool → Bool → Status
status_by unread refused = if unread then Status.StreamFault else (if refused then Status.Refused else Status.Done)

-- this is the answer to a source
pub record IsAnswered (s : RawSettings) (how : Manner) (name source : List ℕ) (answer : AnswerParts) : Type 0 where
  pub status : answer.status ≡ status_by false (is_refused s how (Some source))
  pub report : IsReport s how name source answer.text
  pub note : IsNoteOf name source answer.note
