-- A source with another body for the `EQU` lines of a name, if a definition is given.
use Rattle.std.specs.Prelude.{◌≡◌, ◌⊎◌, ℕ, Option, None, Some, List}
use Rattle.redcode_define.specs.{Define.defined, Definition.definition_of}
use Rattle.koth_commands.specs.{Trouble.no_memory, declared.trouble.{Fault.Fault, Trouble.Trouble}}

-- the source by a definition, if that is one
abbrev pub text_of : Option (List ℕ × List ℕ) → List ℕ → Option (List ℕ)
text_of None source = None
text_of (Some definition) source = defined source definition.0 definition.1

-- what is assembled in place of a source: with the body of this definition for those of its name. Nothing if it is no
-- definition, or if no line of the source that is read defines the name
abbrev pub text_by : Option (List ℕ) → List ℕ → Option (List ℕ)
text_by None source = Some source
text_by (Some words) source = text_of (definition_of words) source

abbrev pub fault_of : Option (List ℕ × List ℕ) → Fault
fault_of None = Fault.BadDefine
fault_of (Some definition) = Fault.NoEqu

-- why nothing is
abbrev pub fault_by : Option (List ℕ) → Fault
fault_by None = Fault.NoEqu
fault_by (Some words) = fault_of (definition_of words)

-- nothing is assembled for that reason
abbrev pub HasNoText : Option (List ℕ) → List ℕ → Trouble → Type 0
HasNoText define source trouble = (text_by define source ≡ None) × (trouble.fault ≡ fault_by define)

-- the same, or memory ran out
abbrev pub IsUndefined : Option (List ℕ) → List ℕ → Trouble → Type 0
IsUndefined define source trouble = (trouble ≡ no_memory) ⊎ HasNoText define source trouble
