-- The assembly of a source: the warrior, or the first fault in the order of the refusals.
use Rattle.std.specs.Prelude.{◌≡◌, ◌⊎◌, ℕ, nat_lt, if◌then◌else◌, Bool, true, false, List, [], ◌∷◌, length, flat_map, Option, Some, None, Result, Ok, Err, unwrap_or, codes, ℤ, pos, negsuc}
use Rattle.{std.specs.Option.option_or, war_types.specs.{declared.fault.AsmKind.AsmKind, declared.fault.AsmFault.AsmFault, declared.instr.Instr.Instr}}
use Rattle.{war_types.specs.{declared.settings.RawSettings.RawSettings, Fault.no_memory, Title.title_of, Warrior.{WarriorParts, warrior_parts}}, redcode_text.specs.Operators.is_zero}
use Rattle.{redcode_lines.specs.declared.line.LineKind.LineKind, redcode_statement.specs.{declared.statement.Statement.Statement, Chain.◌>>=◌, Statement.instr_said}}
use Rattle.{redcode_names.specs.{Gives.fault_at, Name.LabelList}, redcode_expand.specs.Expansion.{ExpandedLine, Expansion, expansion}, redcode_asm.specs.Said.statement_of}

-- a statement with the source line that it stands on
abbrev pub Placed : Type 0
Placed = ℕ × Statement

-- ---- the first line with a fault

abbrev pub said_at : ℕ → Result Statement AsmKind → Result Placed AsmFault
said_at line (Ok statement) = Ok (line, statement)
said_at line (Err kind) = Err (fault_at line kind)

abbrev pub said_on : RawSettings → LabelList → ExpandedLine → Result Placed AsmFault
said_on s labels line = said_at line.source_line (statement_of s labels line)

-- what the lines say one after another, or the first fault among them
abbrev pub all_said : RawSettings → LabelList → List ExpandedLine → Result (List Placed) AsmFault
all_said s labels [] = Ok []
all_said s labels (line ∷ others) = said_on s labels line >>= λ first. all_said s labels others >>= λ behind. Ok (first ∷ behind)

-- ---- the code

abbrev pub code_of : List Placed → List Instr
code_of said = flat_map (λ s. instr_said s.1) said

-- code of 1 to `limit` instructions
abbrev pub of_length : ℕ → List Instr → Result (Unit {0}) AsmFault
of_length limit [] = Err (fault_at 0 AsmKind.Empty)
of_length limit (i ∷ is) = if nat_lt limit (length (i ∷ is)) then Err (fault_at 0 AsmKind.TooLong) else Ok tt

-- ---- the start

-- the last of what some elements give
abbrev pub last_of : {X Y : Type 0} → (X → Option Y) → List X → Option Y
last_of gives [] = None
last_of gives (x ∷ xs) = option_or (last_of gives xs) (gives x)

-- the line and the value of an ORG, or of an END
abbrev pub org_at : ℕ → Statement → Option (ℕ × ℤ)
org_at line (Statement.Org z) = Some (line, z)
org_at line _ = None

abbrev pub end_at : ℕ → Statement → Option (ℕ × ℤ)
end_at line (Statement.End z) = Some (line, z)
end_at line _ = None

abbrev pub org_of : Placed → Option (ℕ × ℤ)
org_of said = org_at said.0 said.1

abbrev pub end_of : Placed → Option (ℕ × ℤ)
end_of said = end_at said.0 said.1

-- the last ORG's, else that of END
abbrev pub given_start : List Placed → Option (ℕ × ℤ)
given_start said = option_or (last_of org_of said) (last_of end_of said)

-- the start among `count` instructions, 0 if none is given
abbrev pub start_of : ℕ → Option (ℕ × ℤ) → Result ℕ AsmFault
start_of count None = Ok 0
start_of count (Some (line, pos n)) = if nat_lt n count then Ok n else Err (fault_at line AsmKind.BadStart)
start_of count (Some (line, negsuc n)) = Err (fault_at line AsmKind.BadStart)

-- ---- the assertions

abbrev pub is_false : Statement → Bool
is_false (Statement.Assert z) = is_zero z
is_false _ = false

-- no assertion has the value 0; the first that has it is refused
abbrev pub all_hold : List Placed → Result (Unit {0}) AsmFault
all_hold [] = Ok tt
all_hold (s ∷ ss) = if is_false s.1 then Err (fault_at s.0 AsmKind.AssertFalse) else all_hold ss

-- ---- the titles

abbrev pub title_if : Bool → List ℕ → Option (List ℕ)
title_if true title = Some title
title_if false title = None

abbrev pub is_name : LineKind → Bool
is_name LineKind.Name = true
is_name _ = false

abbrev pub is_author : LineKind → Bool
is_author LineKind.Author = true
is_author _ = false

-- the text of the last line of a kind, none if no line is of that kind
abbrev pub last_text : (LineKind → Bool) → List ExpandedLine → Option (List ℕ)
last_text is_kind all = last_of (λ line. title_if (is_kind line.kind) line.title) all

abbrev pub name_of : List ExpandedLine → List ℕ
name_of all = title_of (unwrap_or (last_text is_name all) []) (codes "Unnamed")

abbrev pub author_of : List ExpandedLine → List ℕ
author_of all = title_of (unwrap_or (last_text is_author all) []) (codes "Anonymous")

-- ---- the warrior

-- a warrior without titles
abbrev pub warrior_with : List Instr → ℕ → WarriorParts
warrior_with code start = warrior_parts code start (codes "Unnamed") (codes "Anonymous")

-- the start of code that is neither too short nor too long, if no assertion fails
abbrev pub checked_start : ℕ → List Placed → Result ℕ AsmFault
checked_start limit said =
    of_length limit (code_of said) >>= λ _.
    start_of (length (code_of said)) (given_start said) >>= λ start.
    all_hold said >>= λ _.
    Ok start

-- the warrior of lines that say this
abbrev pub warrior_said : RawSettings → List ExpandedLine → List Placed → Result WarriorParts AsmFault
warrior_said s all said = checked_start s.length said >>= λ start. Ok (warrior_parts (code_of said) start (name_of all) (author_of all))

abbrev pub assembly_of : RawSettings → Expansion → Result WarriorParts AsmFault
assembly_of s e = all_said s e.labels e.lines >>= warrior_said s e.lines

-- the warrior that a source gives under these settings, or the refusal
unfoldable pub assembly : RawSettings → List ℕ → Result WarriorParts AsmFault
assembly s source = expansion s source >>= assembly_of s

-- what was found is what was expected, unless memory ran out
abbrev pub Assembles : Result WarriorParts AsmFault → Result WarriorParts AsmFault → Type 0
Assembles found expected = (found ≡ Err no_memory) ⊎ (found ≡ expected)
