-- The warrior of the lines of a load text.
use Rattle.{std.proofs.Common.{◌≡◌, ℕ, ◌+◌, ◌≤◌, ◌<◌, Bool, false, List, [], ◌∷◌, length, None, Some, Ok, pos, refl, arith, lt-ltb}, std.specs.{Fmt.decimal, List.AllByRecursion}}
use Rattle.{std.proofs.lemmas.Bool.Decides.nat_tests, war_types.specs.{declared.instr.Instr.Instr, declared.settings.RawSettings.RawSettings, Warrior.{WarriorParts, HasNumbersBelow}}}
use Rattle.{redcode_text.specs.declared.vocabulary.Word.Word, redcode_lines.specs.declared.line.LineKind.LineKind, redcode_statement.specs.declared.statement.Statement.Statement}
use Rattle.redcode_statement.proofs.{OperandLemmas.{Spells-decimal, number_token}, InstrLemmas.{not_bad-line, instruction_of-line, parted-front}}
use Rattle.redcode_asm.specs.{Names.values_of, Said.said_by, Assembly.{Placed, all_said, code_of, org_of, last_of, all_hold, of_length, last_text, is_name, is_author, warrior_with, assembly_of}}
use Rattle.redcode_asm.proofs.LoadLemmas.{org_tokens, code_lines, load_lines}
use Rattle.redcode_lines.specs.declared.line.LineKind.TheVariants as lines

-- what the lines of this code and END say, from this line number on
abbrev said_lines : ℕ → List Instr → List Placed
said_lines n [] = (n, Statement.Nothing) ∷ []
said_lines n (i ∷ is) = (n, Statement.Instruction i) ∷ said_lines (n + 1) is

said_by-org : (s : RawSettings) (start : ℕ) → start < 65536 → said_by s [] lines.Org (Some Word.Org) 0 (org_tokens start) ≡ Ok (Statement.Org (pos start))
unfolding said_by
said_by-org s start small =
    let number = (Spells-decimal start small).0 in
    let whole = parted-front (number_token (decimal start) ∷ []) [] number.inside refl in
    rw (whole.0, whole.1, number.value (values_of s [] 0 0)) refl

all_said-code : (s : RawSettings) (n before : ℕ) (code : List Instr) → AllByRecursion (HasNumbersBelow s.core) code → s.core ≤ 65535
    → all_said s [] (code_lines s.core n before code) ≡ Ok (said_lines n code)
unfolding said_by
all_said-code s n before [] below most = refl
all_said-code s n before (i ∷ is) below most =
    let first = instruction_of-line s.core (values_of s [] before before) i below.0 most in
    rw (not_bad-line s.core i, first, all_said-code s (n + 1) (before + 1) is below.1 most) refl

-- they have the code, no ORG and no assertion
said_lines-have : (n : ℕ) (code : List Instr)
    → (code_of (said_lines n code) ≡ code) × (last_of org_of (said_lines n code) ≡ None) × (all_hold (said_lines n code) ≡ Ok tt)
said_lines-have n [] = (refl, refl, refl)
said_lines-have n (i ∷ is) = let others = said_lines-have (n + 1) is in (rw others.0 refl, rw others.1 refl, others.2)

-- nor a title
no_title : (is_kind : LineKind → Bool) (core n before : ℕ) (code : List Instr) → is_kind lines.Operation ≡ false → is_kind lines.End ≡ false → last_text is_kind (code_lines core n before code) ≡ None
no_title is_kind core n before [] operation end = rw end refl
no_title is_kind core n before (i ∷ is) operation end = rw (no_title is_kind core (n + 1) (before + 1) is operation end, operation) refl

-- the lines of a load text give its warrior's code and start
pub assembly_of-load : (s : RawSettings) (w : WarriorParts) → AllByRecursion (HasNumbersBelow s.core) w.code → s.core ≤ 65535 → w.start < length w.code → length w.code ≤ s.length → s.length ≤ 200
    → assembly_of s (record { lines = load_lines s.core w; labels = [] }) ≡ Ok (warrior_with w.code w.start)
assembly_of-load s w below most starts few limit =
    let said = said_lines-have 2 w.code in
    let fits : of_length s.length w.code ≡ Ok tt = grind (arith, nat_tests) in
    rw (
      said_by-org s w.start (omega arith),
      all_said-code s 2 0 w.code below most,
      said.0,
      fits,
      said.1,
      lt-ltb w.start (length w.code) starts,
      said.2,
      no_title is_name s.core 2 0 w.code refl refl,
      no_title is_author s.core 2 0 w.code refl refl,
    ) refl
