-- A line with the names of EQUs replaced, and all lines so, one after another.
use Rattle.std.proofs.Common.{◌≡◌, ℕ, ◌<◌, ◌≤◌, ◌+◌, Bool, true, false, nat_lt, if◌then◌else◌, le-ltb, sym, ap, ◌∙◌, lt-ltb, subst, List, [], ◌∷◌, ◌++◌, length, take_at, take_all, Result, Ok, Err, append-nil, length-append, arith, append_assoc, refl}
use Rattle.{war_types.specs.declared.fault.AsmKind.AsmKind, redcode_lines.specs.Operand.operands_of, redcode_names.specs.Gives.{Fails, fault_at, ◌>>=◌}, redcode_names.proofs.Unchanged.tokens-same, redcode_names.{specs.{Equ.replaced, Steps.{replacing_steps, rounds_steps}}, proofs.Steps.replacing-all}}
use Rattle.{redcode_expand.specs.{Expansion.{ExpandedLine, line_replaced, all_replaced}, Taken.line_steps}, redcode_expand.proofs.Words.{AsmFault, Piece, EquList, has_equ}}

pub replaced-long : (line : ℕ) (equs : EquList) (ts : List Piece) → 512 < length ts → replaced line equs ts ≡ Err (fault_at line AsmKind.EquLimit)
unfolding replaced
replaced-long line equs ts long = rw (lt-ltb 512 (length ts) long) refl

-- ---- what becomes of a line without the name of an EQU

-- it stays as it is
pub line-same : (equs : EquList) (line : ExpandedLine) (operands : List Piece) → operands ≡ operands_of line.kind line.tokens
    → has_equ equs operands ≡ false → length operands ≤ 512 → line_replaced equs line ≡ Ok line
line-same equs line operands h1 h2 h3 = grind (arith, tokens-same, length-append, take_at, append-nil, take_all)

-- or it has too many tokens
pub line-over : (equs : EquList) (line : ExpandedLine) (operands : List Piece) (fault : AsmFault) → operands ≡ operands_of line.kind line.tokens
    → 512 < length operands → fault ≡ fault_at line.source_line AsmKind.EquLimit → Fails fault (line_replaced equs line)
line-over equs line operands fault h1 h2 h3 = grind (arith, replaced-long)

-- its operands are read if the name of an EQU is among them
pub line-read : (equs : EquList) (line : ExpandedLine) (operands : List Piece) (work old : ℕ) → operands ≡ operands_of line.kind line.tokens → length operands ≤ 512 → has_equ equs operands ≡ true
    → work ≤ old + rounds_steps 16 equs (operands_of line.kind line.tokens) → work ≤ old + line_steps equs line
line-read equs line operands work old are short some few =
    let whole : rounds_steps 16 equs (operands_of line.kind line.tokens) ≡ line_steps equs line =
    ap (rounds_steps 16 equs) (sym are) ∙ sym (replacing-all equs operands some) ∙ sym (ap (λ (b : Bool). if b then 0 else replacing_steps equs operands) (le-ltb 512 (length operands) short))
    ∙ ap (λ (ts : List Piece). if nat_lt 512 (length ts) then 0 else replacing_steps equs ts) are in
    subst (λ (n : ℕ). work ≤ old + n) whole few

-- without EQUs no line has one
pub none-named : (equs : EquList) (tokens : List Piece) → length equs ≡ 0 → has_equ equs tokens ≡ false
none-named equs [] none = refl
none-named [] (token ∷ tokens) none = grind (arith, none-named [] tokens none)
none-named (equ ∷ equs) (token ∷ tokens) none = grind arith

-- ---- all lines

-- lines before those that are left
abbrev pub with_front : List ExpandedLine → Result (List ExpandedLine) AsmFault → Result (List ExpandedLine) AsmFault
with_front front behind = behind >>= λ others. Ok (front ++ others)

-- a further line was replaced
pub line-kept : (equs : EquList) (left others lines after : List ExpandedLine) (entry line : ExpandedLine) (due : Result (List ExpandedLine) AsmFault) → left ≡ entry ∷ others
    → line_replaced equs entry ≡ Ok line → after ≡ lines ++ line ∷ [] → with_front lines (all_replaced equs left) ≡ due → with_front after (all_replaced equs others) ≡ due
line-kept equs left others lines after entry line due h1 h2 h3 h4 = grind (arith, append_assoc)

-- a further line was refused
pub line-fails : (equs : EquList) (left others lines : List ExpandedLine) (entry : ExpandedLine) (fault : AsmFault) (due : Result (List ExpandedLine) AsmFault) → left ≡ entry ∷ others
    → Fails fault (line_replaced equs entry) → with_front lines (all_replaced equs left) ≡ due → Fails fault due
line-fails equs left others lines entry fault due h1 h2 h3 = grind arith
