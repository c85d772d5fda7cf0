use Rattle.{std.proofs.Common.{◌≡◌, ℕ, ◌+◌, ◌%◌, ◌<◌, true, List, ap, refl, sym, ◌∙◌, arith, mod-eq_of_lt}, war_types.specs.{declared.instr.Instr.Instr, declared.instr.Mode.Mode}}
use Rattle.{mars_words.specs.{Numbers.plus, Words.is_plain}, mars_operations.specs.{Operand.{Operand, evaluated}, Whole.{found, operand}}}
use Rattle.mars_operations.proofs.operand.plain.Goals.{in-Immediate, in_default}
use Rattle.mars_operations.proofs.operand.plain.Goals as goal

immediate : (size pc number offset : ℕ) (core : List Instr) (mode : Mode) → pc < size → mode ≡ Mode.Immediate → offset ≡ 0 → operand size core pc mode number ≡ evaluated (found core (plus size pc offset)) core
unfolding operand
immediate size pc number offset core mode inside is e =
    let sum : pc + offset ≡ pc = omega arith in
    let at : plus size pc offset ≡ pc = ap (λ (n : ℕ). n % size) sum ∙ mod-eq_of_lt inside in
    ap (λ (mode : Mode). operand size core pc mode number) is ∙ ap (λ (n : ℕ). evaluated (found core n) core) (sym at)

direct : (size pc number offset : ℕ) (core : List Instr) (mode : Mode) → is_plain mode ≡ true → (mode ≡ Mode.Immediate → ⊥) → offset ≡ number → operand size core pc mode number ≡ evaluated (found core (plus size pc offset)) core
unfolding operand
direct size pc number offset core Mode.Immediate plain not e = absurd (not refl)
direct size pc number offset core Mode.Direct plain not e = ap (λ (n : ℕ). evaluated (found core (plus size pc n)) core) (sym e)
direct size pc number offset core Mode.AIndirect plain not e = cc
direct size pc number offset core Mode.BIndirect plain not e = cc
direct size pc number offset core Mode.APre plain not e = cc
direct size pc number offset core Mode.BPre plain not e = cc
direct size pc number offset core Mode.APost plain not e = cc
direct size pc number offset core Mode.BPost plain not e = cc

pub returns-clause-value : goal.returns-clause-value
returns-clause-value g c =
    let core = c.args.core.now in
    let offset = c.match-mode.offset in
    let points : operand c.args.size core c.args.pc c.args.mode c.args.number ≡ evaluated (found core (plus c.args.size c.args.pc offset)) core =
    elim c.match-mode.branch [
      | in-Immediate w ↦ immediate c.args.size c.args.pc c.args.number offset core c.args.mode c.requires.pc w.in-Immediate.is w.offset-is
      | in_default w ↦ direct c.args.size c.args.pc c.args.number offset core c.args.mode c.requires.plain w.in_default.not-Immediate w.offset-is
    ] in
    points ∙ ap (λ (o : Operand). evaluated o core) (ap (found core) (sym c.plus.ensures.value) ∙ sym c.found.ensures.value)
