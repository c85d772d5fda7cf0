use Rattle.std.proofs.{Common.{◌≡◌, ◌<◌, None, Some, ◌∷◌, [], ◌++◌, length, take, get_or, arith, sym, ap, ◌∙◌}, lemmas.List.{take_more, take_all}, lemmas.List.Elements.All-get_or}
use Rattle.{war_types.specs.{declared.instr.Instr.Instr, Warrior.HasNumbersBelow}, hill_bytes.proofs.SlotBytes.any-instr}
use Rattle.hill_bytes.proofs.slot.Slot.read_code.Goals as goal

pub returns-in-None : goal.returns-in-None
returns-in-None g c = λ is behind size below stands.
    let i = c.loop-place.place in
    let inside : i < length is = omega arith in
    let other : Instr = any-instr is i inside in
    let some : c.instr_at.result ≡ Some (get_or is i other) = c.instr_at.ensures is behind other inside (All-get_or (HasNumbersBelow c.args.core) is i other inside below) stands in
    let none : c.instr_at.result ≡ None = c.in-None.is in
    cc

pub loop-place-preserved : goal.loop-place-preserved
loop-place-preserved g c = λ is behind size below stands.
    let i = c.loop-place.place in
    let inside : i < length is = omega arith in
    let other : Instr = any-instr is i inside in
    let some : c.instr_at.result ≡ Some (get_or is i other) = c.instr_at.ensures is behind other inside (All-get_or (HasNumbersBelow c.args.core) is i other inside below) stands in
    let was : c.instr_at.result ≡ Some c.in-Some.instr = c.in-Some.is in
    let same : c.in-Some.instr ≡ get_or is i other = cc in
    let pushed : c.push.new.self.items ≡ c.loop-place.code.items ++ c.in-Some.instr ∷ [] = c.in_ok-push-in-Some.ensures.items in
    pushed ∙ ap (λ xs. xs ++ c.in-Some.instr ∷ []) (c.loop-place.invariant is behind size below stands) ∙ ap (λ x. take i is ++ x ∷ []) same ∙ sym (take_more is i other inside)

pub returns : goal.returns
returns g c = λ is behind size below stands.
    c.loop-place.invariant is behind size below stands ∙ take_all c.loop-place.place is (omega arith)
