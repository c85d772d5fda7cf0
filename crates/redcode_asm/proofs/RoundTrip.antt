-- The load text of a warrior is a source of that warrior.
use Rattle.{std.proofs.{Common.{◌≡◌, ℕ, ◌≤◌, ◌<◌, List, length, arith}, lemmas.List.Elements.recursion_from_All}}
use Rattle.{war_types.specs.{Warrior.{WarriorParts, HasNumbersBelow}}, redcode_asm.specs.{Assembly.{assembly}, LoadText.load_text}}
use Rattle.{redcode_asm.specs.RoundTrip.AssemblesTo, redcode_asm.proofs.{LoadLemmas.expansion-load_text, AssemblyLemmas.assembly_of-load}}

-- what is the load text assembles to its warrior's code and start
pub AssemblesTo-load_text : (core : ℕ) (text : List ℕ) (w : WarriorParts) → text ≡ load_text core w → AssemblesTo core text w
unfolding assembly
AssemblesTo-load_text core text w is s are same fits =
    let numbers = recursion_from_All (HasNumbersBelow s.core) w.code fits.numbers in
    let few : length w.code ≤ 200 = omega (arith, fits.length, are.length_most) in
    let small : w.start < 65536 = omega (arith, fits.start) in
    rw (is, ← same, expansion-load_text s w numbers are.core_most small few)
    (assembly_of-load s w numbers are.core_most fits.start fits.length are.length_most)
