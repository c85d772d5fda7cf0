-- A listing without its comments is the load text.
use Rattle.std.proofs.{Common.{◌≡◌, ◌∙◌, ℕ, ◌-◌, ◌+◌, List, [], ◌∷◌, ◌++◌, ap, append-nil, arith, codes, length, refl, sym, take}, Math.Seq.take-append_seam}
use Rattle.std.specs.{List.flat_map, Fmt.decimal}
use Rattle.{war_types.specs.{Warrior.WarriorParts, declared.instr.Instr.Instr}, redcode_statement.specs.InstrLine.{instr_line, left_in, operand_text}}
use Rattle.{redcode_text.specs.Vocabulary.{op_text, modifier_text}, redcode_asm.specs.LoadText.load_text}
use Rattle.redcode_listing.specs.Listing.{instr_text, listed, text_with}

-- a line is what is before its line feed
abbrev body : ℕ → Instr → List ℕ
body core i = left_in 7 (op_text i.op ++ codes "." ++ modifier_text i.modifier) ++ operand_text core i.a_mode i.a ++ codes ", " ++ operand_text core i.b_mode i.b

line_is : (core : ℕ) (i : Instr) → instr_line core i ≡ body core i ++ codes "\n"
unfolding instr_line
line_is core i = refl

length_snoc : (xs : List ℕ) (c : ℕ) → length (xs ++ c ∷ []) ≡ length xs + 1
length_snoc [] c = refl
length_snoc (x ∷ xs) c = let more = length_snoc xs c in omega (arith, more)

length_more : (xs : List ℕ) (c : ℕ) → length (xs ++ c ∷ []) - 1 ≡ length xs
length_more xs c = let more = length_snoc xs c in omega (arith, more)

text_is : (core : ℕ) (i : Instr) → instr_text core i ≡ body core i
text_is core i =
    ap (λ line. take (length line - 1) line) (line_is core i) ∙ ap (λ n. take n (body core i ++ codes "\n")) (length_more (body core i) 10)
    ∙ take-append_seam (body core i) (codes "\n")

-- the line of an instruction with nothing noted
bare : (core : ℕ) (i : Instr) → instr_text core i ++ [] ++ codes "\n" ≡ instr_line core i
bare core i = ap (λ t. t ++ codes "\n") (append-nil (instr_text core i) ∙ text_is core i) ∙ sym (line_is core i)

lines_are : (core at : ℕ) (code : List Instr) → listed (λ i. []) core at code ≡ flat_map (instr_line core) code
lines_are core at [] = refl
lines_are core at (i ∷ is) = ap (λ t. t ++ listed (λ i. []) core (at + 1) is) (bare core i) ∙ ap (λ t. instr_line core i ++ t) (lines_are core (at + 1) is)

pub plain : (core : ℕ) (w : WarriorParts) → text_with (λ i. []) core w ≡ load_text core w
unfolding load_text
plain core w = ap (λ t. codes "ORG " ++ decimal w.start ++ codes "\n" ++ t ++ codes "END\n") (lines_are core 0 w.code)
