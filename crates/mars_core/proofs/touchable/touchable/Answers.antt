-- The addresses are those that the instruction may write.
use Rattle.std.proofs.{Common.{◌≡◌, ℕ, ◌+◌, ◌%◌, ◌<◌, [], ◌∷◌, List, All, sym, ap, ap₂, ◌∙◌, arith, mod-eq_of_lt}, lemmas.List.Elements.{All-cons, All-nil}}
use Rattle.war_types.specs.declared.instr.Instr.{Instr}
use Rattle.{mars_words.specs.{Numbers.{plus, minus, folded, number}, Code.field_of}, mars_core.specs.{Cells.cell, Code.led_by}, mars_core.proofs.Touched.{on_by, executed-same}}
use Rattle.mars_core.proofs.touchable.touchable.Goals as goal

-- what holds of each of eight numbers holds of their list
All-eight : (P : ℕ → Type 0) (a b c d e f g h : ℕ) → P a → P b → P c → P d → P e → P f → P g → P h → All P (a ∷ b ∷ c ∷ d ∷ e ∷ f ∷ g ∷ h ∷ [])
All-eight P a b c d e f g h pa pb pc pd pe pf pg ph =
    All-cons P a (b ∷ c ∷ d ∷ e ∷ f ∷ g ∷ h ∷ []) pa (All-cons P b (c ∷ d ∷ e ∷ f ∷ g ∷ h ∷ []) pb (All-cons P c (d ∷ e ∷ f ∷ g ∷ h ∷ []) pc (All-cons P d (e ∷ f ∷ g ∷ h ∷ []) pd (
    All-cons P e (f ∷ g ∷ h ∷ []) pe (All-cons P f (g ∷ h ∷ []) pf (All-cons P g (h ∷ []) pg (All-cons P h [] ph (All-nil P))))))))

pub returns-clause-same : goal.returns-clause-same
returns-clause-same g c reach size_is write_is =
    let size : ℕ = c.args.size in
    let write : ℕ = c.args.write in
    let pc : ℕ = c.args.pc in
    let core : List Instr = c.args.core.now in
    let none : pc ≡ pc + 0 = omega arith in
    let here : pc ≡ plus size pc 0 = sym (mod-eq_of_lt c.requires.pc) ∙ ap (λ n. n % size) none in
    let i : c.cell-i.result.instr ≡ cell core pc = c.cell-i.ensures.value in
    let a : c.folded-a.result ≡ folded size write (cell core pc).a = c.folded-a.ensures.value ∙ ap (folded size write) (c.number.ensures.value ∙ ap (λ (i : Instr). i.a) i) in
    let b : c.folded-b.result ≡ folded size write (cell core pc).b = c.folded-b.ensures.value ∙ ap (folded size write) (c.number-2.ensures.value ∙ ap (λ (i : Instr). i.b) i) in
    let by : field_of c.led_by.result ≡ led_by (cell core pc).b_mode = c.led_by.ensures ∙ ap led_by (c.b_mode.ensures ∙ ap (λ (i : Instr). i.b_mode) i) in
    let through : c.cell-through.result.instr ≡ cell core (plus size pc (folded size write (cell core pc).b)) =
    c.cell-through.ensures.value ∙ ap (cell core) (c.plus.ensures.value ∙ ap (plus size pc) b) in
    let n = c.number-number.ensures.value ∙ ap₂ number by through in
    let more = c.plus-more.ensures.value ∙ ap (λ n. plus size n 1) n in
    let less = c.minus-less.ensures.value ∙ ap (λ n. minus size n 1) n in
    let lowered = c.minus.ensures.value ∙ ap (λ n. minus size n 1) more in
    let twice = c.minus-2.ensures.value ∙ ap (λ n. minus size n 1) less in
    let on : ℕ → ℕ → ℕ = on_by size write pc in
    let a_at = c.plus-2.ensures.value ∙ ap (plus size pc) a in
    let b_at = c.plus-3.ensures.value ∙ ap (plus size pc) b in
    let on1 = c.led_on.ensures.value ∙ ap₂ on b n in
    let on2 = c.led_on-2.ensures.value ∙ ap₂ on b more in
    let on3 = c.led_on-3.ensures.value ∙ ap₂ on b less in
    let on4 = c.led_on-4.ensures.value ∙ ap₂ on b lowered in
    let on5 = c.led_on-5.ensures.value ∙ ap₂ on b twice in
    executed-same reach size write pc core _ size_is write_is
    (λ t. here t ∷ a_at t ∷ b_at t ∷ on1 t ∷ on2 t ∷ on3 t ∷ on4 t ∷ on5 t ∷ [])

pub returns-clause-addresses : goal.returns-clause-addresses
returns-clause-addresses g c =
    All-eight (λ (a : ℕ). a < c.args.size) _ _ _ _ _ _ _ _ c.requires.pc c.plus-2.ensures.below c.plus-3.ensures.below c.led_on.ensures.below c.led_on-2.ensures.below c.led_on-3.ensures.below c.led_on-4.ensures.below
    c.led_on-5.ensures.below

-- ---- what the calls require

pub cell-i-requires : goal.cell-i-requires
cell-i-requires g c = record { core = c.requires.core; address = c.requires.pc }

pub folded-a-requires : goal.folded-a-requires
folded-a-requires g c = record { least = c.requires.write_least; most = c.requires.write_most }

pub folded-b-requires : goal.folded-b-requires
folded-b-requires g c = record { least = c.requires.write_least; most = c.requires.write_most }

pub plus-requires : goal.plus-requires
plus-requires g c = record { m = c.requires.pc; n = omega (arith, c.folded-b.ensures.below) }

pub cell-through-requires : goal.cell-through-requires
cell-through-requires g c = record { core = c.requires.core; address = c.plus.ensures.below }

pub plus-more-requires : goal.plus-more-requires
plus-more-requires g c = record { m = c.number-number.ensures.below c.args.size c.cell-through.ensures.numbers; n = c.requires.core.some }

pub minus-less-requires : goal.minus-less-requires
minus-less-requires g c = record { m = c.number-number.ensures.below c.args.size c.cell-through.ensures.numbers; n = c.requires.core.some }

pub plus-requires-2 : goal.plus-requires-2
plus-requires-2 g c = record { m = c.requires.pc; n = omega (arith, c.folded-a.ensures.below) }

pub plus-requires-3 : goal.plus-requires-3
plus-requires-3 g c = record { m = c.requires.pc; n = omega (arith, c.folded-b.ensures.below) }

pub led_on-requires : goal.led_on-requires
led_on-requires g c = record { pc = c.requires.pc; write_least = c.requires.write_least; write_most = c.requires.write_most }

pub led_on-requires-2 : goal.led_on-requires-2
led_on-requires-2 g c = record { pc = c.requires.pc; write_least = c.requires.write_least; write_most = c.requires.write_most }

pub led_on-requires-3 : goal.led_on-requires-3
led_on-requires-3 g c = record { pc = c.requires.pc; write_least = c.requires.write_least; write_most = c.requires.write_most }

pub led_on-requires-4 : goal.led_on-requires-4
led_on-requires-4 g c = record { pc = c.requires.pc; write_least = c.requires.write_least; write_most = c.requires.write_most }

pub led_on-requires-5 : goal.led_on-requires-5
led_on-requires-5 g c = record { pc = c.requires.pc; write_least = c.requires.write_least; write_most = c.requires.write_most }

pub minus-requires : goal.minus-requires
minus-requires g c = record { m = c.plus-more.ensures.below; n = c.requires.core.some }

pub minus-requires-2 : goal.minus-requires-2
minus-requires-2 g c = record { m = c.minus-less.ensures.below; n = c.requires.core.some }
