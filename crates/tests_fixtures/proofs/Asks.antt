-- `refuses` at a call: what it takes, and that a `bool` and the token come back. Assumes `Logic`.
use base.Logic.{ex, guard, sep}
use types.Kit.{feq_l, check, show, updating, now as at_once}
use types.Logic.{sem}
use denote.Builtin.{bool}
use denote.Memory.{hidden_shr}
use denote.RattleType.{RattleType}
use denote.Steps.{only}
use denote.Triple.Statement.{Contract}
use Rattle.std.proofs.Common.{ap}
use Rattle.tests_fixtures.proofs.Shared.{◌≡◌, ℕ, Bool, List, [], ◌∷◌, refl, Ura, Val, vbool, vptr, ent, SProp, id⊢, Lft, Share, ftrue, fsep, flft, Memory, Routine, Logic, ‵, raw, ◌⊛◌, some}
use Rattle.tests_fixtures.proofs.Shared.{later, ◌$◌, ◌∵◌, !, qed, done, move, keep, use1, split, join, pick, fjoin, feq_i, await, Fun, nothing, triple_of}
use Rattle.std.specs.contracts.cell.Cell as Cells
use Rattle.tests_fixtures.specs.contracts.plan.Plan as Plans
use Rattle.tests_fixtures.specs.contracts.refuses as callee

abbrev PlanCell : RattleType
PlanCell = Cells.the_row Plans.the_row

module _ {M : Type 1} {𝓤 : Ura M} (𝓛 : Logic 𝓤) (at_mem : Memory → SProp 𝓤) (run : Routine → Fun 𝓤) where
  abbrev pub Asks : Contract 𝓤
  Asks = triple_of 𝓛 callee.signature (callee.spec 𝓛 at_mem run)

  module _ (κ : Lft) (q : Share) (c : ℕ × ℕ) where
    open 𝓛 use {H, A}

    abbrev pub at_asks : Asks.Ghost
    at_asks = (((κ, tt), (q, tt), tt, (record { ref_ptr = c; now = record { value = tt } }, tt), (vptr c.0 c.1 ∷ [], tt)), tt)

    pub Asks-goes : ent 𝓤 (sep 𝓤 (sem 𝓛 (hidden_shr PlanCell κ (record { value = tt }) c.0 c.1)) (A.lft κ q)) (Asks.pre at_asks)
    Asks-goes =
        qed 𝓛 (‵ (hidden_shr PlanCell κ (record { value = tt }) c.0 c.1) ∷ ‵ (flft κ q) ∷ []) ∵
        -- the list of the arguments, then the list of the tokens, then no clause
        feq_i ! (List Val) (vptr c.0 c.1 ∷ []) (vptr c.0 c.1 ∷ []) refl $ fjoin ! $ nothing ! $ move ! (1 ∷ []) $ fjoin ! $
        nothing ! $ move ! (2 ∷ []) $ join ! $ join ! $ nothing ! $ move ! (1 ∷ []) $ done !

    pub Asks-gives : (v : Val) → ent 𝓤 (Asks.post at_asks v) (H.⇛ (ex 𝓤 (λ (t : Bool). guard 𝓤 (v ≡ vbool t) (A.lft κ q))))
    Asks-gives v =
        qed 𝓛 (raw (Asks.post at_asks v) ∷ []) ∵ updating ! $
        use1 𝓛 (later (some (λ (t : Bool). ((‵ (flft κ q) ⊛ ‵ ftrue) ⊛ ‵ (bool.own_val t (v ∷ []))) ⊛
        some (λ (ws : Unit {0} × Unit {0}). ‵ (fsep ftrue ftrue) ⊛ ‵ ftrue)))) (id⊢ 𝓤 _) $ await ! tt $ pick ! (λ t.
        split ! $ split ! $ move ! (1 ∷ []) $ feq_l ! (λ e. split ! $ at_once ! $
        show ! (λ (t : Bool). guard 𝓤 (v ≡ vbool t) (A.lft κ q)) t $ check ! (ap only e) $ keep ! (0 ∷ []) $ done !))
