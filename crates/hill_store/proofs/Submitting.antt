-- A submission that is begun, and fought in steps.
use Rattle.{std.proofs.Common.{◌≡◌, sym, subst}, hill_store.specs.{Seen.Seen, Submission.{SubmissionParts, IsSubmitting}}}

-- a submission to a store as it is inside
pub submitting_inside : {D : Type 0} (old now : Seen D) (x y : SubmissionParts) → old ≡ now → x ≡ y → IsSubmitting now y → IsSubmitting old x
submitting_inside old now x y same is submitting =
    subst (λ (s : Seen _). IsSubmitting s x) (sym same) (subst (λ (z : SubmissionParts). IsSubmitting now z) (sym is) submitting)
