-- What holds of each run of calls of a device, for every function that makes some.
use Rattle.{std.proofs.Common.{Result, le_refl, le_trans, refl, ◌∙◌}, sector_disk.specs.{Facts.DeviceFacts, Served.{IsKept, IsServed}}}

module _ {D : Type 0} (facts : DeviceFacts D) where
  -- of none
  pub kept_same : (d : D) → IsKept facts d d
  kept_same d = record { same_size = refl; same_laws = ((λ is. is), (λ is. is)); later = le_refl (facts.faults d) }

  -- of one after another
  pub kept_on : (a b c : D) → IsKept facts a b → IsKept facts b c → IsKept facts a c
  kept_on a b c p q = record {
    same_size = q.same_size ∙ p.same_size;
    same_laws = ((λ is. p.same_laws.0 (q.same_laws.0 is)), (λ is. q.same_laws.1 (p.same_laws.1 is)));
    later = le_trans p.later q.later;
  }

  -- of one call
  pub kept_where_served : {T E : Type 0} (a b : D) (r : Result T E) → IsServed facts a b r → IsKept facts a b
  kept_where_served a b r is = record { same_size = is.same_size; same_laws = is.same_laws; later = is.later }
