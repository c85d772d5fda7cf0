-- One sector: what it may hold after a stop, and the last of its contents.
use Rattle.{std.proofs.Common.{◌≡◌, ℕ, zero, suc, ◌⊎◌, inl, inr, List, [], ◌∷◌, ◌++◌, take, refl}, sector_disk.specs.{Disk.last_of, Image.MayHold}}

-- the last content written is the last
pub last_of-append : (stable : List ℕ) (contents : List (List ℕ)) (content : List ℕ) → last_of stable (contents ++ content ∷ []) ≡ content
last_of-append stable [] content = refl
last_of-append stable (first ∷ contents) content = last_of-append first contents content

-- a sector may hold its last content
pub may_hold_last : (stable : List ℕ) (contents : List (List ℕ)) → MayHold stable contents (last_of stable contents)
may_hold_last stable [] = refl
may_hold_last stable (first ∷ []) = inl refl
may_hold_last stable (first ∷ second ∷ contents) = inr (may_hold_last stable (second ∷ contents))

-- after one more write it may hold what it might before
pub may_hold_more : (stable : List ℕ) (contents : List (List ℕ)) (content held : List ℕ) → MayHold stable contents held → MayHold stable (contents ++ content ∷ []) held
may_hold_more stable [] content held is = inr is
may_hold_more stable (first ∷ contents) content held (inl is) = inl is
may_hold_more stable (first ∷ contents) content held (inr may) = inr (may_hold_more stable contents content held may)

-- and the content written
pub may_hold_written : (stable : List ℕ) (contents : List (List ℕ)) (content : List ℕ) → MayHold stable (contents ++ content ∷ []) content
may_hold_written stable [] content = inl refl
may_hold_written stable (first ∷ contents) content = inr (may_hold_written stable contents content)

-- and nothing else
pub may_hold_no_other : (stable : List ℕ) (contents : List (List ℕ)) (content held : List ℕ) → MayHold stable (contents ++ content ∷ []) held → MayHold stable contents held ⊎ (held ≡ content)
may_hold_no_other stable [] content held (inl is) = inr is
may_hold_no_other stable [] content held (inr is) = inl is
may_hold_no_other stable (first ∷ contents) content held (inl is) = inl (inl is)
may_hold_no_other stable (first ∷ contents) content held (inr may) =
    elim (may_hold_no_other stable contents content held may) [ inl before ↦ inl (inr before) | inr is ↦ inr is ]

-- a number names one of the contents that a sector may hold
pub may_hold_chosen : (stable : List ℕ) (contents : List (List ℕ)) (k : ℕ) → MayHold stable contents (last_of stable (take k contents))
may_hold_chosen stable contents zero = may_hold_stable stable contents
  where
    may_hold_stable : (stable : List ℕ) (contents : List (List ℕ)) → MayHold stable contents stable
    may_hold_stable stable [] = refl
    may_hold_stable stable (first ∷ contents) = inr (may_hold_stable stable contents)
may_hold_chosen stable [] (suc k) = refl
may_hold_chosen stable (first ∷ contents) (suc zero) = inl refl
may_hold_chosen stable (first ∷ []) (suc (suc k)) = inl refl
may_hold_chosen stable (first ∷ second ∷ contents) (suc (suc k)) = inr (may_hold_chosen stable (second ∷ contents) (suc k))
