-- How the slots of peers stand after a call of `Peers`.
use Rattle.std.proofs.Common.{◌≡◌, ℕ, ◌<◌, zero, suc, [], ◌∷◌, ◌++◌, length, get_or, set, Option, None, refl, sym, subst}
use Rattle.{std.proofs.lemmas.List.{get_or-set_other, get_or-set_same, get_or_read, length-set}, koth_session.specs.{Peers.{Moves, MovesAt, OnlyAt, Slots, peer_at}, declared.peer.Peer.Peer}}

module _ {A : Type 0} where
  pub only_set : (slots : Slots A) (n : ℕ) (slot : Option (Peer A)) → OnlyAt n slots (set slots n slot)
  only_set slots n slot = record { size = length-set slots n slot; others = λ p other. get_or-set_other slots n p slot None other }

  -- the peer in it moved on
  pub moves_written : (R : Peer A → Peer A → Type 0) (n : ℕ) (old : Slots A) (was slot : Option (Peer A)) → n < length old → was ≡ get_or old n was
      → Moves R was slot → MovesAt R n old (set old n slot)
  moves_written R n old was slot below is moves = record {
    only = only_set old n slot;
    at =
        subst (λ s. Moves R s (peer_at (set old n slot) n)) (get_or_read old n was below is None)
        (subst (λ s. Moves R was s) (sym (get_or-set_same old n slot None below)) moves);
  }

  pub free_push : (slots : Slots A) → ((p : ℕ) → peer_at slots p ≡ None) → (p : ℕ) → peer_at (slots ++ None ∷ []) p ≡ None
  free_push [] free zero = refl
  free_push [] free (suc p) = refl
  free_push (x ∷ xs) free zero = free zero
  free_push (x ∷ xs) free (suc p) = free_push xs (λ q. free (suc q)) p
