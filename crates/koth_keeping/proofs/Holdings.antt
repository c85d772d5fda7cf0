-- One warrior more, in a hill that is given another seed.
use Rattle.std.proofs.Common.{◌≡◌, ℕ, ◌+◌, ◌<◌, true, true≢false, List, [], ◌∷◌, ◌++◌, length, map, take, slice_get, Option, None, Some}
use Rattle.std.proofs.{Common.{inl, inr, sym, ap, subst, arith, ◌∙◌, append_assoc}, lemmas.List.map_more}
use Rattle.std.proofs.lemmas.Option.{get_or_from_slice_get, slice_get_cases, slice_get_within}
use Rattle.{war_types.specs.declared.settings.RawSettings.RawSettings, sector_disk.specs.Facts.DeviceFacts}
use Rattle.hill_store.specs.{declared.reply.Reply.Reply, Seen.Seen, Holding.{HoldsMore, IsHolding, is_answer}}

-- a source that was answered is one of those that the store holds
pub held : {D : Type 0} (facts : DeviceFacts D) (s : RawSettings) (before : List (List ℕ)) (source : List ℕ) (reply : Reply) (store : Seen D)
    → is_answer reply ≡ true → HoldsMore facts s before (source ∷ []) (reply ∷ []) store → IsHolding facts s (before ++ source ∷ []) store
held facts s before source (Reply.Placed entry rank score) store is holds = holds
held facts s before source (Reply.Fell entry score) store is holds = holds
held facts s before source (Reply.Refused fault) store is holds = holds
held facts s before source Reply.Memory store is holds = absurd (true≢false (sym is))
held facts s before source Reply.Worn store is holds = absurd (true≢false (sym is))
held facts s before source Reply.Disk store is holds = absurd (true≢false (sym is))
held facts s before source Reply.Reopen store is holds = absurd (true≢false (sym is))

-- the texts of the first ones, and of one more
pub one_more : {X : Type 0} (f : X → List ℕ) (before : List (List ℕ)) (xs : List X) (i : ℕ) (x : X) → slice_get xs i ≡ Some x
    → (before ++ map f (take i xs)) ++ f x ∷ [] ≡ before ++ map f (take (i + 1) xs)
one_more f before xs i x is =
    append_assoc before (map f (take i xs)) (f x ∷ [])
    ∙ ap (λ l. before ++ l) (ap (λ y. map f (take i xs) ++ f y ∷ []) (sym (get_or_from_slice_get xs i x x is)) ∙ sym (map_more f xs i x (slice_get_within xs i x is)))

-- what is held after one more
pub next : {D X : Type 0} (facts : DeviceFacts D) (s : RawSettings) (f : X → List ℕ) (before : List (List ℕ)) (xs : List X) (i : ℕ) (x : X)
    (store : Seen D) → slice_get xs i ≡ Some x → IsHolding facts s ((before ++ map f (take i xs)) ++ f x ∷ []) store
    → IsHolding facts s (before ++ map f (take (i + 1) xs)) store
next facts s f before xs i x store is holding = subst (λ l. IsHolding facts s l store) (one_more f before xs i x is) holding

-- there is one at each place
pub one_at : {X : Type 0} (xs : List X) (i : ℕ) → i < length xs → (x : X) × (slice_get xs i ≡ Some x)
one_at xs i within = elim (slice_get_cases xs i).1 [
  | inl here ↦ (here.0, here.2)
  | inr past ↦ absurd (omega (arith, within, past.0))
]

-- two that are at a place are the same
pub same_at : {X : Type 0} (xs : List X) (i : ℕ) (x y : X) → slice_get xs i ≡ Some x → slice_get xs i ≡ Some y → x ≡ y
same_at xs i x y one other = sym (get_or_from_slice_get xs i x x one) ∙ get_or_from_slice_get xs i y x other

-- nothing is past them
pub none_at : {X : Type 0} (found : Option X) (x : X) → found ≡ Some x → found ≡ None → ⊥
none_at found x is none = absurd (cc)
