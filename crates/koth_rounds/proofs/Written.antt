-- What a cell holds, and the turns that are written, for `held` and `put_turns`.
use Rattle.std.proofs.Common.{◌≡◌, ℕ, zero, suc, ◌+◌, ◌-◌, ◌*◌, ◌<◌, ◌≤◌, Bool, true, false, List, [], ◌∷◌, ◌++◌, Option, Some, None, get_or, length, take, slice_get, min, refl, sym, ap, subst, ◌∙◌, arith, append-nil}
use Rattle.{std.specs.List.{flat_map, range_with_len}, war_types.specs.declared.instr.Instr.Instr, mars_core.specs.{Cells.{blank, cell}, Round.{Round, after_turn, after_turns, is_over}}}
use Rattle.{koth_replay.proofs.Endings.{after_turn-used, stays-over}, koth_text.proofs.Steps.{next_number, part_more, put_behind}}

-- nothing is loaded past the end of a core
pub not_found : (core : List Instr) (at : ℕ) → slice_get core at ≡ None → blank ≡ cell core at
not_found [] at e = refl
not_found (i ∷ core) zero e = cc
not_found (i ∷ core) (suc at) e = not_found core at e

found_at : (core : List Instr) (at : ℕ) (now : Instr) → slice_get core at ≡ Some now → get_or core at blank ≡ now
found_at [] at now e = cc
found_at (i ∷ core) zero now e = cc
found_at (i ∷ core) (suc at) now e = found_at core at now e

-- what the arena found in a cell
pub now_found : (core : List Instr) (at : ℕ) (found : Option Instr) (now : Instr) → found ≡ slice_get core at → found ≡ Some now → now ≡ cell core at
now_found core at found now found_is found_now = sym (found_at core at now (sym found_is ∙ found_now))

-- ---- a round has two turns at most for each cycle

one_used : (over : Bool) (r : Round) → is_over r ≡ over → (after_turn r).used ≤ r.used + 1
one_used true r is = subst (λ (x : Round). x.used ≤ r.used + 1) (sym (stays-over r (after_turn r) is refl)) (omega arith)
one_used false r is = omega (arith, after_turn-used r is)

used : (n : ℕ) (r : Round) → (after_turns n r).used ≤ r.used + n
unfolding after_turns
used zero r = omega arith
used (suc n) r = omega (arith, one_used _ r refl, used n (after_turn r))

-- so all of them are kept
pub all_kept : (n count : ℕ) (r : Round) → r.used ≡ 0 → count ≡ min n (after_turns n r).used → count ≡ (after_turns n r).used
all_kept n count r none is = omega (arith, none, is, used n r)

-- ---- one event more

pub one_event_put : {X : Type 0} (f : X → List ℕ) (xs : List X) (i : ℕ) (d : X) (start now new : List ℕ) → i < length xs
    → now ≡ start ++ flat_map f (take i xs) → new ≡ now ++ f (get_or xs i d) → new ≡ start ++ flat_map f (take (i + 1) xs)
one_event_put f xs i d start now new below is put =
    put_behind start (flat_map f (take i xs)) (f (get_or xs i d)) (flat_map f (take (i + 1) xs)) now new is put (part_more f xs i d below)

-- ---- turns that are written from one on

module _ (f : ℕ → List ℕ) (start : List ℕ) (from i : ℕ) where
  pub none_so_far : i ≤ from → start ≡ start ++ flat_map f (range_with_len from (i - from))
  none_so_far before =
      let none : i - from ≡ 0 = omega (arith, before) in
      sym (append-nil start) ∙ ap (λ n. start ++ flat_map f (range_with_len from n)) (sym none)

  pub one_more_put : (now new : List ℕ) → from ≤ i → now ≡ start ++ flat_map f (range_with_len from (i - from)) → new ≡ now ++ f i
      → new ≡ start ++ flat_map f (range_with_len from (i + 1 - from))
  one_more_put now new past is put =
      let next : suc (i - from) ≡ i + 1 - from = omega (arith, past) in
      let there : from + (i - from) ≡ i = omega (arith, past) in
      put_behind start (flat_map f (range_with_len from (i - from))) (f i) (flat_map f (range_with_len from (i + 1 - from))) now new is put
      (ap (λ n. flat_map f (range_with_len from n)) (sym next) ∙ next_number f from (i - from)
      ∙ ap (λ n. flat_map f (range_with_len from (i - from)) ++ f n) there)
