-- A challenge that is fought in steps.
use Rattle.std.proofs.Common.{◌≡◌, ◌⊎◌, inl, inr, ℕ, ◌<◌, ◌≤◌, List, [], ◌∷◌, ◌++◌, length, take, slice_get, Option, None, Some, IfSome, sym, ap, subst, ◌∙◌, arith}
use Rattle.std.proofs.{lemmas.List.{map-append, take_all, take_more}, lemmas.Option.{get_or_from_slice_get, slice_get_cases, slice_get_within}}
use Rattle.{war_types.specs.{declared.settings.RawSettings.RawSettings, Warrior.WarriorParts}, koth_match.specs.{declared.bout.Bout.Bout, Match.{match_of, IsPlayed}}}
use Rattle.koth_hill.specs.{declared.challenge.Challenge.Challenge, Hill.Member, Step.matches_with, Kept.{Kept, IsKept, fresh}}
use Rattle.koth_hill.specs.Challenge.{EndsMatchWith, GoesOnWith, IsUnderWay}

none_some : {X : Type 0} (x : X) → None ≡ Some x → ⊥
none_some x e = cc

past : {X : Type 0} (xs : List X) (i : ℕ) → None ≡ slice_get xs i → length xs ≤ i
past xs i none = elim ((slice_get_cases xs i).1) [
  | inl here ↦ absurd (none_some here.0 (none ∙ here.2))
  | inr beyond ↦ beyond.0
]

module _ (turns : ℕ) (k : Kept) (w : WarriorParts) (old new : Challenge) where
  went_on : (m : Member) → IsUnderWay k w old → slice_get k.members (length old.bouts) ≡ Some m → GoesOnWith turns k.settings m.warrior w old new → IsUnderWay k w new
  went_on m is at goes = record {
    few = subst (λ (bs : List Bout). length bs ≤ length k.members) (sym goes.step.bouts) is.few;
    fought = goes.step.bouts ∙ is.fought ∙ ap (λ (bs : List Bout). matches_with k.settings (take (length bs) k.members) w) (sym goes.step.bouts);
    next = subst (λ (bs : List Bout). IfSome (slice_get k.members (length bs)) (λ x. IsPlayed k.settings x.warrior w new.under_way)) (sym goes.step.bouts)
        (subst (λ (o : Option Member). IfSome o (λ x. IsPlayed k.settings x.warrior w new.under_way)) (sym at) goes.played);
    left = goes.step.left;
  }

  each_next : (o : Option Member) → ((other : WarriorParts) → IsPlayed k.settings other w new.under_way) → IfSome o (λ x. IsPlayed k.settings x.warrior w new.under_way)
  each_next None next = tt
  each_next (Some m) next = next m.warrior

  ended : (m : Member) → 1 ≤ k.settings.rounds → IsUnderWay k w old → slice_get k.members (length old.bouts) ≡ Some m → EndsMatchWith turns k.settings m.warrior w old new → IsUnderWay k w new
  ended m some is at ends = record {
    few = omega (arith, ends.step.bouts, slice_get_within k.members (length old.bouts) m at);
    fought = ends.fought ∙ ap (λ (bs : List Bout). bs ++ match_of k.settings m.warrior w ∷ []) is.fought
        ∙ sym (map-append (λ (x : Member). match_of k.settings x.warrior w) (take (length old.bouts) k.members) (m ∷ []))
        ∙ ap (λ (ms : List Member). matches_with k.settings ms w)
        (ap (λ (x : Member). take (length old.bouts) k.members ++ x ∷ []) (sym (get_or_from_slice_get k.members (length old.bouts) m m at))
        ∙ sym (take_more k.members (length old.bouts) m (slice_get_within k.members (length old.bouts) m at)))
        ∙ ap (λ (n : ℕ). matches_with k.settings (take n k.members) w) (sym ends.step.bouts);
    next = each_next (slice_get k.members (length new.bouts)) ends.next;
    left = omega (arith, ends.step.round, some);
  }

  stepped : (m : Member) → 1 ≤ k.settings.rounds → IsUnderWay k w old → slice_get k.members (length old.bouts) ≡ Some m
      → GoesOnWith turns k.settings m.warrior w old new ⊎ EndsMatchWith turns k.settings m.warrior w old new → IsUnderWay k w new
  stepped m some is at (inl goes) = went_on m is at goes
  stepped m some is at (inr ends) = ended m some is at ends

  -- a step leaves a challenge of the same warrior to the same hill
  pub under_way_still : (m : Member) (older : WarriorParts) (s : RawSettings) (bs : List Bout) → IsKept k → s ≡ k.settings → older ≡ m.warrior → bs ≡ old.bouts → Some m ≡ slice_get k.members (length bs)
      → IsUnderWay k w old → GoesOnWith turns s older w old new ⊎ EndsMatchWith turns s older w old new → IsUnderWay k w new
  under_way_still m older s bs kept settings warrior bouts here is fought =
      stepped m kept.hill.settings.rounds_least is (ap (λ (x : List Bout). slice_get k.members (length x)) (sym bouts) ∙ sym here)
      (subst (λ (x : WarriorParts). GoesOnWith turns k.settings x w old new ⊎ EndsMatchWith turns k.settings x w old new) warrior
      (subst (λ (x : RawSettings). GoesOnWith turns x older w old new ⊎ EndsMatchWith turns x older w old new) settings fought))

-- a member is left to fight
pub one_left : (k : Kept) (m : Member) (bouts bs : List Bout) → bs ≡ bouts → Some m ≡ slice_get k.members (length bs) → length bouts < length k.members
one_left k m bouts bs same here =
    subst (λ (x : List Bout). length x < length k.members) same (slice_get_within k.members (length bs) m (sym here))

-- or all were fought
pub all_fought : (k : Kept) (w : WarriorParts) (c : Challenge) (bs at : List Bout) → bs ≡ c.bouts → at ≡ c.bouts → None ≡ slice_get k.members (length at) → IsUnderWay k w c → bs ≡ fresh k w
all_fought k w c bs at same place none is =
    same ∙ is.fought
    ∙ ap (λ (ms : List Member). matches_with k.settings ms w)
    (take_all (length c.bouts) k.members (subst (λ (x : List Bout). length k.members ≤ length x) place (past k.members (length at) none)))
