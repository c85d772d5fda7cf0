-- The number of the round that is shown.
use Rattle.std.proofs.Common.{◌≡◌, ℕ, ◌+◌, ◌<◌, ◌≤◌, Bool, true, ◌&&◌, Option, None, Some, option_map, refl, sym, ap₂, subst, arith, le-leb}
use Rattle.{war_types.specs.{Warrior.WarriorParts, declared.settings.RawSettings.RawSettings}, mars_core.specs.declared.round.Outcome.Outcome}
use Rattle.{koth_words.specs.declared.requests.Round.Round, koth_contests.specs.Rounds.IsFirst, koth_rounds.specs.Asked.{IsFirstNumber, IsNumber, has_round, may_have}}

module _ (s : RawSettings) (older younger : WarriorParts) where
  has_number : (number : ℕ) → 1 ≤ number → number ≤ s.rounds → has_round s number ≡ true
  has_number number least most = ap₂ (λ (a b : Bool). a && b) (le-leb 1 number least) (le-leb number s.rounds most)

  number_at : (wanted : Outcome) (found : Option ℕ) → IsFirst s older younger wanted found → IsFirstNumber s older younger wanted (option_map (λ n. n + 1) found)
  number_at wanted None none = none
  number_at wanted (Some at) is =
      let within : at < s.rounds = is.0 in
      ((at, refl, is), has_number (at + 1) (omega arith) (omega arith))

  pub first_number : (wanted : Outcome) (found counted : Option ℕ) → counted ≡ option_map (λ n. n + 1) found → IsFirst s older younger wanted found
      → IsFirstNumber s older younger wanted counted
  first_number wanted found counted is first_is = subst (IsFirstNumber s older younger wanted) (sym is) (number_at wanted found first_is)

  pub asked_number : (round : Round) (number : ℕ) → round ≡ Round.Number number → may_have s round ≡ true → IsNumber s older younger round (Some number)
  asked_number round number is may =
      subst (λ r. IsNumber s older younger r (Some number)) (sym is) (refl, subst (λ r. may_have s r ≡ true) is may)
