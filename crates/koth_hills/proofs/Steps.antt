-- A step of a submission leaves less to fight: for `fight_out`.
use Rattle.std.proofs.{Common.{◌≡◌, ◌∙◌, ℕ, ◌+◌, ◌*◌, ◌-◌, ◌<◌, ◌≤◌, ap, arith, inl, inr, length}, Math.Nat.mul-add}
use Rattle.{war_types.specs.declared.settings.RawSettings.RawSettings, koth_hill.specs.{Challenge.IsStep, declared.challenge.Challenge.Challenge}}

-- the rounds that are left of the matches with these members, with those of the match in progress counted once more
abbrev pub left : RawSettings → ℕ → Challenge → ℕ
left s members c = s.rounds * (members - length c.bouts) + (s.rounds - c.under_way.round)

one_match_more : (rounds x y : ℕ) → y ≡ x + 1 → rounds * y ≡ rounds * x + rounds
one_match_more rounds x y is =
    let step : rounds * y ≡ rounds * x + rounds * 1 = ap (λ n. rounds * n) is ∙ mul-add rounds x 1 in
    omega (arith, step)

pub less_left : (turns members : ℕ) (s : RawSettings) (old new : Challenge) → IsStep turns s old new → old.under_way.round < s.rounds
    → length new.bouts ≤ members → left s members new < left s members old
less_left turns members s old new (inl on) begun few =
    let same : s.rounds * (members - length new.bouts) ≡ s.rounds * (members - length old.bouts) = ap (λ bouts. s.rounds * (members - length bouts)) on.bouts in
    omega (arith, same, on.more, on.left, begun)
less_left turns members s old new (inr ends) begun few =
    let one : members - length old.bouts ≡ (members - length new.bouts) + 1 = omega (arith, ends.bouts, few) in
    omega (arith, one_match_more s.rounds (members - length new.bouts) (members - length old.bouts) one, ends.round, begun)
