-- From a round's seed to the next.
use Rattle.{std.proofs.{Common.{◌≡◌, ◌∙◌, ℕ, suc, ◌*◌, ◌^◌, ◌%◌, sym, ap, arith}, Math.Nat.pow-suc, lemmas.Nat.mul-mod_second}, war_types.specs.declared.settings.RawSettings.RawSettings}
use Rattle.koth_match.specs.Seeds.{next_seed, seed_of_round}

once_more : (seed power : ℕ) → 16807 * (seed * power) ≡ seed * (power * 16807)
once_more seed power = grind arith

-- each later round has the seed after that of the one before
pub seed_of_round-next : (s : RawSettings) (r seed next : ℕ) → next ≡ next_seed seed → seed ≡ seed_of_round s r → next ≡ seed_of_round s (suc r)
seed_of_round-next s r seed next follows of_round =
    follows ∙ ap next_seed of_round ∙ mul-mod_second 16807 (s.seed * 16807 ^ r) 2147483647
    ∙ ap (λ n. n % 2147483647) (once_more s.seed (16807 ^ r) ∙ ap (λ n. s.seed * n) (sym (pow-suc 16807 r)))
