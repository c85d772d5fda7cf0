-- Settings as one gives them are the settings.
use Rattle.std.proofs.{Common.{◌≡◌, ◌∙◌, ℕ, ◌%◌, ◌≤◌, true, Ok, ap, arith}, lemmas.Bool.Decides.nat_tests}
use Rattle.{war_types.specs.{declared.settings.RawSettings.RawSettings, Settings.{AreSettings, is_limit, limit_of, settings_of}}, koth_words.specs.Settings.{given_as, limit_given}}

-- a limit that is given so is that limit
limit_back : (core limit : ℕ) → 1 ≤ limit → core % limit ≡ 0 → (is_limit core (limit_given core limit) ≡ true) × (limit_of core (limit_given core limit) ≡ limit)
limit_back core limit least divides = (grind (arith, nat_tests), grind (arith, nat_tests))

pub given_back : (s : RawSettings) → AreSettings s → settings_of (given_as s) ≡ Ok s
given_back s are =
    let read = limit_back s.core s.read_limit are.read_least are.read_divides in
    let write = limit_back s.core s.write_limit are.write_least are.write_divides in
    grind (arith, nat_tests)

pub limit_of_core : (core other limit one : ℕ) → core ≡ other → limit ≡ one → limit_given core limit ≡ limit_given other one
limit_of_core core other limit one same is = ap (λ c. limit_given c limit) same ∙ ap (limit_given other) is
