-- Seeds, positions and small matches, computed by the definitions.
use Rattle.{std.proofs.Common.{◌≡◌, ℕ, [], ◌∷◌, refl}, war_types.specs.{declared.instr.Op.Op, declared.instr.Modifier.Modifier, declared.instr.Instr.Instr, declared.settings.RawSettings.RawSettings}}
use Rattle.{war_types.specs.{Warrior.{WarriorParts, warrior_parts}, declared.instr.Mode.Mode}, mars_core.specs.{Operand.operand, Effect.effect, Round.{executed, side_turn, after_turn, after_turns}}}
use Rattle.koth_match.specs.{declared.bout.Bout.Bout, Seeds.{next_seed, seed_of_round, position}, Match.{round_outcome, match_of}}

abbrev small : RawSettings
small = record { core = 64; cycles = 100; processes = 8; length = 10; distance = 10; rounds = 2; seed = 1; capacity = 2; read_limit = 64; write_limit = 64 }

abbrev usual : RawSettings
usual = record { core = 8000; cycles = 80000; processes = 8000; length = 100; distance = 100; rounds = 10; seed = 1; capacity = 20; read_limit = 8000; write_limit = 8000 }

abbrev direct : Op → Modifier → ℕ → ℕ → Instr
direct op modifier a b = record { op = op; modifier = modifier; a_mode = Mode.Direct; a = a; b_mode = Mode.Direct; b = b }

abbrev alone : Instr → WarriorParts
alone i = warrior_parts (i ∷ []) 0 (65 ∷ []) (65 ∷ [])

abbrev imp : WarriorParts
imp = alone (direct Op.Mov Modifier.I 0 1)

abbrev stays : WarriorParts
stays = alone (direct Op.Jmp Modifier.B 0 0)

abbrev dies : WarriorParts
dies = alone (direct Op.Dat Modifier.F 0 0)

abbrev bout : ℕ → ℕ → ℕ → Bout
bout older younger ties = record { older_wins = older; younger_wins = younger; ties = ties }

first_position : position usual 1 ≡ 101
first_position = refl

second_position : position usual (seed_of_round usual 1) ≡ 1305
second_position = refl

third_position : position usual (seed_of_round usual 2) ≡ 1139
third_position = refl

third_seed : next_seed 16807 ≡ 282475249
third_seed = refl

small_positions : position small 1 ∷ position small 16807 ∷ [] ≡ 11 ∷ 32 ∷ []
small_positions = refl

ten_thousandth : seed_of_round small 10000 ≡ 1043618065
ten_thousandth = refl

died_first : match_of small dies dies ≡ bout 1 1 0
unfolding match_of round_outcome operand effect executed side_turn after_turn after_turns
died_first = refl

died_second : match_of small stays dies ≡ bout 2 0 0
unfolding match_of round_outcome operand effect executed side_turn after_turn after_turns
died_second = refl
