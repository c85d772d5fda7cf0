-- A small hill, step by step, computed by the definitions.
use Rattle.{std.proofs.Common.{◌≡◌, ℕ, List, [], ◌∷◌, Bool, true, false, Option, Some, None, refl}, war_types.specs.{declared.instr.Op.Op, declared.instr.Modifier.Modifier}}
use Rattle.war_types.specs.{declared.instr.Instr.Instr, declared.settings.RawSettings.RawSettings, Warrior.{WarriorParts, warrior_parts}, declared.instr.Mode.Mode}
use Rattle.mars_core.specs.{Operand.operand, Effect.effect, Round.{executed, side_turn, after_turn, after_turns}}
use Rattle.{koth_match.specs.{declared.bout.Bout.Bout, Match.{round_outcome, match_of}}, koth_hill.specs.{declared.verdict.Verdict.Verdict, Hill.{Member, Hill}, Table.{RowParts, table}}}
use Rattle.koth_hill.specs.{Step.{step_by, verdict_by, step, verdict, new_hill}, Kept.{Kept, fought, kept_of, result_of, step_kept, table_kept, verdict_kept}}

abbrev small : RawSettings
small = record { core = 64; cycles = 100; processes = 8; length = 10; distance = 10; rounds = 2; seed = 1; capacity = 2; read_limit = 64; write_limit = 64 }

abbrev direct : Op → Modifier → ℕ → ℕ → Instr
direct op modifier a b = record { op = op; modifier = modifier; a_mode = Mode.Direct; a = a; b_mode = Mode.Direct; b = b }

abbrev alone : Instr → WarriorParts
alone i = warrior_parts (i ∷ []) 0 (65 ∷ []) (66 ∷ [])

abbrev imp : WarriorParts
imp = alone (direct Op.Mov Modifier.I 0 1)

abbrev waits : WarriorParts
waits = alone (direct Op.Jmp Modifier.B 0 0)

abbrev dies : WarriorParts
dies = alone (direct Op.Dat Modifier.F 0 0)

abbrev hill : ℕ → List Member → Hill
hill counter members = record { settings = small; counter = counter; members = members }

abbrev member : ℕ → ℕ → WarriorParts → Member
member entry age w = record { entry = entry; age = age; warrior = w }

abbrev answer : ℕ → Bool → Option ℕ → ℕ → ℕ → List Bout → Verdict
answer entry stays falls score rank bouts = record { entry = entry; stays = stays; falls = falls; score = score; rank = rank; bouts = bouts }

abbrev bout : ℕ → ℕ → ℕ → Bout
bout older younger ties = record { older_wins = older; younger_wins = younger; ties = ties }

abbrev row : ℕ → ℕ → ℕ → RowParts
row entry score age = record { entry = entry; name = 65 ∷ []; author = 66 ∷ []; score = score; age = age }

abbrev two : Hill
two = hill 2 (member 1 1 imp ∷ member 2 0 waits ∷ [])

first : verdict (new_hill small 0) imp ≡ answer 1 true None 0 1 []
unfolding verdict_by
first = refl

first_step : step (new_hill small 0) imp ≡ hill 1 (member 1 0 imp ∷ [])
unfolding step_by
first_step = refl

second : verdict (hill 1 (member 1 0 imp ∷ [])) waits ≡ answer 2 true None 2 2 (bout 0 0 2 ∷ [])
unfolding verdict_by match_of round_outcome operand effect executed side_turn after_turn after_turns
second = refl

second_step : step (hill 1 (member 1 0 imp ∷ [])) waits ≡ two
unfolding step_by
second_step = refl

third : verdict two dies ≡ answer 3 false (Some 3) 0 0 (bout 2 0 0 ∷ bout 2 0 0 ∷ [])
unfolding verdict_by match_of round_outcome operand effect executed side_turn after_turn after_turns
third = refl

third_step : step two dies ≡ hill 3 (member 1 1 imp ∷ member 2 0 waits ∷ [])
unfolding step_by match_of round_outcome operand effect executed side_turn after_turn after_turns
third_step = refl

fourth : verdict (hill 3 (member 1 1 imp ∷ member 2 0 waits ∷ [])) imp ≡ answer 4 false (Some 4) 4 0 (bout 0 0 2 ∷ bout 0 0 2 ∷ [])
unfolding verdict_by match_of round_outcome operand effect executed side_turn after_turn after_turns
fourth = refl

rows : table two ≡ row 1 2 1 ∷ row 2 2 0 ∷ []
unfolding table match_of round_outcome operand effect executed side_turn after_turn after_turns
rows = refl

-- ---- what is kept

-- the two, with what is kept of them
abbrev kept_two : Bout → Kept
kept_two b = kept_of small 2 (member 1 1 imp ∷ member 2 0 waits ∷ []) ([] ∷ (b ∷ []) ∷ [])

fought_two : fought two ≡ kept_two (bout 0 0 2)
unfolding match_of round_outcome operand effect executed side_turn after_turn after_turns
fought_two = refl

kept_rows : table_kept (kept_two (bout 0 0 2)) ≡ row 1 2 1 ∷ row 2 2 0 ∷ []
kept_rows = refl

-- a table goes by what is kept, true or not
untrue_rows : table_kept (kept_two (bout 0 2 0)) ≡ row 2 6 0 ∷ row 1 0 1 ∷ []
untrue_rows = refl

-- and so does a verdict: here the first falls, not the challenger
untrue_verdict : verdict_kept (kept_two (bout 0 2 0)) imp ≡ answer 3 true (Some 1) 2 2 (bout 0 0 2 ∷ bout 0 0 2 ∷ [])
unfolding verdict_by match_of round_outcome operand effect executed side_turn after_turn after_turns
untrue_verdict = refl

-- the one that falls goes with its results
untrue_step : step_kept (kept_two (bout 0 2 0)) imp ≡ kept_of small 3 (member 2 1 waits ∷ member 3 0 imp ∷ []) ([] ∷ (bout 0 0 2 ∷ []) ∷ [])
unfolding match_of round_outcome operand effect executed side_turn after_turn after_turns
untrue_step = refl

of_both : result_of (1 ∷ 2 ∷ []) ([] ∷ (bout 0 0 2 ∷ []) ∷ []) 1 2 ≡ Some (bout 0 0 2)
of_both = refl

of_none : result_of (1 ∷ 2 ∷ []) ([] ∷ (bout 0 0 2 ∷ []) ∷ []) 2 1 ≡ None
of_none = refl
