-- What is answered to a candidate.
use Rattle.std.specs.{Prelude.{ℕ, false, List, ◌++◌, codes, fold, Result, Ok, Err}, List.flat_map}
use Rattle.war_types.specs.{Warrior.WarriorParts, declared.fault.AsmFault.AsmFault, declared.settings.RawSettings.RawSettings}
use Rattle.{redcode_asm.specs.Assembly.assembly, koth_text.specs.{Refusal.refusal_line, declared.tally.Tally.Tally}}
use Rattle.koth_contests.specs.{Contest.{added, contest_tally, no_rounds}, Lines.{Entrant, counts_told}}

-- the rounds of a candidate as the older warrior against each opponent, in their order, together
abbrev pub sum_against : RawSettings → WarriorParts → List Entrant → Tally
sum_against s warrior opponents = fold (λ (sum : Tally) (e : Entrant). added sum (contest_tally s false warrior e.warrior)) no_rounds opponents

-- the line of a candidate that assembles: its counts and points; and of one that doesn't: its refusal
abbrev pub answered : RawSettings → List Entrant → Result WarriorParts AsmFault → List ℕ
answered s opponents (Ok warrior) = counts_told (sum_against s warrior opponents) ++ codes "\n"
answered s opponents (Err fault) = refusal_line fault

abbrev pub answer_of : RawSettings → List Entrant → List ℕ → List ℕ
answer_of s opponents source = answered s opponents (assembly s source)

-- the lines of these sources, in their order
abbrev pub answers_of : RawSettings → List Entrant → List (List ℕ) → List ℕ
answers_of s opponents sources = flat_map (answer_of s opponents) sources
