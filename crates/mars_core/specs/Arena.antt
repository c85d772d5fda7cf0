-- The round in an arena.
use Rattle.std.specs.Prelude.{ℕ, ◌≡◌, List}
use Rattle.{war_types.specs.{declared.instr.Instr.Instr, declared.settings.RawSettings.RawSettings}, mars_core.specs.{declared.round.Side.Side, Round.{Round, IsRound}}}

abbrev pub round_in : RawSettings → List Instr → List ℕ → List ℕ → Side → ℕ → Round
round_in settings core first second to_move used =
    record { settings = settings; core = core; first = first; second = second; to_move = to_move; used = used }

-- the round is sound, and its sides' queues may hold as many processes as the settings say
pub record IsArena (r : Round) (first second : ℕ) : Type 0 where
  pub round : IsRound r
  pub first_limit : first ≡ r.settings.processes
  pub second_limit : second ≡ r.settings.processes
