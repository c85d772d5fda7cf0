-- The number that the program leaves with.
use Rattle.std.specs.Prelude.{ℕ, nat_lt, if◌then◌else◌}
use Rattle.koth_commands.specs.{declared.status.Status.Status, declared.status.Status.TheVariants.{Done, Refused, WordFault, StreamFault, NoMemory}}

abbrev pub status_code : Status → ℕ
status_code Done = 0
status_code Refused = 1
status_code WordFault = 2
status_code StreamFault = 3
status_code NoMemory = 4

-- the status with the greater number
abbrev pub worse : Status → Status → Status
worse one other = if nat_lt (status_code one) (status_code other) then other else one
