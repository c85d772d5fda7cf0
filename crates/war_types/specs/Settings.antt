-- Which settings a hill may have. The first five ranges are the ones that pMARS's options of these names have.
use Rattle.std.specs.Prelude.{◌≡◌, ℕ, ◌*◌, ◌%◌, ◌≤◌, ◌==◌, Bool, ◌&&◌, ◌||◌, nat_le, if◌then◌else◌, Result, Ok, Err}
use Rattle.war_types.specs.{declared.settings.RawSettings.RawSettings, declared.settings.SettingsFault.SettingsFault}

-- a number from low to high
abbrev pub is_from_to : ℕ → ℕ → ℕ → Bool
is_from_to low high n = nat_le low n && nat_le n high

-- a limit of reading or writing divides the core (the 1994 draft standard's limits; that 0 stands for the whole core is this project's own)
abbrev pub is_limit : ℕ → ℕ → Bool
is_limit core limit = limit == 0 || core % limit == 0

abbrev pub limit_of : ℕ → ℕ → ℕ
limit_of core limit = if limit == 0 then core else limit

abbrev pub with_limits : RawSettings → RawSettings
with_limits s = record s { read_limit = limit_of s.core s.read_limit; write_limit = limit_of s.core s.write_limit }

-- the settings, each limit as the number that it stands for, or the first field in this order that is out of its range
abbrev pub settings_of : RawSettings → Result RawSettings SettingsFault
settings_of s =
    if is_from_to 64 65535 s.core then (
    if is_from_to 1 1000000 s.cycles then (
    if is_from_to 1 65535 s.processes then (
    if is_from_to 1 200 s.length then (
    if nat_le s.length s.distance && nat_le (2 * s.distance) s.core then (
    if is_from_to 1 1000 s.rounds then (
    if is_from_to 1 2147483646 s.seed then (
    if is_from_to 1 20 s.capacity then (
    if is_limit s.core s.read_limit then (
    if is_limit s.core s.write_limit then Ok (with_limits s)
    else Err SettingsFault.WriteLimit)
    else Err SettingsFault.ReadLimit)
    else Err SettingsFault.Capacity)
    else Err SettingsFault.Seed)
    else Err SettingsFault.Rounds)
    else Err SettingsFault.Distance)
    else Err SettingsFault.Length)
    else Err SettingsFault.Processes)
    else Err SettingsFault.Cycles)
    else Err SettingsFault.Core

-- each field is in its range
pub record AreSettings (s : RawSettings) : Type 0 where
  pub core_least : 64 ≤ s.core
  pub core_most : s.core ≤ 65535
  pub cycles_least : 1 ≤ s.cycles
  pub cycles_most : s.cycles ≤ 1000000
  pub processes_least : 1 ≤ s.processes
  pub processes_most : s.processes ≤ 65535
  pub length_least : 1 ≤ s.length
  pub length_most : s.length ≤ 200
  pub distance_least : s.length ≤ s.distance
  pub distance_most : 2 * s.distance ≤ s.core
  pub rounds_least : 1 ≤ s.rounds
  pub rounds_most : s.rounds ≤ 1000
  pub seed_least : 1 ≤ s.seed
  pub seed_most : s.seed ≤ 2147483646
  pub capacity_least : 1 ≤ s.capacity
  pub capacity_most : s.capacity ≤ 20
  pub read_least : 1 ≤ s.read_limit
  pub read_divides : s.core % s.read_limit ≡ 0
  pub write_least : 1 ≤ s.write_limit
  pub write_divides : s.core % s.write_limit ≡ 0
