-- A hill, and the points of those on it.
use Rattle.std.specs.Prelude.{ℕ, ◌+◌, ◌*◌, ◌-◌, ◌<◌, ◌≤◌, nat_lt, if◌then◌else◌, List, [], ◌∷◌, length, All}
use Rattle.{war_types.specs.{declared.settings.RawSettings.RawSettings, Settings.AreSettings, Warrior.{WarriorParts, Fits}}, koth_match.specs.{declared.bout.Bout.Bout, Match.match_of}}

-- a warrior on the hill: the number of its entry, and how many warriors have stayed since
pub record Member : Type 0 where
  pub entry : ℕ
  pub age : ℕ
  pub warrior : WarriorParts

-- the settings, how many warriors were ever judged, and those that are on the hill, by rising entry
pub record Hill : Type 0 where
  pub settings : RawSettings
  pub counter : ℕ
  pub members : List Member

abbrev pub member_of : ℕ → ℕ → WarriorParts → Member
member_of entry age w = record { entry = entry; age = age; warrior = w }

abbrev pub with_age : ℕ → Member → Member
with_age age m = member_of m.entry age m.warrior

abbrev pub hill_of : RawSettings → ℕ → List Member → Hill
hill_of s counter members = record { settings = s; counter = counter; members = members }

-- 3 points for a round won and 1 for a tie (pMARS's scoring of two warriors)
abbrev pub older_points : Bout → ℕ
older_points b = 3 * b.older_wins + b.ties

abbrev pub younger_points : Bout → ℕ
younger_points b = 3 * b.younger_wins + b.ties

-- the result of a match: the entry and the warrior of the older, then those of the younger
abbrev pub Results : Type 0
Results = ℕ → WarriorParts → ℕ → WarriorParts → Bout

-- every pair fought again
abbrev pub fights : RawSettings → Results
fights s older_entry older younger_entry younger = match_of s older younger

-- what one earns in its match against another: the earlier entry is the older warrior, and nobody fights itself
abbrev pub points_against : Results → Member → Member → ℕ
points_against f e m =
    if nat_lt e.entry m.entry then older_points (f e.entry e.warrior m.entry m.warrior) else (
    if nat_lt m.entry e.entry then younger_points (f m.entry m.warrior e.entry e.warrior) else 0)

-- what one earns against all of these
abbrev pub points : Results → List Member → Member → ℕ
points f [] e = 0
points f (m ∷ ms) e = points_against f e m + points f ms e

abbrev pub AllFit : RawSettings → List Member → Type 0
AllFit s ms = All (λ m. Fits s m.warrior) ms

-- entries rise from one to the next, and from an entry before them
abbrev pub RiseFrom : ℕ → List Member → Type 0
RiseFrom before [] = Unit {0}
RiseFrom before (m ∷ ms) = (before < m.entry) × RiseFrom m.entry ms

-- the entry of the last, or one before all of them if there is none
abbrev pub last_entry_from : ℕ → List Member → ℕ
last_entry_from before [] = before
last_entry_from before (m ∷ ms) = last_entry_from m.entry ms

-- the entry of the last, 0 if there is none
abbrev pub last_entry : List Member → ℕ
last_entry ms = last_entry_from 0 ms

-- one that may be on a hill of this counter
pub record MayStand (s : RawSettings) (counter : ℕ) (m : Member) : Type 0 where
  pub entry : m.entry ≤ counter
  pub age : m.age ≤ counter - m.entry
  pub fits : Fits s m.warrior

-- what every hill keeps
pub record IsHill (h : Hill) : Type 0 where
  pub settings : AreSettings h.settings
  pub room : length h.members ≤ h.settings.capacity
  pub rising : RiseFrom 0 h.members
  pub members : All (MayStand h.settings h.counter) h.members
