-- Laws of hills, for every hill and every warrior.
use Rattle.std.specs.Prelude.{◌≡◌, ℕ, ◌+◌, ◌<◌, ◌≤◌, ◌⊎◌, if◌then◌else◌, List, [], ◌∷◌, length, Option, Some, None}
use Rattle.war_types.specs.Warrior.{WarriorParts}
use Rattle.koth_hill.specs.{Hill.{Member, Hill, with_age, fights, points}, Scores.{scores_of, of_rank}, Table.{RowParts, row_with}, Step.{challenger, enlarged, falling, stays}}

-- one of these members
abbrev pub In : Member → List Member → Type 0
In m [] = ⊥
In m (x ∷ xs) = (m ≡ x) ⊎ In m xs

-- ---- tables

-- more points, or as many and an earlier entry
abbrev pub IsBefore : RowParts → RowParts → Type 0
IsBefore x y = (y.score < x.score) ⊎ ((x.score ≡ y.score) × (x.entry < y.entry))

abbrev pub AreAfter : RowParts → List RowParts → Type 0
AreAfter x [] = Unit {0}
AreAfter x (y ∷ ys) = IsBefore x y × AreAfter x ys

-- each row is before all that follow it
abbrev pub AreSorted : List RowParts → Type 0
AreSorted [] = Unit {0}
AreSorted (x ∷ xs) = AreAfter x xs × AreSorted xs

-- one of these rows
abbrev pub InRows : RowParts → List RowParts → Type 0
InRows row [] = ⊥
InRows row (x ∷ xs) = (row ≡ x) ⊎ InRows row xs

-- the lines of a hill's table are a ranking
pub record IsRanking (h : Hill) (rows : List RowParts) : Type 0 where
  -- as many rows as members
  pub each : length rows ≡ length h.members
  -- and each member's is among them, with its points
  pub members : (m : Member) → In m h.members → InRows (row_with (points (fights h.settings) h.members m) m) rows
  -- each before all that follow it
  pub sorted : AreSorted rows
  -- and of each rank from 1 to the number of members there is one member
  pub ranks : (r : ℕ) → 1 ≤ r → r ≤ length h.members → length (of_rank (scores_of (fights h.settings) h.members) r (scores_of (fights h.settings) h.members)) ≡ 1

-- ---- steps

-- this entry has the least points of all on the hill and the challenger, and among equals entered last
pub record IsLeast (h : Hill) (w : WarriorParts) (entry : ℕ) : Type 0 where
  pub member : Member
  pub here : In member (enlarged h w)
  pub is : member.entry ≡ entry
  pub others : (x : Member) → In x (enlarged h w) → (x.entry ≡ entry → ⊥) →
      (points (fights h.settings) (enlarged h w) member < points (fights h.settings) (enlarged h w) x)
      ⊎ ((points (fights h.settings) (enlarged h w) x ≡ points (fights h.settings) (enlarged h w) member) × (x.entry < member.entry))

-- a member as it was before, but for its age
pub record WasAged (h : Hill) (w : WarriorParts) (m : Member) : Type 0 where
  pub before : Member
  pub here : In before h.members
  pub entry : m.entry ≡ before.entry
  pub warrior : m.warrior ≡ before.warrior
  pub age : m.age ≡ before.age + (if stays h w then 1 else 0)

-- who falls when the challenger comes
pub record LeastFalls (h : Hill) (w : WarriorParts) (falls : Option ℕ) : Type 0 where
  -- nobody, if there is room
  pub room : length h.members < h.settings.capacity → falls ≡ None
  -- and else the last of the lowest
  pub full : h.settings.capacity ≤ length h.members → falls ≡ None → ⊥
  pub least : (entry : ℕ) → falls ≡ Some entry → IsLeast h w entry

-- who is on the hill after the challenger
pub record OthersStay (h : Hill) (w : WarriorParts) (new : Hill) : Type 0 where
  -- the challenger, or one that was on it before, one older exactly if the challenger stays
  pub ages : (m : Member) → In m new.members → (m ≡ challenger h w) ⊎ WasAged h w m
  -- and all who were on it before and don't fall
  pub keeps : (m : Member) → In m h.members → (falling h w ≡ Some m.entry → ⊥) → In (with_age (m.age + (if stays h w then 1 else 0)) m) new.members
