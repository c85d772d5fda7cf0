-- One step of a hill: a challenger fights all on it, and the lowest falls if they are too many.
use Rattle.std.specs.Prelude.{ℕ, ◌+◌, ◌==◌, Bool, true, false, nat_lt, if◌then◌else◌, List, [], ◌∷◌, ◌++◌, length, map, Option, Some, None}
use Rattle.{war_types.specs.{declared.settings.RawSettings.RawSettings, Warrior.WarriorParts}, koth_match.specs.{declared.bout.Bout.Bout, Match.match_of}}
use Rattle.koth_hill.specs.{Hill.{Member, Hill, Results, fights, points}, Scores.{score_of, scores_of, rank_among, last_among}, declared.verdict.Verdict.Verdict}

-- the warrior as the one that enters next
abbrev pub challenger : Hill → WarriorParts → Member
challenger h w = record { entry = h.counter + 1; age = 0; warrior = w }

-- all on the hill and the challenger
abbrev pub enlarged : Hill → WarriorParts → List Member
enlarged h w = h.members ++ challenger h w ∷ []

-- the entry that falls, if they are more than the hill holds: the one of least points, among equals the one that
-- entered last
abbrev pub falling_by : Results → Hill → WarriorParts → Option ℕ
falling_by f h w =
    if nat_lt h.settings.capacity (length (enlarged h w)) then last_among (scores_of f (enlarged h w)) (scores_of f (enlarged h w)) else None

abbrev pub is_entry : ℕ → Option ℕ → Bool
is_entry entry None = false
is_entry entry (Some e) = entry == e

-- those that did not fall
abbrev pub without : Option ℕ → List Member → List Member
without fallen [] = []
without fallen (m ∷ ms) = if is_entry m.entry fallen then without fallen ms else m ∷ without fallen ms

abbrev pub one_older : List Member → List Member
one_older [] = []
one_older (m ∷ ms) = record { entry = m.entry; age = m.age + 1; warrior = m.warrior } ∷ one_older ms

-- whether the challenger stays
abbrev pub stays_by : Results → Hill → WarriorParts → Bool
stays_by f h w = if is_entry (h.counter + 1) (falling_by f h w) then false else true

-- the challenger stays, and the others that stay are one older
abbrev pub after_stay : Hill → WarriorParts → Option ℕ → Hill
after_stay h w fallen =
    record { settings = h.settings; counter = h.counter + 1; members = one_older (without fallen h.members) ++ challenger h w ∷ [] }

-- the challenger falls: it is counted, and nothing else changes
abbrev pub after_fall : Hill → Hill
after_fall h = record { settings = h.settings; counter = h.counter + 1; members = h.members }

-- the hill after a challenger
unfoldable pub step_by : Results → Hill → WarriorParts → Hill
step_by f h w = if stays_by f h w then after_stay h w (falling_by f h w) else after_fall h

-- of a challenger that stays, its points and rank on the new hill
abbrev pub placed_verdict : Results → List Bout → Hill → WarriorParts → Option ℕ → Verdict
placed_verdict f bouts h w fallen =
    let new = (after_stay h w fallen).members in record {
      entry = h.counter + 1;
      stays = true;
      falls = fallen;
      score = points f new (challenger h w);
      rank = rank_among (scores_of f new) (score_of f new (challenger h w));
      bouts = bouts;
    }

-- of a challenger that falls, its points against all on the hill
abbrev pub fallen_verdict : Results → List Bout → Hill → WarriorParts → Option ℕ → Verdict
fallen_verdict f bouts h w fallen =
    record { entry = h.counter + 1; stays = false; falls = fallen; score = points f (enlarged h w) (challenger h w); rank = 0; bouts = bouts }

-- what becomes of a challenger of these matches
unfoldable pub verdict_by : Results → List Bout → Hill → WarriorParts → Verdict
verdict_by f bouts h w = if stays_by f h w then placed_verdict f bouts h w (falling_by f h w) else fallen_verdict f bouts h w (falling_by f h w)

-- ---- every pair fought again

-- the matches of a warrior with each of these, who are older
abbrev pub matches_with : RawSettings → List Member → WarriorParts → List Bout
matches_with s ms w = map (λ m. match_of s m.warrior w) ms

abbrev pub falling : Hill → WarriorParts → Option ℕ
falling h w = falling_by (fights h.settings) h w

abbrev pub stays : Hill → WarriorParts → Bool
stays h w = stays_by (fights h.settings) h w

abbrev pub step : Hill → WarriorParts → Hill
step h w = step_by (fights h.settings) h w

abbrev pub verdict : Hill → WarriorParts → Verdict
verdict h w = verdict_by (fights h.settings) (matches_with h.settings h.members w) h w

-- the hill without members
abbrev pub new_hill : RawSettings → ℕ → Hill
new_hill s counter = record { settings = s; counter = counter; members = [] }
