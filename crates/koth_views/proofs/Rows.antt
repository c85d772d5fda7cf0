-- Texts of small hills, computed.
use Rattle.{std.proofs.Common.{◌≡◌, ℕ, List, [], ◌∷◌, ◌++◌, codes, refl}, std.specs.Fmt.digits, war_types.specs.{declared.settings.RawSettings.RawSettings, Warrior.warrior_parts}}
use Rattle.{koth_match.specs.declared.bout.Bout.Bout, koth_hill.specs.{Hill.{Member, member_of}, Kept.{Kept, kept_of}}}
use Rattle.koth_views.specs.{Matrix.matches_view, Placed.{fell_text, placed_text}, Roster.roster, Standing.hill_view}

abbrev settings : RawSettings
settings =
    record { core = 8000; cycles = 80000; processes = 8000; length = 100; distance = 100; rounds = 10; seed = 1; capacity = 20; read_limit = 8000; write_limit = 8000 }

abbrev entered : ℕ → ℕ → List ℕ → Member
entered entry age name = member_of entry age (warrior_parts [] 0 name (codes "koth"))

abbrev rounds : ℕ → ℕ → ℕ → Bout
rounds older younger ties = record { older_wins = older; younger_wins = younger; ties = ties }

abbrev none : Kept
none = kept_of settings 0 [] []

-- the first, the second and the third by rank entered as 3, 1 and 2
abbrev three : Kept
three =
    kept_of settings 3 (entered 1 2 (codes "Imp") ∷ entered 2 1 (codes "Dwarf") ∷ entered 3 0 (codes "Scanner") ∷ [])
    ([] ∷ (rounds 6 3 1 ∷ []) ∷ (rounds 1 9 0 ∷ rounds 2 7 1 ∷ []) ∷ [])

table_of_three : hill_view three
    ≡ codes "rank  entry  points  won  lost  tied  age  warrior  author\n"
    ++ codes "   1      3      49   16     3     1    0  Scanner  koth\n"
    ++ codes "   2      1      22    7    12     1    2  Imp      koth\n"
    ++ codes "   3      2      17    5    13     2    1  Dwarf    koth\n"
unfolding digits
table_of_three = refl

table_of_none : hill_view none ≡ codes "no warriors yet\n"
unfolding digits
table_of_none = refl

matches_of_three : matches_view three
    ≡ codes "rank  warrior      1      2      3\n"
    ++ codes "   1  Scanner      .  9-1-0  7-2-1\n"
    ++ codes "   2  Imp      1-9-0      .  6-3-1\n"
    ++ codes "   3  Dwarf    2-7-1  3-6-1      .\n"
unfolding digits
matches_of_three = refl

-- a hill of two: the one that had entered first fell as the third came
abbrev two_left : Kept
two_left = kept_of settings 3 (entered 2 1 (codes "Dwarf") ∷ entered 3 0 (codes "Scanner") ∷ []) ([] ∷ (rounds 2 7 1 ∷ []) ∷ [])

abbrev two_before : Kept
two_before = kept_of settings 2 (entered 1 1 (codes "Imp") ∷ entered 2 0 (codes "Dwarf") ∷ []) ([] ∷ (rounds 3 6 1 ∷ []) ∷ [])

placed : placed_text (roster two_before) two_left (record { entry = 3; rank = 1; score = 22 })
    ≡ codes "Scanner by koth is warrior 3 of this hill: rank 1 of 2, 22 points\n"
    ++ codes "Imp by koth (entry 1) fell\n"
    ++ codes "won  lost  tied  points  warrior  author\n"
    ++ codes "  7     2     1      22  Dwarf    koth\n"
unfolding digits
placed = refl

-- the first warrior of a hill has no matches
abbrev alone : Kept
alone = kept_of settings 1 (entered 1 0 (codes "Imp") ∷ []) ([] ∷ [])

placed_first : placed_text (roster none) alone (record { entry = 1; rank = 1; score = 0 })
    ≡ codes "Imp by koth is warrior 1 of this hill: rank 1 of 1, 0 points\n"
unfolding digits
placed_first = refl

-- an entry that fell, with one point and with more
fell : (fell_text 21 1 ≡ codes "entry 21 with 1 point fell: it is not on the hill\n")
    × (fell_text 21 12 ≡ codes "entry 21 with 12 points fell: it is not on the hill\n")
unfolding digits
fell = (refl, refl)
