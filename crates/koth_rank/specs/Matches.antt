-- The matches of a field, each pair's once. `entrants` are the field.
use Rattle.std.specs.{Prelude.{◌≡◌, ℕ, Bool, true, false, Option, None, Some, List, [], ◌++◌, codes, length, get_or}, List.flat_map, Io.KnownBytes.Appends}
use Rattle.{war_types.specs.{Warrior.warrior_parts, declared.settings.RawSettings.RawSettings}, koth_text.specs.{Columns.padded, Tally.points_of, Written.WritesPart, declared.columns.Alignment.Alignment, declared.tally.Tally.Tally}}
use Rattle.{koth_json.specs.Contest.match_line, koth_words.specs.declared.requests.{Part.Part, View.View}}
use Rattle.koth_commands.specs.{Name.shown_name, Trouble.fault_word, declared.{status.Status.Status, trouble.Fault.Fault}}
use Rattle.koth_contests.specs.{Contest.contest_tally, Lines.{Entrant, contender, counts_columns, counts_told, entrant, opponent_told}, Met.{Notes, TellsAfter}, declared.meeting.Terms.Terms}
use Rattle.koth_standings.specs.{Pairs.pairs, Parts.part_of, Standings.{StandingsParts, AreOf, counts_of}, declared.pairs.Pair.Pair}
use Rattle.koth_rank.specs.declared.plan.Plan.{Plan}

-- the entrant at a place
abbrev pub entrant_at : List Entrant → ℕ → Entrant
entrant_at entrants place = get_or entrants place (entrant [] (warrior_parts [] 0 [] []))

-- without a share all matches are one part
abbrev pub number_of : Option Part → ℕ
number_of None = 1
number_of (Some share) = share.number

abbrev pub count_of : Option Part → ℕ
count_of None = 1
count_of (Some share) = share.count

-- the pairs of a field of n whose matches are fought
abbrev pub pairs_fought : Plan → ℕ → List Pair
pairs_fought plan n = part_of (number_of plan.share) (count_of plan.share) (pairs n)

-- the rounds of the match of a pair from the side of its older warrior; in both orders if that is asked for
abbrev pub pair_tally : RawSettings → Bool → List Entrant → Pair → Tally
pair_tally s both entrants p = contest_tally s both (entrant_at entrants p.older).warrior (entrant_at entrants p.younger).warrior

-- the rounds of each entrant in the matches that are fought, each pair's once
abbrev pub field_counts : RawSettings → Plan → List Entrant → List Tally
field_counts s plan entrants = counts_of (pair_tally s plan.terms.both entrants) (length entrants) (pairs_fought plan (length entrants))

-- the line of a match as it is fought: only programs that read JSON get one
abbrev pub told_match : View → Entrant → Entrant → Tally → List ℕ
told_match View.Plain older younger t = []
told_match View.Table older younger t = []
told_match View.Json older younger t = match_line (contender older) (contender younger) t (points_of t)

abbrev pub pair_line : RawSettings → Terms → List Entrant → Pair → List ℕ
pair_line s terms entrants p =
    told_match terms.view (entrant_at entrants p.older) (entrant_at entrants p.younger) (pair_tally s terms.both entrants p)

-- the lines of the matches of these pairs, in their order
abbrev pub pair_lines : RawSettings → Terms → List Entrant → List Pair → List ℕ
pair_lines s terms entrants ps = flat_map (pair_line s terms entrants) ps

-- the line of a match after the table, if such lines are asked for: the rounds that the older warrior won, lost and tied,
-- its points, and both warriors: by their files for programs, and by their names for people. JSON had its line before
abbrev pub kept_match : Bool → View → Entrant → Entrant → Tally → List ℕ
kept_match false view older younger t = []
kept_match true View.Plain older younger t = counts_told t ++ (opponent_told older.file ++ (codes "\t" ++ (shown_name younger.file ++ codes "\n")))
kept_match true View.Table older younger t =
    counts_columns t ++ (codes "  " ++ (padded Alignment.Left 24 older.warrior.name ++ (codes "  " ++ (younger.warrior.name ++ codes "\n"))))
kept_match true View.Json older younger t = []

abbrev pub kept_line : RawSettings → Plan → List Entrant → Pair → List ℕ
kept_line s plan entrants p =
    kept_match plan.matches plan.terms.view (entrant_at entrants p.older) (entrant_at entrants p.younger) (pair_tally s plan.terms.both entrants p)

-- these lines of these pairs, in their order
abbrev pub kept_lines : RawSettings → Plan → List Entrant → List Pair → List ℕ
kept_lines s plan entrants ps = flat_map (kept_line s plan entrants) ps

-- how the matches of a field end: the standings are those of all pairs that are fought, and so are the lines that are
-- kept, and each line of JSON is written; or a part of these is written, since the output failed or memory ran out
abbrev pub EndsMatches : RawSettings → Plan → List Entrant → StandingsParts → List ℕ → Status → Option (List ℕ) → Option (List ℕ) → Option (List ℕ) → Option (List ℕ) → Type 0
EndsMatches s plan entrants standings kept Status.Done o p e f =
    AreOf (pair_tally s plan.terms.both entrants) (length entrants) (pairs_fought plan (length entrants)) standings
    × (kept ≡ kept_lines s plan entrants (pairs_fought plan (length entrants)))
    × Appends o p (pair_lines s plan.terms entrants (pairs_fought plan (length entrants))) × Notes plan.terms.view e f
EndsMatches s plan entrants standings kept Status.StreamFault o p e f =
    WritesPart o p (pair_lines s plan.terms entrants (pairs_fought plan (length entrants))) × TellsAfter (fault_word Fault.Stream) e f
EndsMatches s plan entrants standings kept Status.NoMemory o p e f =
    WritesPart o p (pair_lines s plan.terms entrants (pairs_fought plan (length entrants))) × TellsAfter (fault_word Fault.Memory) e f
EndsMatches s plan entrants standings kept status o p e f = ⊥
