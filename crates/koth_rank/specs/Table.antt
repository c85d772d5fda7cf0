-- The lines of ranked warriors.
use Rattle.std.specs.{Prelude.{◌≡◌, ◌⊎◌, ℕ, Bool, true, false, Option, None, Some, List, [], ◌++◌, codes, decimal, length, get_or, map}, List.{enumerate_from, flat_map}, Io.KnownBytes.Appends}
use Rattle.{war_types.specs.declared.settings.RawSettings.RawSettings, koth_text.specs.{Columns.padded, Tally.points_of, Written.WritesPart, declared.columns.Alignment.Alignment, declared.tally.Tally.Tally}}
use Rattle.{koth_json.specs.Contest.{ContenderParts, ranked_line as ranked_object}, koth_words.specs.declared.requests.{Part.Part, View.View}}
use Rattle.koth_commands.specs.{Trouble.fault_word, declared.{status.Status.Status, trouble.Fault.Fault}}
use Rattle.koth_contests.specs.{Lines.{Entrant, contender, opponent_columns, opponent_told}, Met.{Notes, TellsAfter}}
use Rattle.koth_standings.specs.{PartText.part_text, Ranking.IsRanking, Standings.at_place}
use Rattle.koth_rank.specs.{Matches.{field_counts, kept_lines, pair_lines, pairs_fought}, Part.field_part, declared.plan.Plan.Plan}

-- for programs: the rank, the points, and the rounds won, lost and tied
abbrev pub ranked_told : ℕ → Tally → List ℕ
ranked_told rank t =
    decimal rank ++ (codes " " ++ (decimal (points_of t) ++ (codes " " ++ (decimal t.won ++ (codes " " ++ (decimal t.lost ++ (codes " " ++ decimal t.tied)))))))

-- for people: these in columns
abbrev pub ranked_columns : ℕ → Tally → List ℕ
ranked_columns rank t = padded Alignment.Right 5 (decimal rank) ++ (padded Alignment.Right 9 (decimal (points_of t))
    ++ (padded Alignment.Right 8 (decimal t.won) ++ (padded Alignment.Right 8 (decimal t.lost) ++ padded Alignment.Right 8 (decimal t.tied))))

-- the line of a ranked warrior
abbrev pub ranked_line : View → ℕ → ContenderParts → Tally → List ℕ
ranked_line View.Plain rank c t = ranked_told rank t ++ (opponent_told c.file ++ codes "\n")
ranked_line View.Table rank c t = ranked_columns rank t ++ (opponent_columns c.name c.file ++ codes "\n")
ranked_line View.Json rank c t = ranked_object rank c t (points_of t)

-- the heading of these lines: only people get one
abbrev pub heading : View → List ℕ
heading View.Plain = []
heading View.Table = codes " rank   points     won    lost    tied  warrior                   file\n"
heading View.Json = []

-- what lines say of the warrior at a place
abbrev pub contender_at : List ContenderParts → ℕ → ContenderParts
contender_at contenders place = get_or contenders place (record { file = []; name = []; author = [] })

-- the line of the warrior at a place
abbrev pub line_at : View → List ContenderParts → List Tally → ℕ → ℕ → List ℕ
line_at view contenders counts rank place = ranked_line view rank (contender_at contenders place) (at_place counts place)

-- the lines of these places, the first with rank 1
abbrev pub ranked_lines : View → List ContenderParts → List Tally → List ℕ → List ℕ
ranked_lines view contenders counts ranked = flat_map (λ (rank, place). line_at view contenders counts rank place) (enumerate_from 1 ranked)

-- the text is the table of the warriors with these counts, in the order of a ranking of them
pub record IsTableOf (view : View) (contenders : List ContenderParts) (counts : List Tally) (text : List ℕ) : Type 0 where
  pub ranked : List ℕ
  pub ranks : IsRanking counts ranked
  pub tells : text ≡ heading view ++ ranked_lines view contenders counts ranked

-- what lines say of the entrants
abbrev pub contenders_of : List Entrant → List ContenderParts
contenders_of entrants = map contender entrants

-- the heading of the lines of matches, if these are asked for: only people get one
abbrev pub matches_heading : Bool → View → List ℕ
matches_heading false view = []
matches_heading true View.Plain = []
matches_heading true View.Table = codes "   won  lost  tied  points  older                     younger\n"
matches_heading true View.Json = []

-- the text of a field: the lines of its matches, and its table by the counts of each pair's match, each exactly once;
-- and if that is asked for, each pair's match by itself
pub record IsTable (s : RawSettings) (plan : Plan) (entrants : List Entrant) (text : List ℕ) : Type 0 where
  pub table : List ℕ
  pub ranks : IsTableOf plan.terms.view (contenders_of entrants) (field_counts s plan entrants) table
  pub tells : text ≡ table ++ (matches_heading plan.matches plan.terms.view ++ kept_lines s plan entrants (pairs_fought plan (length entrants)))

-- the text after the matches: the table; or of a part of the matches their counts
abbrev pub IsTold : Option Part → RawSettings → Plan → List Entrant → List ℕ → Type 0
IsTold None s plan entrants text = IsTable s plan entrants text
IsTold (Some share) s plan entrants text =
    text ≡ part_text (field_part s plan.terms.both share.number share.count entrants (field_counts s plan entrants) (length (pairs_fought plan (length entrants))))

-- the whole text of a field
abbrev pub IsText : RawSettings → Plan → List Entrant → List ℕ → Type 0
IsText s plan entrants text =
    (told : List ℕ) × IsTold plan.share s plan entrants told × (text ≡ pair_lines s plan.terms entrants (pairs_fought plan (length entrants)) ++ told)

-- a part of such a text is written, or a part of the lines of its matches
abbrev pub BeginsText : RawSettings → Plan → List Entrant → Option (List ℕ) → Option (List ℕ) → Type 0
BeginsText s plan entrants o p = WritesPart o p (pair_lines s plan.terms entrants (pairs_fought plan (length entrants)))
    ⊎ ((text : List ℕ) × IsText s plan entrants text × WritesPart o p text)

-- how the ranking of a field ends, by what the output and then standard error hold before and after: its text is
-- written; or a part of it, since the output failed or memory ran out
abbrev pub EndsTable : RawSettings → Plan → List Entrant → Status → Option (List ℕ) → Option (List ℕ) → Option (List ℕ) → Option (List ℕ) → Type 0
EndsTable s plan entrants Status.Done o p e f = ((text : List ℕ) × IsText s plan entrants text × Appends o p text) × Notes plan.terms.view e f
EndsTable s plan entrants Status.StreamFault o p e f = BeginsText s plan entrants o p × TellsAfter (fault_word Fault.Stream) e f
EndsTable s plan entrants Status.NoMemory o p e f = BeginsText s plan entrants o p × TellsAfter (fault_word Fault.Memory) e f
EndsTable s plan entrants status o p e f = ⊥
