-- The lines of `submit`, `try` and `audit`.
use Rattle.std.specs.Prelude.{ℕ, ◌==◌, true, false, if◌then◌else◌, List, [], ◌∷◌, ◌++◌, Option, None, Some, codes}
use Rattle.{koth_match.specs.declared.bout.Bout.Bout, koth_hill.specs.declared.{untrue.Untrue.Untrue, verdict.Verdict.Verdict}}
use Rattle.koth_hill.specs.{Kept.{Kept, table_kept}, Table.RowParts}
use Rattle.koth_json.specs.{declared.key.Key.Key, Objects.{Field, Value, object_line, type_field}}

-- a warrior that is on the hill now
abbrev pub placed_line : ℕ → ℕ → ℕ → List ℕ
placed_line entry rank points =
    object_line (type_field (codes "placed"))
    ((Key.Entry, Value.number entry) ∷ (Key.Rank, Value.number rank) ∷ (Key.Points, Value.number points) ∷ [])

-- the row of this entry, if it is in one of these
abbrev pub row_of : List RowParts → ℕ → Option RowParts
row_of [] entry = None
row_of (row ∷ rows) entry = if row.entry == entry then Some row else row_of rows entry

-- of the entry that falls, the row among these
abbrev pub row_that_falls : List RowParts → Option ℕ → Option RowParts
row_that_falls rows None = None
row_that_falls rows (Some entry) = row_of rows entry

-- who is pushed off by a warrior with this verdict, as the row of the hill's table before it falls, if anyone is
abbrev pub pushed_off : Kept → Verdict → Option RowParts
pushed_off k judged = row_that_falls (table_kept k) judged.falls

-- who is pushed off: entry, name, author and points, or nothing
abbrev pub pushed_fields : Option RowParts → List Field
pushed_fields None =
    (Key.PushedOff, Value.null) ∷ (Key.PushedOffName, Value.null) ∷ (Key.PushedOffAuthor, Value.null) ∷ (Key.PushedOffPoints, Value.null) ∷ []
pushed_fields (Some row) =
    (Key.PushedOff, Value.number row.entry)
    ∷ (Key.PushedOffName, Value.text row.name)
    ∷ (Key.PushedOffAuthor, Value.text row.author)
    ∷ (Key.PushedOffPoints, Value.number row.score)
    ∷ []

-- a warrior that is on the hill now, and who was pushed off for it
abbrev pub placed_over : Verdict → Option RowParts → List ℕ
placed_over judged pushed =
    object_line (type_field (codes "placed")) (
    (Key.Entry, Value.number judged.entry)
    ∷ (Key.Rank, Value.number judged.rank)
    ∷ (Key.Points, Value.number judged.score)
    ∷ pushed_fields pushed)

-- the line of a warrior that is placed by this verdict on this hill
abbrev pub judged_line : Kept → Verdict → List ℕ
judged_line k judged = placed_over judged (pushed_off k judged)

-- a warrior that fell at once
abbrev pub fell_line : ℕ → ℕ → List ℕ
fell_line entry points = object_line (type_field (codes "fell")) ((Key.Entry, Value.number entry) ∷ (Key.Points, Value.number points) ∷ [])

-- the lowest points of those that stay
abbrev pub least_line : ℕ → List ℕ
least_line points = object_line (type_field (codes "least")) ((Key.Points, Value.number points) ∷ [])

-- a hill that has judged as many warriors as can be counted
abbrev pub worn_line : List ℕ
worn_line = object_line (type_field (codes "worn")) []

-- a warrior of a table, of whose matches nothing is known
abbrev pub standing_line : ℕ → ℕ → ℕ → ℕ → List ℕ → List ℕ → List ℕ
standing_line rank entry points age name author =
    object_line (type_field (codes "warrior")) (
    (Key.Rank, Value.number rank)
    ∷ (Key.Entry, Value.number entry)
    ∷ (Key.Points, Value.number points)
    ∷ (Key.Age, Value.number age)
    ∷ (Key.Name, Value.text name)
    ∷ (Key.Author, Value.text author)
    ∷ [])

-- what the hill keeps of a pair, and what its match gives: from the older's side
abbrev pub kept_fields : Bout → List Field
kept_fields b =
    (Key.KeptWon, Value.number b.older_wins) ∷ (Key.KeptLost, Value.number b.younger_wins) ∷ (Key.KeptTied, Value.number b.ties) ∷ []

abbrev pub fought_fields : Bout → List Field
fought_fields b =
    (Key.FoughtWon, Value.number b.older_wins) ∷ (Key.FoughtLost, Value.number b.younger_wins) ∷ (Key.FoughtTied, Value.number b.ties) ∷ []

-- a result that isn't its match's
abbrev pub untrue_line : Untrue → List ℕ
untrue_line u =
    object_line (type_field (codes "audit")) (
    (Key.Holds, Value.truth false)
    ∷ (Key.Older, Value.number u.older)
    ∷ (Key.Younger, Value.number u.younger)
    ∷ kept_fields u.kept ++ fought_fields u.fought)

-- an audit that found this
abbrev pub audit_line : Option Untrue → List ℕ
audit_line None = object_line (type_field (codes "audit")) ((Key.Holds, Value.truth true) ∷ [])
audit_line (Some untrue) = untrue_line untrue
