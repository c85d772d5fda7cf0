-- How the parts of a field are joined.
use Rattle.std.specs.{Prelude.{◌≡◌, ◌⊎◌, ◌-◌, ℕ, Option, List, ◌++◌, codes, length, map, All}, Io.KnownBytes.{Appends, Keeps}}
use Rattle.{koth_text.specs.{Written.WritesPart, declared.tally.Tally.Tally}, koth_json.specs.Contest.ContenderParts, koth_words.specs.declared.requests.View.View}
use Rattle.koth_commands.specs.{Told.WritesSome, declared.status.Status.Status}
use Rattle.koth_standings.specs.{Pairs.pairs, Parts.{numbers, part_of, sums_of}, PartText.{AreJoined, HeadParts, PartParts, numbered, tallies}, Standings.{StandingsParts, counts_of}}
use Rattle.{koth_standings.specs.declared.pairs.Pair.Pair, koth_rank.specs.{Table.IsTableOf, declared.names.Named.Named}}

-- what the line of a part calls a warrior
abbrev pub label_of : ContenderParts → List ℕ
label_of c = c.name ++ (codes "\t" ++ (c.author ++ (codes "\t" ++ c.file)))

-- the warrior that a line calls so
abbrev pub named_parts : Named → ContenderParts
named_parts n = record { file = n.file.now; name = n.name; author = n.author }

-- the text is the table of warriors with these labels and these counts
pub record IsNamedTable (view : View) (labels : List (List ℕ)) (counts : List Tally) (text : List ℕ) : Type 0 where
  pub contenders : List ContenderParts
  pub called : map label_of contenders ≡ labels
  pub table : IsTableOf view contenders counts text

-- the text is the table of all parts of a field: each of them once, of one head; by the sums of their counts, and with
-- the labels of these rows, which are those of the first part
pub record IsJoined (view : View) (count : ℕ) (text : List ℕ) : Type 0 where
  pub head : HeadParts
  pub parts : List PartParts
  pub labels : List (List ℕ)
  pub heads : map (λ (p : PartParts). p.head) parts ≡ map (numbered head) (numbers count)
  pub counted : head.count ≡ count
  pub many : All (λ (p : PartParts). length p.rows ≡ length labels) parts
  pub table : IsNamedTable view labels (sums_of (length labels) (map tallies parts)) text
  -- where the parts have the counts of the matches of their pairs, the table is that of all pairs
  pub whole : (match_of : Pair → Tally)
      → map tallies parts ≡ map (λ k. counts_of match_of (length labels) (part_of k count (pairs (length labels)))) (numbers count)
      → IsNamedTable view labels (counts_of match_of (length labels) (pairs (length labels))) text

-- no table was written, and standard error says why
abbrev pub Fails : Status → Option (List ℕ) → Option (List ℕ) → Type 0
Fails Status.Done e f = ⊥
Fails Status.Refused e f = WritesSome e f
Fails Status.WordFault e f = ⊥
Fails Status.StreamFault e f = WritesSome e f
Fails Status.NoMemory e f = WritesSome e f

-- how the joining of so many parts ends, by what the output and then standard error hold before and after: the table is
-- written, or a part of it since the output failed; or nothing is, since a part isn't as it has to be, a file failed or
-- memory ran out
abbrev pub EndsJoin : View → ℕ → Status → Option (List ℕ) → Option (List ℕ) → Option (List ℕ) → Option (List ℕ) → Type 0
EndsJoin view count status o p e f =
    ((status ≡ Status.Done) × ((text : List ℕ) × IsJoined view count text × Appends o p text) × Keeps e f)
    ⊎ (((text : List ℕ) × IsJoined view count text × WritesPart o p text) × Fails status e f)
    ⊎ (Keeps o p × Fails status e f)

-- the parts that were joined so far are the first ones, in a field of n
pub record Joined (head : HeadParts) (n many : ℕ) (standings : StandingsParts) : Type 0 where
  pub parts : List PartParts
  pub as_many : length parts ≡ many
  pub are : AreJoined head n parts standings

-- how the joining of part `number` ends: it comes after the others, or isn't taken
abbrev pub JoinsOne : HeadParts → ℕ → ℕ → StandingsParts → StandingsParts → Status → Option (List ℕ) → Option (List ℕ) → Type 0
JoinsOne head n number old new Status.Done e f = (Joined head n (number - 1) old → Joined head n number new) × Keeps e f
JoinsOne head n number old new status e f = Fails status e f

-- how the joining of all parts ends: they are joined, or one isn't taken
abbrev pub JoinsAll : HeadParts → ℕ → ℕ → StandingsParts → Status → Option (List ℕ) → Option (List ℕ) → Type 0
JoinsAll head n count new Status.Done e f = Joined head n count new × Keeps e f
JoinsAll head n count new status e f = Fails status e f
