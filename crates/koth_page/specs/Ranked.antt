-- The rows of the tables of a page: warriors by rank.
use Rattle.std.specs.Prelude.{ℕ, List, map}
use Rattle.{koth_text.specs.declared.tally.Tally.Tally, koth_page.specs.declared.ranked.{Origin.Origin, Ranked.Ranked}}

-- where a warrior is from: it entered a hill, where it has this age, or its source was read there
pub data OriginParts : Type 0 where
  Entered : ℕ → OriginParts
  File : List ℕ → OriginParts

-- what the tables say of a warrior
pub record RankedParts : Type 0 where
  pub number : ℕ
  pub name : List ℕ
  pub author : List ℕ
  pub points : ℕ
  pub rounds : Tally
  pub origin : OriginParts

abbrev pub origin_parts : Origin → OriginParts
origin_parts (Origin.Entered age) = OriginParts.Entered age
origin_parts (Origin.File file) = OriginParts.File file.now

abbrev pub ranked_parts : Ranked → RankedParts
ranked_parts r =
    record {
      number = r.number;
      name = r.name.now;
      author = r.author.now;
      points = r.points;
      rounds = r.rounds;
      origin = origin_parts r.origin;
    }

abbrev pub all_parts : List Ranked → List RankedParts
all_parts rows = map ranked_parts rows
