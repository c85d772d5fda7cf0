-- The text of a part of a field's matches: its head, a line for each warrior with its rounds in the matches of the part,
-- and a last line with how many matches these are.
use Rattle.std.specs.{Prelude.{◌≡◌, ℕ, ◌*◌, ◌≤◌, List, [], ◌∷◌, ◌++◌, codes, decimal, length, map, All}, List.flat_map}
use Rattle.koth_text.specs.declared.tally.Tally.{Tally}
use Rattle.koth_standings.specs.{Pairs.pairs, Parts.{numbers, part_of, sums_of}, Standings.{StandingsParts, counts_of, most_matches, most_rounds, rounds_in}}
use Rattle.koth_standings.specs.declared.{pairs.Pair.Pair, part_text.{PartHead.PartHead, PartRead.PartRead, Row.Row}}

-- what a part says of itself: the matches of part `number` of `count`, under these settings, of the field of this digest
pub record HeadParts : Type 0 where
  pub number : ℕ
  pub count : ℕ
  pub settings : List ℕ
  pub field : List ℕ

abbrev pub head_parts : PartHead → HeadParts
head_parts h = record { number = h.number; count = h.count; settings = h.settings.now; field = h.field.now }

-- a warrior, by what its line calls it, and its rounds
pub record RowParts : Type 0 where
  pub tally : Tally
  pub label : List ℕ

abbrev pub row_of : Tally → List ℕ → RowParts
row_of t label = record { tally = t; label = label }

abbrev pub row_parts : Row → RowParts
row_parts r = row_of r.tally r.label.now

pub record PartParts : Type 0 where
  pub head : HeadParts
  pub rows : List RowParts
  pub matches : ℕ

abbrev pub part_parts : {A : Type 0} → PartRead A → PartParts
part_parts p = record { head = head_parts p.head; rows = map row_parts p.rows.items; matches = p.matches }

abbrev pub head_text : HeadParts → List ℕ
head_text h = codes "part " ++ (decimal h.number ++ (codes "/" ++ (decimal h.count ++ (codes "\nsettings " ++ (h.settings ++ (codes "\nfield " ++ (h.field ++ codes "\n")))))))

-- the rounds won, lost and tied, and the label
abbrev pub row_text : RowParts → List ℕ
row_text r = decimal r.tally.won ++ (codes " " ++ (decimal r.tally.lost ++ (codes " " ++ (decimal r.tally.tied ++ (codes " " ++ (r.label ++ codes "\n"))))))

abbrev pub rows_text : List RowParts → List ℕ
rows_text rows = flat_map row_text rows

abbrev pub end_text : ℕ → List ℕ
end_text matches = codes "matches " ++ (decimal matches ++ codes "\n")

abbrev pub part_text : PartParts → List ℕ
part_text p = head_text p.head ++ (rows_text p.rows ++ end_text p.matches)

-- the rounds of each warrior in a part
abbrev pub tallies : PartParts → List Tally
tallies p = map (λ (r : RowParts). r.tally) p.rows

-- the head of part `number` of the parts of which this is the head of one
abbrev pub numbered : HeadParts → ℕ → HeadParts
numbered h number = record h { number = number }

-- these parts are the first ones of a field of n, in the order of their numbers, and the standings are the sums over them
pub record AreJoined (h : HeadParts) (n : ℕ) (parts : List PartParts) (s : StandingsParts) : Type 0 where
  pub same : map (λ (p : PartParts). p.head) parts ≡ map (numbered h) (numbers (length parts))
  pub many : All (λ (p : PartParts). length p.rows ≡ n) parts
  pub counts : s.counts ≡ sums_of n (map tallies parts)
