-- The two tables of a page.
use Rattle.std.specs.Prelude.{ℕ, List, [], ◌∷◌, ◌++◌}
use Rattle.{koth_text.specs.declared.tally.Tally.Tally, koth_page.specs.{declared.links.Links.Links, Matches.matches_text, Ranked.RankedParts, Standing.standing_text}}

-- the tables of these rows with these results, if there are any rows
abbrev pub tables_text : (ℕ → ℕ → Tally) → Links → List RankedParts → List ℕ
tables_text results links [] = []
tables_text results links (row ∷ rows) = standing_text (row ∷ rows) ++ matches_text results links (row ∷ rows)
