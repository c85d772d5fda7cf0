-- The page of a ranking.
use Rattle.std.specs.Prelude.{ℕ, Bool, List, [], ◌∷◌, ◌++◌}
use Rattle.{war_types.specs.declared.settings.RawSettings.RawSettings, koth_text.specs.declared.tally.Tally.Tally}
use Rattle.koth_page.specs.{declared.links.Links.Links, declared.parts.TheConstants.{END, UNRANKED}, Ranked.RankedParts}
use Rattle.koth_page.specs.{Settings.ranking_settings, Tables.tables_text, Top.head_text}

-- what is said of these rows if there are none
abbrev pub note_of : List RankedParts → List ℕ
note_of [] = UNRANKED.now
note_of (row ∷ rows) = []

-- the page of these rows with these results, which are in both orders of each two, or in one
unfoldable pub ranking_page : List ℕ → RawSettings → Bool → (ℕ → ℕ → Tally) → List RankedParts → List ℕ
ranking_page title s both results rows =
    head_text title ++ note_of rows ++ ranking_settings s both ++ tables_text results Links.None rows ++ END.now
