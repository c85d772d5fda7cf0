-- A page is the same under any seed, for `hill_page` and `ranking_page`.
use Rattle.{std.proofs.Common.{◌≡◌, ℕ, Bool, List, refl}, war_types.specs.declared.settings.RawSettings.RawSettings, koth_text.specs.declared.tally.Tally.Tally}
use Rattle.koth_hill.specs.{Kept.{Kept}}
use Rattle.koth_page.specs.{declared.links.Links.Links, Laws.{another_seed, with_seed}, Page.{hill_page, page_of}, Ranked.RankedParts, Ranking.ranking_page}
use Rattle.koth_page.specs.{Settings.{hill_line, limits_text, machine_text, ranking_line, ranking_settings, rules_text, settings_text}, Sign.SignParts}

pub page-seed : (k : Kept) (sign : SignParts) (links : Links) (seed : ℕ) → hill_page k sign links ≡ hill_page (with_seed seed k) sign links
unfolding hill_line limits_text machine_text page_of rules_text settings_text
page-seed k sign links seed = refl

pub ranking-seed : (title : List ℕ) (s : RawSettings) (both_orders : Bool) (results : ℕ → ℕ → Tally) (rows : List RankedParts) (seed : ℕ)
    → ranking_page title s both_orders results rows ≡ ranking_page title (another_seed seed s) both_orders results rows
unfolding limits_text machine_text ranking_line ranking_page ranking_settings rules_text
ranking-seed title s both_orders results rows seed = refl
