-- The settings in place of the table.
use Rattle.{std.proofs.Common.{◌≡◌, ◌∙◌, Bool, IfOk, ap, if◌then◌else◌, subst, sym}, war_types.specs.declared.settings.RawSettings.{RawSettings}}
use Rattle.{koth_hill.specs.Kept.{Kept}, koth_hills.specs.Settings.{settings_text}, koth_hills.specs.Hills.{shown_text}}
use Rattle.koth_hills.proofs.show.sight_text.Goals as goal

pub returns-then-shown : goal.returns-then-shown
returns-then-shown g c =
    let hill = c.args.store.now.hill in
    let shown = c.args.shown in
    let same = c.settings.ensures.value ∙ ap (λ (k : Kept). k.settings) c.hill.ensures in
    subst (λ (b : Bool). IfOk c.settings_text.result (λ text. text.items ≡ if b then settings_text shown.with_seed hill.settings else shown_text c.args.view shown.matches hill))
    (sym c.if-shown.true)
    (subst (λ (s : RawSettings). IfOk c.settings_text.result (λ text. text.items ≡ settings_text shown.with_seed s)) same c.settings_text.ensures)
