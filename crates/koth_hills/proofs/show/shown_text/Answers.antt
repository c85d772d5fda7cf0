-- The lines of JSON have the settings as options give them.
use Rattle.std.proofs.Common.{◌≡◌, ◌∙◌, IfOk, ap, subst, sym}
use Rattle.{koth_hill.specs.Kept.Kept, koth_json.specs.Hill.hill_text, koth_words.specs.Settings.given_as, koth_hills.specs.Hills.shown_text}
use Rattle.koth_hills.proofs.show.shown_text.Goals as goal

pub returns-in-Json : goal.returns-in-Json
returns-in-Json g c =
    let hill = c.args.store.now.hill in
    let matches = c.args.matches in
    let result = c.hill_text.result in
    let given = c.given_as.ensures.value ∙ ap given_as (c.settings.ensures.value ∙ ap (λ (k : Kept). k.settings) c.hill-hill.ensures) in
    subst (λ v. IfOk result (λ text. text.items ≡ shown_text v matches hill)) (sym c.in-Json.is)
    (subst (λ k. IfOk result (λ text. text.items ≡ hill_text (given_as hill.settings) matches k)) c.hill-hill.ensures
    (subst (λ s. IfOk result (λ text. text.items ≡ hill_text s matches c.hill-hill.result.now)) given c.hill_text.ensures))
