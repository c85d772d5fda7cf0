-- The table alone.
use Rattle.{std.proofs.Common.{◌≡◌, IfOk, subst, sym}, koth_views.specs.Standing.hill_view, koth_hills.specs.Hills.shown_table}
use Rattle.koth_hills.proofs.show.shown_table.Goals as goal

pub returns : goal.returns
returns g c =
    subst (λ matches. IfOk c.hill_view.result (λ text. text.items ≡ shown_table matches c.args.store.now.hill)) (sym c.if-matches.false)
    (subst (λ hill. IfOk c.hill_view.result (λ text. text.items ≡ hill_view hill)) c.hill.ensures c.hill_view.ensures)
