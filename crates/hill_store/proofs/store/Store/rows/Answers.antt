use Rattle.{std.proofs.Common.{◌≡◌, IfOk, subst}, koth_hill.specs.{Kept.table_kept, Rows.rows_parts}, hill_store.specs.Seen.Seen}
use Rattle.hill_store.proofs.store.Store.rows.Goals as goal

pub returns-clause-kept : goal.returns-clause-kept
returns-clause-kept g c = subst (λ (s : Seen _). IfOk c.rows.result (λ rows. rows_parts rows.items ≡ table_kept s.hill)) c.self.view_is c.rows.ensures.kept
