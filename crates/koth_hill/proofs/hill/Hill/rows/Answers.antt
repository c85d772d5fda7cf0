use Rattle.{std.proofs.Common.{◌≡◌, ◌∙◌, List, Result, Ok, Err, ap, ap₂, refl, subst, IfOk}, koth_match.specs.declared.bout.Bout.Bout, koth_hill.specs.Hill.Member}
use Rattle.koth_hill.specs.{Kept.{IsKept, kept_of, members_of, rows_of, entries_of, hill_in, kept_results, table_kept}, Laws.IsRanking, Rows.rows_parts, Table.{RowParts, table, table_by}}
use Rattle.koth_hill.proofs.{HillLaws.ranking, Hills.{few-entrants, standings-members}, Truths.true-table}
use Rattle.koth_hill.proofs.hill.Hill.rows.Goals as goal

pub rows_of-requires-clause-standings : goal.rows_of-requires-clause-standings
rows_of-requires-clause-standings g c =
    let es = c.self.inside.members.items in
    standings-members (kept_of c.self.inside.settings c.self.inside.counter (members_of es) (rows_of es)) c.as_slice.result.now c.self.invariant.0 (ap members_of c.as_slice.ensures.value) (ap rows_of c.as_slice.ensures.value)

pub returns-clause-kept : goal.returns-clause-kept
returns-clause-kept g c =
    let P : List RowParts → Type 0 = λ due. IfOk c.rows_of.result (λ rows. rows_parts rows.items ≡ due) in
    subst P
    (ap₂ (λ (ms : List Member) (rows : List (List Bout)). table_by (kept_results (entries_of ms) rows) ms) (ap members_of c.as_slice.ensures.value) (ap rows_of c.as_slice.ensures.value)
    ∙ ap table_kept c.self.view_is)
    c.rows_of.ensures

pub returns-clause-table : goal.returns-clause-table
returns-clause-table g c = λ holds.
    let P : List RowParts → Type 0 = λ due. IfOk c.rows_of.result (λ rows. rows_parts rows.items ≡ due) in
    let is : IsKept c.args.self.now = subst IsKept c.self.view_is c.self.invariant.0 in
    subst P (true-table c.args.self.now is holds) (returns-clause-kept g c)

if-ok : {T E : Type 0} (P Q : T → Type 0) (r : Result T E) → ((x : T) → P x → Q x) → IfOk r P → IfOk r Q
if-ok P Q (Ok x) each p = each x p
if-ok P Q (Err e) each p = p

pub returns-clause-ranking : goal.returns-clause-ranking
returns-clause-ranking g c = λ holds.
    let is : IsKept c.args.self.now = subst IsKept c.self.view_is c.self.invariant.0 in
    if-ok (λ rows. rows_parts rows.items ≡ table (hill_in c.args.self.now)) (λ rows. IsRanking (hill_in c.args.self.now) (rows_parts rows.items)) c.rows_of.result
    (λ rows same. ranking (hill_in c.args.self.now) (hill_in c.args.self.now) (rows_parts rows.items) refl is.hill same) (returns-clause-table g c holds)

pub rows_of-requires-clause-few : goal.rows_of-requires-clause-few
rows_of-requires-clause-few g c =
    let es = c.self.inside.members.items in
    few-entrants (kept_of c.self.inside.settings c.self.inside.counter (members_of es) (rows_of es)) c.as_slice.result.now (ap members_of c.as_slice.ensures.value) c.self.invariant.0
