-- The line stands for the move, and what is told for why it was not made.
use Rattle.std.proofs.Common.{◌∙◌, ap, inr}
use Rattle.koth_files.specs.Trouble.{refused_at}
use Rattle.koth_keeping.proofs.migrate.migrate_between.Goals as goal

pub returns-in-Ok-clause-moved : goal.returns-in-Ok-clause-moved
returns-in-Ok-clause-moved g c =
    let moved = c.in-Ok.field-0 in
    (record { after = moved.0; store = moved.1; migrated = c.in-Ok.ensures.migrated }, c.in_ok-answer.ensures)

pub returns-in-Err-clause-moved : goal.returns-in-Err-clause-moved
returns-in-Err-clause-moved g c = inr record {
  old_after = c.in-Err._old;
  new_after = c.in-Err._new;
  why = c.in-Err.fault;
  refused = c.in-Err.ensures.refused;
  told = c.refused_at.ensures.told ∙ ap (λ path. refused_at path c.in-Err.fault.refusal) c.file_of.ensures;
}
