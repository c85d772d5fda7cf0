use Rattle.redcode_copies.proofs.WrittenLines.{names-count}
use Rattle.redcode_copies.proofs.plain.kept_count.Goals as goal

pub returns-in-Statement-None-clause-count : goal.returns-in-Statement-None-clause-count
returns-in-Statement-None-clause-count c =
    rw (c.in-Statement-None.is-0, c.in-Statement-None.is-1) (names-count c.args.line.tokens.now c.behind_names.result.now c.behind_names.ensures.behind)
