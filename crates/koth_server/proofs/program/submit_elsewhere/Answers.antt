-- What is told of a hill elsewhere ends as no fault of the arguments does.
use Rattle.koth_server.proofs.Statuses.{delivered, submitted_to}
use Rattle.koth_server.proofs.program.submit_elsewhere.Goals as goal

pub returns : goal.returns
returns g c =
    delivered c.perform_submit_to-done.result c.deliver.result _ _ _ _ (submitted_to c.perform_submit_to-done.result c.perform_submit_to-done.ensures) c.deliver.ensures
