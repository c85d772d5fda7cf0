-- Without its comments it is the load text.
use Rattle.redcode_listing.proofs.Plain.{plain}
use Rattle.redcode_listing.proofs.printer.listing.Goals as goal

pub returns-clause-plain : goal.returns-clause-plain
returns-clause-plain g c = plain c.args.settings.now.core c.args.warrior.now
