-- What the arena finds in a cell; past the core all cells are blank.
use Rattle.std.proofs.Common.{◌∙◌, sym}
use Rattle.koth_replay.proofs.{Writers.not-found, Untold.now-found}
use Rattle.koth_replay.proofs.ending.held.Goals as goal

pub returns-in-Some : goal.returns-in-Some
returns-in-Some g c = now-found c.args.arena.now.core c.args.at c.cell.result c.in-Some.instr c.cell.ensures.value c.in-Some.is

pub returns-in-None : goal.returns-in-None
returns-in-None g c = not-found c.args.arena.now.core c.args.at (sym c.cell.ensures.value ∙ c.in-None.is)
