-- What the arena finds in a cell; past the core all cells are blank.
use Rattle.{std.proofs.Common.{◌∙◌, sym}, koth_rounds.proofs.Written.{not_found, now_found}}
use Rattle.koth_rounds.proofs.traced.held.Goals as goal

pub returns-in-Some : goal.returns-in-Some
returns-in-Some g c = now_found c.args.arena.now.core c.args.at c.cell.result c.in-Some.instr c.cell.ensures.value c.in-Some.is

pub returns-in-None : goal.returns-in-None
returns-in-None g c = not_found c.args.arena.now.core c.args.at (sym c.cell.ensures.value ∙ c.in-None.is)
