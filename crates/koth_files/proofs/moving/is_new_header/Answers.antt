-- What was found says whether there is one.
use Rattle.{std.proofs.Common.{subst, sym}, koth_files.{specs.Moving.IsNewIf, proofs.Moves.found_new}}
use Rattle.koth_files.proofs.moving.is_new_header.Goals as goal

pub returns : goal.returns
returns c = subst (IsNewIf c.args.n c.args.bytes.now) (sym c.is_some.ensures) (found_new c.args.n c.args.bytes.now c.new_header.result c.new_header.ensures)
