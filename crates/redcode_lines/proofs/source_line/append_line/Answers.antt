use Rattle.{std.proofs.{Common.arith, lemmas.Grind.common_steps, lemmas.List.length-map}, redcode_lines.proofs.SourceLines.one-statement}
use Rattle.redcode_lines.proofs.source_line.append_line.Goals as goal

pub returns-in_ok-push-in-None : goal.returns-in_ok-push-in-None
returns-in_ok-push-in-None g c = grind (arith, common_steps, one-statement, length-map)
