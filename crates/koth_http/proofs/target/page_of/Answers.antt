use Rattle.{std.proofs.{Common.{◌∙◌, ap, arith, sym}, lemmas.Grind.{common_steps}}, koth_http.specs.Target.{or_round, page_of}}
use Rattle.koth_http.proofs.target.page_of.Goals as goal
