-- What is left between the blanks is cut, then shown.
use Rattle.{std.proofs.Common.sym, war_types.proofs.Titles.title_or-some}
use Rattle.war_types.proofs.title.Title.new.Goals as goal

pub returns : goal.returns
returns c =
    let inner = c.without_blanks_behind-inner.result.now in
    let trimmed = title_or-some inner c.args.default.now (sym c.if-is_empty.ensures) in
    let cut = c.min.ensures in
    cc
