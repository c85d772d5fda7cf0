use Rattle.{std.proofs.Common.{ap, ◌∙◌, Option, Bor, List, ℕ}, std.specs.Option.unwrap_or, sector_disk.proofs.Sectors.{now_or, last_of-get}}
use Rattle.sector_disk.proofs.sector.last_of.Goals as goal

pub returns : goal.returns
returns c =
    ap (λ (found : Bor (List ℕ)). found.now) c.unwrap_or.ensures
    ∙ now_or c.last.result c.args.stable
    ∙ ap (λ (found : Option (List ℕ)). unwrap_or found c.args.stable.now) c.last.ensures.value
    ∙ last_of-get c.args.stable.now c.args.contents.now
