use Rattle.std.proofs.{Common.{◌++◌, ap, ◌∙◌}, lemmas.List.take-replicate}
use Rattle.hill_bytes.proofs.header.writer.SectorWriter.put_zeros.Goals as goal

pub returns-clause-value : goal.returns-clause-value
returns-clause-value c = c.put.ensures.value ∙ ap (λ zeros. c.args.self.now ++ zeros) (take-replicate c.args.count 288 0 c.requires.few)
