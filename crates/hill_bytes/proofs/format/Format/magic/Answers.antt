use Rattle.{std.proofs.Common.{sym, ap}, hill_bytes.specs.Layout.{layout_of, old_magic, new_magic}}
use Rattle.hill_bytes.proofs.format.Format.magic.Goals as goal

pub returns-in-Old : goal.returns-in-Old
unfolding old_magic
returns-in-Old c = ap (λ format. (layout_of format).magic) (sym c.in-Old.is)

pub returns-in-New : goal.returns-in-New
unfolding new_magic
returns-in-New c = ap (λ format. (layout_of format).magic) (sym c.in-New.is)
