-- The line, with the fields that are left, is the line with all of them.
use Rattle.{std.proofs.Common.{◌≡◌, ◌++◌, length, map}, koth_news.specs.Objects.{field_of, further_text}}
use Rattle.koth_news.proofs.object.put_fields.Given as goal

abbrev pub invariant-loop-rest : goal.invariant-loop-rest
invariant-loop-rest g l = l.line.items ++ further_text (map field_of l.rest) ≡ l.fn.line.items ++ further_text (map field_of l.fields)

abbrev pub decreases-loop-rest : goal.decreases-loop-rest
decreases-loop-rest g l = length l.rest
