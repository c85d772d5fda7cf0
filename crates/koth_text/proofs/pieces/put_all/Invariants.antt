-- The text, with the pieces that are left, is the text with all of them.
use Rattle.{std.proofs.Common.{◌≡◌, ◌++◌, length}, koth_text.specs.Pieces.pieces_text}
use Rattle.koth_text.proofs.pieces.put_all.Given as goal

abbrev pub invariant-loop-rest : goal.invariant-loop-rest
invariant-loop-rest g l = l.text.items ++ pieces_text l.rest ≡ l.fn.text.items ++ pieces_text l.pieces

abbrev pub decreases-loop-rest : goal.decreases-loop-rest
decreases-loop-rest g l = length l.rest
