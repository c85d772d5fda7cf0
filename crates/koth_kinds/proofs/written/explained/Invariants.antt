-- What is written of the kinds so far, and, of those that are left, anything that may be.
use Rattle.{std.proofs.Common.take, std.specs.Option.option_copied, koth_kinds.specs.Explained.{AreTexts, IsAsked}}
use Rattle.koth_kinds.proofs.written.explained.Given as goal

abbrev pub invariant-loop-kind : goal.invariant-loop-kind
invariant-loop-kind g l = AreTexts (IsAsked (option_copied l.name)) (take l.kind-index l.all) l.text.items
