-- One text more.
use Rattle.{std.proofs.Common.{ap, ◌∙◌, ◌++◌}, std.specs.Option.option_copied, koth_kinds.{specs.Explained.IsAsked, proofs.Texts.next_text}}
use Rattle.koth_kinds.proofs.written.explained.Goals as goal

pub loop-kind-preserved : goal.loop-kind-preserved
loop-kind-preserved g c =
    next_text (IsAsked (option_copied c.args.name)) c.kinds-all.result.now c.loop-kind.kind-index _ c.loop-kind.text.items
    c.in_ok-part.part.items c.extend_from_slice.new.self.items c.loop-kind-test.true c.loop-kind.invariant c.in_ok-part.ensures
    (c.in_ok-extend_from_slice.ensures.items ∙ ap (λ t. c.loop-kind.text.items ++ t) c.as_slice.ensures.value)
