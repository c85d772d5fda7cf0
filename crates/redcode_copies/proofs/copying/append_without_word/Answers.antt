use Rattle.{std.proofs.Common.{◌≡◌, List, OnOk, subst, ◌∙◌}, redcode_text.specs.Tokens.{Piece, pieces}, redcode_copies.proofs.Joining.wordless-written}
use Rattle.redcode_copies.proofs.copying.append_without_word.Goals as goal

pub returns : goal.returns
returns g c =
    let written = wordless-written c.args.counter.now (pieces c.args.tokens.now) c.as_slice-all.result.now c.behind_names-behind.result.now (pieces c.args.out.now.items) (pieces c.append_kept.new.out.items)
    (c.as_slice-all.ensures.value ∙ c.in_ok-all.ensures) c.behind_names-behind.ensures.behind c.in_ok-append_kept.ensures in
    subst (λ (ps : List Piece). OnOk c.append_numbered.result (pieces c.append_numbered.new.out.items ≡ ps)) written c.append_numbered.ensures
