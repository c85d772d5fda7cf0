-- The name and the author, each after its words.
use Rattle.{std.proofs.Common.{codes, ◌++◌, ◌∙◌, ℕ, List, ap}, koth_text.{specs.Escape.escaped, proofs.Steps.four_parts}, koth_page.specs.Top.named_text}
use Rattle.koth_page.proofs.top.put_named.Goals as goal

pub returns : goal.returns
unfolding named_text
returns g c =
    let one = c.extend_from_slice.new.self.items in
    let three = c.extend_from_slice-2.new.self.items in
    let king = c.args.king.now in
    four_parts c.args.page.now.items (codes "<p class=\"king\">King: <b>") (escaped king.name.now) (codes "</b> by ") (escaped king.author.now)
    one c.put_escaped.new.page.items three c.put_escaped-2.new.page.items
    c.in_ok-extend_from_slice.ensures.items (c.in_ok-put_escaped.ensures ∙ ap (λ (name : List ℕ). one ++ escaped name) c.bytes.ensures.value)
    c.in_ok-extend_from_slice-2.ensures.items (c.in_ok-put_escaped-2.ensures ∙ ap (λ (name : List ℕ). three ++ escaped name) c.bytes-2.ensures.value)
