-- The parts, one after the other.
use Rattle.{std.proofs.Common.{codes}, koth_text.proofs.Steps.four_parts, koth_page.specs.Matches.{label_text, pair_text}}
use Rattle.koth_page.proofs.matches.put_label.Goals as goal

pub returns : goal.returns
unfolding label_text
returns g c =
    let a = c.args in
    four_parts a.page.now.items (pair_text (codes " id=\"m") a.one (codes "-") a.other) (pair_text (codes "\" aria-labelledby=\"w") a.one (codes " vs w") a.other)
    (pair_text (codes " m") a.one (codes "-") a.other) (codes "\">")
    c.put_pair.new.page.items c.put_pair-2.new.page.items c.put_pair-3.new.page.items c.extend_from_slice.new.self.items
    c.in_ok-put_pair.ensures c.in_ok-put_pair-2.ensures c.in_ok-put_pair-3.ensures c.in_ok-extend_from_slice.ensures.items
