-- The title twice, between what every page has.
use Rattle.{std.proofs.Common.codes, koth_text.{specs.Escape.escaped, proofs.Steps.five_parts}, koth_page.specs.{declared.parts.TheConstants.{BODY_START, HEAD}, Top.head_text}}
use Rattle.koth_page.proofs.top.put_head.Goals as goal

pub returns : goal.returns
unfolding head_text
returns g c =
    let title = escaped c.args.title.now in
    five_parts c.args.page.now.items HEAD.now title BODY_START.now title (codes "</h1>\n") c.extend_from_slice.new.self.items c.put_escaped.new.page.items
    c.extend_from_slice-2.new.self.items c.put_escaped-2.new.page.items c.extend_from_slice-3.new.self.items
    c.in_ok-extend_from_slice.ensures.items c.in_ok-put_escaped.ensures c.in_ok-extend_from_slice-2.ensures.items c.in_ok-put_escaped-2.ensures c.in_ok-extend_from_slice-3.ensures.items
