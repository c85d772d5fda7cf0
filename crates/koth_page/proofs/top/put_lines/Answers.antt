-- The address in both of its ways, each in its line.
use Rattle.{std.proofs.Common.codes, koth_text.{specs.Escape.escaped, proofs.Steps.five_parts}, koth_page.specs.Top.lines_text}
use Rattle.koth_page.proofs.top.put_lines.Goals as goal

pub returns : goal.returns
unfolding lines_text
returns g c =
    let a = c.args.address.now in
    five_parts c.args.page.now.items (codes "<pre>koth submit --to ") (escaped a.joined.now)
    (codes " mine.red</pre>\n<pre>(echo SUBMIT; sed 's/^\\./../; $a\\' mine.red; echo .; echo QUIT) | nc ") (escaped a.apart.now) (codes "</pre>\n")
    c.extend_from_slice.new.self.items c.put_escaped.new.page.items c.extend_from_slice-2.new.self.items c.put_escaped-2.new.page.items c.extend_from_slice-3.new.self.items
    c.in_ok-extend_from_slice.ensures.items c.in_ok-put_escaped.ensures c.in_ok-extend_from_slice-2.ensures.items c.in_ok-put_escaped-2.ensures c.in_ok-extend_from_slice-3.ensures.items
