-- The four parts of a page.
use Rattle.{std.proofs.Common.{◌++◌, ◌∙◌, ap}, koth_hill.specs.Rows.rows_parts, koth_text.proofs.Steps.four_parts}
use Rattle.koth_page.specs.{declared.parts.TheConstants.END, Page.{hill_tables, page_of}, Settings.settings_text, Sign.sign_parts, Top.top_text}
use Rattle.koth_page.proofs.page.put_page.Goals as goal

pub returns : goal.returns
unfolding page_of
returns g c =
    let k = c.args.hill.now in
    let one = c.put_top.new.page.items in
    let rows = rows_parts c.args.rows.now in
    four_parts c.args.page.now.items (top_text (sign_parts c.args.sign.now) rows) (settings_text k.settings) (hill_tables k c.args.links rows) END.now one c.put_settings.new.page.items c.put_hill_tables.new.page.items c.extend_from_slice.new.self.items
    c.in_ok-put_top.ensures (c.in_ok-put_settings.ensures ∙ ap (λ s. one ++ settings_text s) c.settings.ensures.value) c.in_ok-put_hill_tables.ensures c.in_ok-extend_from_slice.ensures.items
