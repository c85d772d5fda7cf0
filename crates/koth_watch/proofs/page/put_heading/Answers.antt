-- The six parts of what stands above the controls.
use Rattle.{std.proofs.{Common.{◌++◌, codes, refl}, lemmas.Result.on_ok_weaker}, koth_text.proofs.Steps.{five_parts, put_behind}}
use Rattle.koth_watch.specs.{declared.parts.TheConstants.{HEAD, STYLE}, Heading.{ending_text, sides_text}, Page.heading_text}
use Rattle.koth_watch.proofs.page.put_heading.Goals as goal

pub returns : goal.returns
unfolding heading_text
returns g c =
    let start = c.args.page.now.items in
    let named = sides_text c.args.older.now c.args.younger.now in
    let ending = ending_text c.args.older.now c.args.younger.now c.args.told.now c.args.replay.now in
    let end = codes "</h1>\n" in
    let front = HEAD.now ++ named ++ STYLE.now ++ named ++ end in
    let five = c.extend_from_slice-3.new.self.items in
    let all = c.put_ending.new.page.items in
    on_ok_weaker c.put_ending.result (λ put. put_behind start front ending (front ++ ending) five all
    (five_parts start HEAD.now named STYLE.now named end c.extend_from_slice.new.self.items c.put_sides.new.page.items c.extend_from_slice-2.new.self.items c.put_sides-2.new.page.items five
    c.in_ok-extend_from_slice.ensures.items c.in_ok-put_sides.ensures c.in_ok-extend_from_slice-2.ensures.items c.in_ok-put_sides-2.ensures c.in_ok-extend_from_slice-3.ensures.items)
    put refl) c.put_ending.ensures
