-- The five parts of a tie.
use Rattle.{std.proofs.{Common.{◌++◌, ◌∙◌, ap, codes}, lemmas.Result.on_ok_weaker}, koth_text.proofs.Steps.five_parts, koth_watch.proofs.Steps.last_part}
use Rattle.koth_watch.specs.Sentence.{left_text, tie_named, tie_text}
use Rattle.koth_watch.proofs.sentence.put_tie.Goals as goal

pub returns : goal.returns
unfolding tie_text
returns g c =
    let form = c.args.form in
    on_ok_weaker c.extend_from_slice-2.result (λ put.
    five_parts c.args.text.now.items (tie_named c.args.told.now.round c.args.told.now.rounds) (left_text form c.args.older.now.name c.args.first) (codes ", ")
    (left_text form c.args.younger.now.name c.args.second) (codes " at its end.\n")
    c.put_line.new.page.items c.put_left.new.text.items c.extend_from_slice.new.self.items c.put_left-2.new.text.items c.extend_from_slice-2.new.self.items
    (c.in_ok-put_line.ensures ∙ ap (λ l. c.args.text.now.items ++ l) c.tie_line.ensures)
    (c.in_ok-put_left.ensures ∙ ap (λ n. c.put_line.new.page.items ++ left_text form n c.args.first) c.name_of-older_name.ensures)
    c.in_ok-extend_from_slice.ensures.items
    (c.in_ok-put_left-2.ensures ∙ ap (λ n. c.extend_from_slice.new.self.items ++ left_text form n c.args.second) c.name_of-younger_name.ensures)
    put)
    (last_part c.extend_from_slice-2.result c.put_left-2.new.text.items (codes " at its end.\n") c.extend_from_slice-2.new.self.items c.extend_from_slice-2.ensures.items)
