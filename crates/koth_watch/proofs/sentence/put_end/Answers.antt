-- The five parts of the end of the loser's last process.
use Rattle.{std.proofs.{Common.{◌++◌, ◌∙◌, ap, codes}, lemmas.Result.on_ok_weaker}, koth_text.proofs.Steps.five_parts}
use Rattle.koth_watch.specs.{Shown.{instruction_shown, name_text, turn_named}, Sentence.{end_text, place_named}}
use Rattle.koth_watch.proofs.sentence.put_end.Goals as goal

pub returns : goal.returns
unfolding end_text
returns g c =
    on_ok_weaker c.put_turn.result (λ put.
    five_parts c.args.text.now.items (name_text c.args.form c.args.loser.now) (codes "'s last process executed ") (instruction_shown c.args.form c.args.core c.args.fall.instr)
    (place_named c.args.fall.at) (turn_named c.args.form c.args.fall.turn)
    c.put_name.new.text.items c.extend_from_slice.new.self.items c.put_shown.new.text.items c.put_line.new.page.items c.put_turn.new.text.items
    c.in_ok-put_name.ensures c.in_ok-extend_from_slice.ensures.items c.in_ok-put_shown.ensures
    (c.in_ok-put_line.ensures ∙ ap (λ l. c.put_shown.new.text.items ++ l) c.place_line.ensures) put) c.put_turn.ensures
