-- The four parts of who wrote it.
use Rattle.{std.proofs.{Common.{◌++◌, ◌∙◌, ap, codes}, lemmas.Result.on_ok_weaker}, koth_text.proofs.Steps.four_parts}
use Rattle.koth_watch.specs.{Shown.{name_text, turn_named}, Sentence.{itself, wrote_text}}
use Rattle.koth_watch.proofs.sentence.put_wrote.Goals as goal

pub returns : goal.returns
unfolding wrote_text
returns g c =
    on_ok_weaker c.put_turn.result (λ put.
    four_parts c.args.text.now.items (codes ", which ") (name_text c.args.form c.args.name.now) (itself c.args.loser c.args.side) (turn_named c.args.form c.args.turn)
    c.extend_from_slice.new.self.items c.put_name.new.text.items c.extend_from_slice-2.new.self.items c.put_turn.new.text.items
    c.in_ok-extend_from_slice.ensures.items c.in_ok-put_name.ensures
    (c.in_ok-extend_from_slice-2.ensures.items ∙ ap (λ l. c.put_name.new.text.items ++ l) c.itself-itself.ensures) put) c.put_turn.ensures
