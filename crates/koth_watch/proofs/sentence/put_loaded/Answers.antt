-- The three parts of who was loaded there.
use Rattle.{std.proofs.{Common.{codes}, lemmas.Result.on_ok_weaker}, koth_text.proofs.Steps.three_parts, koth_watch.proofs.Steps.last_part, koth_watch.specs.{Shown.name_text, Sentence.loaded_text}}
use Rattle.koth_watch.proofs.sentence.put_loaded.Goals as goal

pub returns : goal.returns
unfolding loaded_text
returns g c =
    on_ok_weaker c.extend_from_slice-2.result (λ put.
    three_parts c.args.text.now.items (codes ", with which ") (name_text c.args.form c.args.name.now) (codes " was loaded")
    c.extend_from_slice.new.self.items c.put_name.new.text.items c.extend_from_slice-2.new.self.items
    c.in_ok-extend_from_slice.ensures.items c.in_ok-put_name.ensures put)
    (last_part c.extend_from_slice-2.result c.put_name.new.text.items (codes " was loaded") c.extend_from_slice-2.new.self.items c.extend_from_slice-2.ensures.items)
