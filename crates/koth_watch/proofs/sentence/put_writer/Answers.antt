-- What is put of each writer, with the name of its side.
use Rattle.{std.proofs.{Common.{◌≡◌, OnOk, ◌++◌, ◌∙◌, ap, codes, subst, sym}, lemmas.Result.on_ok_weaker}, koth_replay.specs.declared.story.Writer.Writer, koth_watch.proofs.Steps.last_part}
use Rattle.koth_watch.specs.Sentence.{loaded_text, writer_text, wrote_text}
use Rattle.koth_watch.proofs.sentence.put_writer.Goals as goal

pub returns-in-Turn : goal.returns-in-Turn
returns-in-Turn g c =
    let start = c.args.text.now.items in
    subst (λ (w : Writer). OnOk c.put_wrote.result (c.put_wrote.new.text.items ≡ start ++ writer_text c.args.form c.args.loser c.args.older.now c.args.younger.now w)) (sym c.in-Turn.is)
    (on_ok_weaker c.put_wrote.result (λ put. put ∙ ap (λ n. start ++ wrote_text c.args.form c.args.loser c.in-Turn.side n c.in-Turn.turn) c.name_of-name.ensures) c.put_wrote.ensures)

pub returns-in-Loaded : goal.returns-in-Loaded
returns-in-Loaded g c =
    let start = c.args.text.now.items in
    subst (λ (w : Writer). OnOk c.put_loaded.result (c.put_loaded.new.text.items ≡ start ++ writer_text c.args.form c.args.loser c.args.older.now c.args.younger.now w)) (sym c.in-Loaded.is)
    (on_ok_weaker c.put_loaded.result (λ put. put ∙ ap (λ n. start ++ loaded_text c.args.form n) c.name_of-name-in-Loaded.ensures) c.put_loaded.ensures)

pub returns-in-Nobody : goal.returns-in-Nobody
returns-in-Nobody g c =
    subst (λ (w : Writer). OnOk c.extend_from_slice.result (c.extend_from_slice.new.self.items ≡ c.args.text.now.items ++ writer_text c.args.form c.args.loser c.args.older.now c.args.younger.now w))
    (sym c.in-Nobody.is)
    (last_part c.extend_from_slice.result c.args.text.now.items (codes ", where nothing had been loaded or written") c.extend_from_slice.new.self.items c.extend_from_slice.ensures.items)
