-- The last change is that of the round as it begins.
use Rattle.std.proofs.Common.{◌∙◌, sym, ap, subst}
use Rattle.{mars_core.specs.Round.{Round, is_over}, koth_replay.specs.{Ending.{writer_of, IsChange}, Story.round_before}}
use Rattle.{std.proofs.Common.length, koth_replay.proofs.Writers.writer-is}
use Rattle.koth_replay.proofs.ending.writer.Goals as goal

pub last_change-change-requires-clause-first : goal.last_change-change-requires-clause-first
last_change-change-requires-clause-first g c = c.first_in.ensures ∙ sym (ap (λ (r : Round). r.to_move) c.begin-place.ensures.begun)

pub last_change-change-requires-clause-on : goal.last_change-change-requires-clause-on
last_change-change-requires-clause-on g c = ap (λ (r : Round). is_over (round_before c.args.made.turn r)) c.begin-place.ensures.begun ∙ c.requires.on

pub returns-clause-writer : goal.returns-clause-writer
returns-clause-writer g c =
    writer-is _ c.args.older.now.code c.args.younger.now.code _ c.args.made.at c.args.made.turn c.last_change-change.result c.written.result
    (c.written.ensures ∙ ap (λ n. writer_of c.last_change-change.result (length c.args.older.now.code) n (length c.args.younger.now.code) c.args.made.at) c.begin-place.ensures.place)
    (subst (λ (r : Round). IsChange r c.args.made.at c.args.made.turn c.last_change-change.result) c.begin-place.ensures.begun c.last_change-change.ensures.change)
