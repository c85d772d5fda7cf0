-- A round past the match is told as a setting that is refused.
use Rattle.{std.proofs.Common.{◌∙◌, ap, subst}, koth_commands.specs.{Told.TellsWord, Trouble.{fault_status, fault_word}}}
use Rattle.koth_rounds.proofs.asked.refuse_round.Goals as goal

pub returns-clause-status : goal.returns-clause-status
returns-clause-status g c = c.tell.ensures.ends ∙ ap fault_status c.round.ensures

pub returns-clause-told : goal.returns-clause-told
returns-clause-told g c =
    subst (λ w. TellsWord (fault_word w) (g.E.Write.contents c.args.errors.now) (g.E.Write.contents c.tell.new.errors)) c.round.ensures c.tell.ensures.word
