use Rattle.{std.proofs.Common.{◌∙◌, sym}, koth_hill.proofs.Places.{no-older, no-younger, both-there}}
use Rattle.koth_hill.proofs.points.result_of.Goals as goal

pub returns-in_err-older : goal.returns-in_err-older
returns-in_err-older c = c.from_residual.ensures ∙ sym (no-older c.args.standings.now c.args.older c.args.younger (sym c.place_of.ensures ∙ c.in_err-older.was))

pub returns-in_err-younger : goal.returns-in_err-younger
returns-in_err-younger c =
    c.from_residual-in_err-younger.ensures
    ∙ sym (no-younger c.args.standings.now c.args.older c.args.younger c.in_ok-older.older (sym c.place_of.ensures ∙ c.in_ok-older.was) (sym c.place_of-2.ensures ∙ c.in_err-younger.was))

pub returns : goal.returns
returns c =
    c.result_at.ensures
    ∙ sym (both-there c.args.standings.now c.args.older c.args.younger c.in_ok-older.older c.in_ok-younger.younger _
    (sym c.place_of.ensures ∙ c.in_ok-older.was) (sym c.place_of-2.ensures ∙ c.in_ok-younger.was))
