-- A line of JSON is written, or none.
use Rattle.{std.proofs.{Common.{◌∙◌, ℕ, List, ap, refl, sym, subst}}, koth_words.specs.declared.requests.View.View, koth_contests.specs.Met.EndsLine}
use Rattle.{koth_contests.{specs.Lines.{contender, contest_line, entrant}, proofs.Written.{line_of, of_contest}}, koth_field.specs.Field.entrant_of, koth_rank.specs.Matches.told_match}
use Rattle.koth_rank.proofs.fighting.tell_match.Goals as goal

pub returns-in-Json : goal.returns-in-Json
returns-in-Json g c =
    let older = entrant_of c.args.older.now in
    let younger = entrant_of c.args.younger.now in
    let line = of_contest c.contest_line-line.result View.Json _ (contender older) _ (contender younger) _ c.args.tally (c.contender-first.ensures ∙ ap (λ (t : List ℕ). contender (entrant t c.args.older.now.warrior)) c.as_str.ensures.value)
    (c.contender-second.ensures ∙ ap (λ (t : List ℕ). contender (entrant t c.args.younger.now.warrior)) c.as_str-in-Json.ensures.value) refl c.contest_line-line.ensures in
    subst (λ v. EndsLine (told_match v older younger c.args.tally) c.write_line.result (g.O.Write.contents c.args.output.now) (g.O.Write.contents c.write_line.new.output)
    (g.E.Write.contents c.args.errors.now) (g.E.Write.contents c.write_line.new.errors)) (sym c.in-Json.is)
    (line_of _ _ _ _ c.contest_line-line.result (contest_line View.Json (contender older) (contender younger) c.args.tally) c.write_line.result line c.write_line.ensures)
