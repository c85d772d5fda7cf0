-- It is told at its place.
use Rattle.{std.proofs.{Common.{sym, subst}, lemmas.Result.IfOk-weaker}, koth_commands.specs.Report.IsFoundLine}
use Rattle.koth_commands.proofs.report.line_of.Goals as goal

pub returns-in-Text : goal.returns-in-Text
returns-in-Text g c =
    let found = g.R.Remark.found c.args.remark.now in
    let place = g.R.Remark.place c.args.remark.now in
    IfOk-weaker c.told.result _ _ (λ line told. record {
      place = place;
      placed = c.requires;
      told = subst (λ form. IsFoundLine form c.args.name.now found place line.items) (sym c.in-Text.is) told;
    }) c.told.ensures

pub returns-in-Json : goal.returns-in-Json
returns-in-Json g c =
    let found = g.R.Remark.found c.args.remark.now in
    let place = g.R.Remark.place c.args.remark.now in
    IfOk-weaker c.json_line.result _ _ (λ line told. record {
      place = place;
      placed = c.requires;
      told = subst (λ form. IsFoundLine form c.args.name.now found place line.items) (sym c.in-Json.is)
          (c.finding.result, c.finding.ensures, told);
    }) c.json_line.ensures
