use Rattle.{std.specs.{Str.IsUtf8, Result.result_ok}, std.proofs.{Common.{◌∙◌, ap, sym, subst, decimal}, lemmas.Fmt.{parse-decimal, IsAscii-decimal}, lemmas.Str.IsUtf8-from_ascii}}
use Rattle.koth_http.proofs.target.number_read.Goals as goal

pub returns-in-Ok : goal.returns-in-Ok
returns-in-Ok c = λ n below is.
    c.ok.ensures.value ∙ ap result_ok (parse-decimal 64 n c.in-Ok.text.now c.parse.result below below (c.in-Ok.ensures.cases.0 ∙ is) c.parse.ensures.value.0)

pub returns-in-Err : goal.returns-in-Err
returns-in-Err c = λ n below is. absurd (c.in-Err.ensures.cases.0 (subst IsUtf8 (sym is) (IsUtf8-from_ascii (decimal n) (IsAscii-decimal n below))))
