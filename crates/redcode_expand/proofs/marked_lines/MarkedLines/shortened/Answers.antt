use Rattle.std.proofs.{lemmas.Grind.common_steps, Common.{◌≡◌, List, true, length, sym, ap, ◌∙◌, arith}, lemmas.List.{length-map, take-map}}
use Rattle.{redcode_text.specs.{declared.token.Token.Token, Tokens.{piece_of, pieces}}, redcode_lines.specs.{Line.SourceLine, Views.line_read}}
use Rattle.{redcode_expand.specs.Marks.{is_long, line_in}, redcode_expand.proofs.Short.{long-many, short-is}}
use Rattle.redcode_expand.proofs.marked_lines.MarkedLines.shortened.Goals as goal

pub split_at-requires : goal.split_at-requires
split_at-requires g c =
    let line = c.reading-line.result in
    let long : is_long (line_in c.args.self.now c.args.at) ≡ true = grind (arith, common_steps) in
    omega (arith, long-many (line_in c.args.self.now c.args.at) long, ap (λ (l : SourceLine). length l.tokens) c.reading-line.ensures.line, length-map line.tokens.now piece_of)

pub returns : goal.returns
returns g c =
    let line = c.reading-line.result in
    let long : is_long (line_in c.args.self.now c.args.at) ≡ true = grind (arith, common_steps) in
    short-is (line_in c.args.self.now c.args.at) (line_read line) (pieces c.split_at.result.0.now) c.reading-line.ensures.line long
    (ap (λ (ts : List Token). pieces ts) c.split_at.ensures.front ∙ sym (take-map piece_of 516 line.tokens.now))
