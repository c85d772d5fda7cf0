use Rattle.{std.proofs.{Common.arith, lemmas.{Grind.common_steps, List.{drop-take, take-map}}}, redcode_text.specs.Tokens.piece_of}
use Rattle.redcode_lines.proofs.source_line.tokens_read.Goals as goal

pub returns-in-Some-Rof-clause-tokens : goal.returns-in-Some-Rof-clause-tokens
returns-in-Some-Rof-clause-tokens g c =
    let cut = drop-take c.args.front 1 c.args.tokens.items in
    let read = take-map piece_of 1 in
    grind (arith, common_steps, cut, read)
