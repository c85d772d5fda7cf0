use Rattle.std.proofs.{Common.{List, [], ◌++◌, take, if◌then◌else◌, ap, sym, ◌∙◌, arith}, lemmas.List.{length-map, map-append}}
use Rattle.{redcode_text.specs.{declared.token.Token.Token, Tokens.{Piece, piece_of, pieces}}, redcode_expand.specs.Cut.{first_bad, is_limited}, redcode_expand.proofs.Cut.{kept-parts, kept-short}}
use Rattle.redcode_expand.proofs.entry.cut.Goals as goal

pub returns-then-tokens-le-MOST_TOKENS : goal.returns-then-tokens-le-MOST_TOKENS
returns-then-tokens-le-MOST_TOKENS g c =
    let tokens = c.args.tokens.now in
    ap (λ (ts : List Token). pieces ts) c.in_ok-all.ensures.items
    ∙ sym (kept-short c.args.kind (pieces tokens) (omega (arith, c.if-tokens-le-MOST_TOKENS.true, length-map tokens piece_of)))

pub returns : goal.returns
returns g c =
    let tokens = c.args.tokens.now in
    let told = c.told.result.now in
    ap (λ (ts : List Token). pieces ts) c.in_ok-kept.ensures ∙ map-append piece_of c.split_at.result.0.now told
    ∙ ap (λ (ts : List Token). pieces ts ++ pieces told) c.split_at.ensures.front
    ∙ ap (λ (ps : List Piece). pieces (take 516 tokens) ++ ps)
    (c.told.ensures ∙ ap (λ (ts : List Token). if is_limited c.args.kind then [] else first_bad (pieces ts)) c.split_at.ensures.back)
    ∙ sym (kept-parts c.args.kind tokens)
