-- What a contract sees of tokens in memory.
use Rattle.{std.specs.{Prelude.{List, Option, Result, Ok, Err}, Borrow.Bor, Option.option_map}, redcode_text.specs.{declared.token.Token.Token, Tokens.{Piece, pieces}}}
use Rattle.redcode_statement.specs.{declared.operand.Sides.Sides, Sides.{SideTokens, side_tokens}}

-- a result with its value as a contract sees it
abbrev pub result_map : {X Y E : Type 0} → (X → Y) → Result X E → Result Y E
result_map view (Ok x) = Ok (view x)
result_map view (Err fault) = Err fault

abbrev pub tokens_seen : Option (Bor (List Token)) → Option (List Piece)
tokens_seen tokens = option_map (λ ts. pieces ts.now) tokens

abbrev pub sides_seen : Sides → SideTokens
sides_seen sides = side_tokens (pieces sides.a.now) (pieces sides.b.now) sides.more

-- something with tokens after it
abbrev pub read : {X : Type 0} → X × Bor (List Token) → X × List Piece
read found = (found.0, pieces found.1.now)
