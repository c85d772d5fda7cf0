-- The value that is climbed is the value by splitting.
use Rattle.std.proofs.{Common.{◌≡◌, ℕ, zero, ◌≤◌, false, List, [], ◌∷◌, length, Option, Some, None, Err, ℤ, refl, sym, ap, ◌∙◌, arith, append-nil}, lemmas.List.length-map}
use Rattle.{war_types.specs.declared.fault.ExprFault.ExprFault, redcode_text.specs.{declared.expression.Part.Part, declared.token.Token.Token, Tokens.pieces, Operators.Value}}
use Rattle.redcode_text.specs.{Value.{split_from, value_within, or_bad, part_of, value_of}, Climbing.{Found, Climbs, Begin, parts_of}}
use Rattle.redcode_text.proofs.{ClimbSound.climbs_sound, ClimbComplete.climb_whole, SplitReads.{value_reads, Under-all}, ReadSplits.reads_value}

-- the value if nothing is left after it
abbrev pub whole_of : Found → Option Value
whole_of (Some (v, [])) = Some v
whole_of _ = None

climbed : (n d : ℕ) (ps : List Part) (out : Found) (x : Option Value) → length ps ≤ n → Climbs 6 d (Begin ps) out → value_within n d ps ≡ x → whole_of out ≡ x
climbed n d ps out (Some v) le c e = ap whole_of (climb_whole (value_reads n d ps v 6 e (Under-all (split_from false zero ps))) c)
climbed n d ps (Some (v, [])) None le c e =
    let front = climbs_sound c in
    let same : front.front ≡ ps = sym (front.together ∙ append-nil front.front) in
    let whole = reads_value (rw same at front.reads) n le in
    absurd cc
climbed n d ps _ None le c e = refl

pub value_is : (names : List ℕ → Option ℤ) (tokens : List Token) (out : Found) → Climbs 6 64 (Begin (parts_of names tokens)) out → value_of names (pieces tokens) ≡ or_bad (whole_of out)
value_is names tokens out c =
    let n = length (pieces tokens) in
    sym (ap or_bad (climbed n 64 (parts_of names tokens) out _ (omega (arith, length-map (pieces tokens) (part_of names))) c refl))

pub value_with : (names : List ℕ → Option ℤ) (tokens rest : List Token) (v : Value) → Climbs 6 64 (Begin (parts_of names tokens)) (Some (v, parts_of names rest))
    → (length rest ≡ 0 → value_of names (pieces tokens) ≡ v) × (1 ≤ length rest → value_of names (pieces tokens) ≡ Err ExprFault.BadExpression)
value_with names tokens [] v c = (λ none. value_is names tokens _ c, λ some. absurd (omega arith))
value_with names tokens (t ∷ rest) v c = (λ none. absurd (omega arith), λ some. value_is names tokens _ c)
