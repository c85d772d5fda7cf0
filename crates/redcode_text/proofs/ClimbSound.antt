-- What is climbed is an expression.
use Rattle.{std.proofs.Common.{◌≡◌, ℕ, zero, suc, List, [], ◌∷◌, ◌++◌, Some, None, refl, sym, ap, ◌∙◌, inl, inr, append_assoc}, std.specs.Prelude.◌==◌, std.proofs.lemmas.Bool.{cases_Bool, eqb-true}}
use Rattle.redcode_text.specs.{declared.operator.Operator.Operator, declared.expression.Part.Part, Operators.{Value, rank_of, applied}}
use Rattle.{redcode_text.specs.Climbing.{Found, Climbs, Start, Begin, Continue, next_at, behind_close, under, signed_found, with_close, enclosed}, redcode_text.proofs.Reading.{Reads, same_pair}}
use Rattle.redcode_text.specs.declared.expression.Part.TheVariants as parts
use Rattle.redcode_text.specs.Climbing as climbs
use Rattle.redcode_text.proofs.Reading as reads

-- a front of the parts with this value, before the rest
pub record Front (rank depth : ℕ) (parts : List Part) (v : Value) (rest : List Part) : Type 0 where
  pub front : List Part
  pub together : parts ≡ front ++ rest
  pub reads : Reads rank depth front v

-- what was found is an expression: at the beginning, or after any front that it goes on
abbrev pub IsFound : ℕ → ℕ → Start → Found → Type 0
IsFound r d start None = Unit {0}
IsFound r d (Begin ps) (Some (v, rest)) = Front r d ps v rest
IsFound r d (Continue u ps) (Some (v, rest)) = (front : List Part) → Reads r d front u → Front r d (front ++ ps) v rest

-- the operator of a rank at the front
pub next_is : (r : ℕ) (ps : List Part) (o : Operator) (others : List Part) → next_at r ps ≡ Some (o, others) → (ps ≡ parts.Operator o ∷ others) × (rank_of o ≡ r)
next_is r (parts.Operator p ∷ ps) o others e = elim (cases_Bool (rank_of p == r)) [
  | inl same ↦ let pair = same_pair p o ps others (rw same at e) in (rw (pair.0, pair.1) refl, ap rank_of (sym pair.0) ∙ eqb-true (rank_of p) r same)
  | inr differs ↦ let e' = rw differs at e in absurd cc
]
next_is r _ o others e = absurd cc

-- after one part more
with_part : {r k d e : ℕ} {ps rest : List Part} {v w : Value} (part : Part) → ((front : List Part) → Reads r d front v → Reads k e (part ∷ front) w) → Front r d ps v rest → Front k e (part ∷ ps) w rest
with_part part reads f = record { front = part ∷ f.front; together = ap (λ xs. part ∷ xs) f.together; reads = reads f.front f.reads }

enclosed_front : (d : ℕ) (ps : List Part) (out : Found) → IsFound 6 d (Begin ps) out → IsFound zero (suc d) (Begin (parts.Open ∷ ps)) (enclosed out)
enclosed_front d ps (Some (v, (parts.Close ∷ rest))) found =
    record {
      front = parts.Open ∷ (found.front ++ parts.Close ∷ []);
      together = ap (λ xs. parts.Open ∷ xs) (found.together ∙ sym (append_assoc found.front (parts.Close ∷ []) rest));
      reads = reads.parentheses found.reads;
    }
enclosed_front d ps _ found = tt

signed_front : (d : ℕ) (ps : List Part) (o : Operator) (out : Found) → IsFound zero d (Begin ps) out → IsFound zero (suc d) (Begin (parts.Operator o ∷ ps)) (signed_found o out)
signed_front d ps Operator.Plus (Some (v, rest)) found = with_part (parts.Operator Operator.Plus) (λ front h. reads.plus h) found
signed_front d ps Operator.Minus (Some (v, rest)) found = with_part (parts.Operator Operator.Minus) (λ front h. reads.minus h) found
signed_front d ps _ _ found = tt

on_front : (r d : ℕ) (ps others rest : List Part) (v w : Value) (out : Found) (o : Operator) → next_at (suc r) ps ≡ Some (o, others)
    → Front r d others w rest → IsFound (suc r) d (Continue (applied o v w) rest) out → IsFound (suc r) d (Continue v ps) out
on_front r d ps others rest v w None o e right later = tt
on_front r d ps others rest v w (Some (u, end)) o e right later = λ front left.
    let next = next_is (suc r) ps o others e in
    let whole = later (front ++ parts.Operator o ∷ right.front) (reads.both o next.1 left right.reads) in
    record {
      front = whole.front;
      together = ap (λ xs. front ++ xs) (next.0 ∙ ap (λ xs. parts.Operator o ∷ xs) right.together) ∙ sym (append_assoc front (parts.Operator o ∷ right.front) rest) ∙ whole.together;
      reads = whole.reads;
    }

pub climbs_sound : {r d : ℕ} {start : Start} {out : Found} → Climbs r d start out → IsFound r d start out
climbs_sound (climbs.refused e) = tt
climbs_sound climbs.operand = record { front = _; together = refl; reads = reads.operand }
climbs_sound (climbs.negation {out = None} c) = tt
climbs_sound (climbs.negation {out = Some (v, rest)} c) = with_part parts.Not (λ front h. reads.negation h) (climbs_sound c)
climbs_sound (climbs.sign {d} {ps} {out} o c) = signed_front d ps o out (climbs_sound c)
climbs_sound (climbs.parentheses {d} {ps} {out} c) = enclosed_front d ps out (climbs_sound c)
climbs_sound (climbs.unbegun c) = tt
climbs_sound (climbs.begun {out = None} c later) = tt
climbs_sound (climbs.begun {out = Some (w, end)} c later) =
    let first = climbs_sound c in
    let whole = climbs_sound later first.front (reads.tighter first.reads) in
    record { front = whole.front; together = first.together ∙ whole.together; reads = whole.reads }
climbs_sound (climbs.over e) = λ front h. record { front = front; together = refl; reads = h }
climbs_sound (climbs.broken o e c) = tt
climbs_sound (climbs.on {r} {d} {ps} {others} {rest} {v} {w} {out} o e c later) = on_front r d ps others rest v w out o e (climbs_sound c) (climbs_sound later)
