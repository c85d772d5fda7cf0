-- One part more among those that are joined.
use Rattle.std.proofs.Common.{◌≡◌, ℕ, ◌+◌, ◌<◌, ◌≤◌, List, [], ◌∷◌, ◌++◌, length, map, All, take, get_or, refl, sym, ap, subst, ◌∙◌, arith}
use Rattle.std.proofs.lemmas.{List.{length_push, map_push, take_more}, List.{Elements.All-push, FromFn.map-range_with_len_more}, Simd.map-map}
use Rattle.koth_text.specs.declared.tally.Tally.{Tally}
use Rattle.koth_standings.specs.{Parts.{numbers, sums_of}, PartText.{AreJoined, HeadParts, PartParts, RowParts, numbered, row_parts, tallies}, Standings.StandingsParts, declared.part_text.Row.Row}

-- the first i + 1 members of a list have what the first i have and the next one
pub one_more : {X : Type 0} (P : X → Type 0) (xs : List X) (i : ℕ) (x : X) → i < length xs → x ≡ get_or xs i x → P x → All P (take i xs) → All P (take (i + 1) xs)
one_more P xs i x within is has before =
    subst (λ l. All P l) (sym (take_more xs i x within ∙ ap (λ t. take i xs ++ t ∷ []) (sym is))) (All-push P (take i xs) x before has)

-- the rounds of rows, wherever these lie in memory
pub same_tallies : (rows : List Row) → map (λ (r : RowParts). r.tally) (map row_parts rows) ≡ map (λ (r : Row). r.tally) rows
same_tallies rows = map-map (λ (r : RowParts). r.tally) row_parts rows

pub joined_more : (h : HeadParts) (n number : ℕ) (parts : List PartParts) (p : PartParts) (old new : StandingsParts) (counts : List Tally)
    → length parts + 1 ≡ number → p.head ≡ numbered h number → length p.rows ≡ n → counts ≡ tallies p
    → (old.counts ≡ sums_of n (map tallies parts) → new.counts ≡ sums_of n (map tallies parts ++ counts ∷ []))
    → AreJoined h n parts old → AreJoined h n (parts ++ p ∷ []) new
joined_more h n number parts p old new counts next head many is adds are =
    let behind : 1 + length parts ≡ number = omega (arith, next) in
    let as_many : length parts + 1 ≡ length (parts ++ p ∷ []) = sym (length_push parts p) in
    record {
      same = map_push (λ (x : PartParts). x.head) parts p
          ∙ ap (λ l. l ++ p.head ∷ []) are.same
          ∙ ap (λ x. map (numbered h) (numbers (length parts)) ++ x ∷ []) head
          ∙ sym (map-range_with_len_more (numbered h) 1 (length parts) number behind)
          ∙ ap (λ m. map (numbered h) (numbers m)) as_many;
      many = All-push (λ (x : PartParts). length x.rows ≡ n) parts p are.many many;
      counts = adds are.counts
          ∙ ap (λ c. sums_of n (map tallies parts ++ c ∷ [])) is
          ∙ ap (sums_of n) (sym (map_push tallies parts p));
    }
