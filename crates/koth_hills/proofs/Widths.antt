-- A byte more of a text and its longest line: for `longest_line`.
use Rattle.std.proofs.Common.{◌≡◌, ◌≢◌, ◌∙◌, ℕ, ◌+◌, ◌<◌, List, length, drop, get_or, max, ap, ap₂, sym, arith}
use Rattle.{std.specs.Prelude.◌==◌, std.proofs.lemmas.{Bool.{cond-false, cond-true, eq-eqb, ne_eqb}, List.at_drop_more}, koth_hills.specs.Width.longest_from}

regrouped : (a b c : ℕ) → max b (max a c) ≡ max (max a b) c
regrouped a b c = omega arith

module _ (text : List ℕ) (place before : ℕ) (below : place < length text) where
  -- a line feed ends a line
  pub line_ends : (longest longer left due : ℕ) → get_or text place 0 ≡ 10 → longer ≡ max before longest → left ≡ 0
      → max (longest_from before (drop place text)) longest ≡ due → max (longest_from left (drop (place + 1) text)) longer ≡ due
  line_ends longest longer left due ends longer_is left_is so_far =
      let byte = get_or text place 0 in
      let rest = drop (place + 1) text in
      let step : longest_from before (drop place text) ≡ max before (longest_from 0 rest) =
      at_drop_more (longest_from before) text place 0 below
      ∙ cond-true (byte == 10) (max before (longest_from 0 rest)) (longest_from (before + 1) rest) (eq-eqb byte 10 ends) in
      ap₂ (λ n m. max (longest_from n rest) m) left_is longer_is ∙ regrouped before (longest_from 0 rest) longest
      ∙ ap (λ n. max n longest) (sym step) ∙ so_far

  -- another byte stands in it
  pub line_goes_on : (longest longer left due : ℕ) → get_or text place 0 ≢ 10 → longer ≡ longest → left ≡ before + 1
      → max (longest_from before (drop place text)) longest ≡ due → max (longest_from left (drop (place + 1) text)) longer ≡ due
  line_goes_on longest longer left due goes_on longer_is left_is so_far =
      let byte = get_or text place 0 in
      let rest = drop (place + 1) text in
      let step : longest_from before (drop place text) ≡ longest_from (before + 1) rest =
      at_drop_more (longest_from before) text place 0 below
      ∙ cond-false (byte == 10) (max before (longest_from 0 rest)) (longest_from (before + 1) rest) (ne_eqb byte 10 goes_on) in
      ap₂ (λ n m. max (longest_from n rest) m) left_is longer_is ∙ ap (λ n. max n longest) (sym step) ∙ so_far
