-- Each image of a device in memory is named by some numbers.
use Rattle.{std.proofs.Common.{◌≡◌, ℕ, zero, suc, ◌<◌, ◌≤◌, inl, inr, List, [], ◌∷◌, length, map, get_or, sym, ap, ◌∙◌, arith, zero-add}, std.specs.List.range_with_len}
use Rattle.std.proofs.{lemmas.List.get_or_past, lemmas.List.FromFn.{length-map-range_with_len, get_or-map-range_with_len}, lemmas.Bool.cases_lt}
use Rattle.sector_disk.specs.{Image.{MayHold, IsImage}, Memory.{MemoryState, nothing, memory_disk, memory_size, chosen, chosen_image, Names, EachImageIsChosen}}

-- a number that names this content
pub record Number (stable : List ℕ) (contents : List (List ℕ)) (content : List ℕ) : Type 0 where
  pub number : ℕ
  pub names : content ≡ chosen stable contents number
  pub no_greater : number ≤ length contents

number_more : (stable first : List ℕ) (contents : List (List ℕ)) (content : List ℕ) (k : ℕ) → content ≡ chosen stable contents k → k ≤ length contents → Number stable (first ∷ contents) content
number_more stable first contents content zero is within = record { number = 0; names = is; no_greater = omega arith }
number_more stable first [] content (suc k) is within = record { number = 0; names = is; no_greater = omega arith }
number_more stable first (second ∷ contents) content (suc k) is within = record { number = suc (suc k); names = is; no_greater = omega (arith, within) }

pub number_of : (stable : List ℕ) (contents : List (List ℕ)) (content : List ℕ) → MayHold stable contents content → Number stable contents content
number_of stable [] content is = record { number = 0; names = is; no_greater = omega arith }
number_of stable (first ∷ contents) content (inl is) = record { number = 1; names = is; no_greater = omega arith }
number_of stable (first ∷ contents) content (inr may) =
    let found : Number stable contents content = number_of stable contents content may
    in number_more stable first contents content found.number found.names found.no_greater

module _ (memory : MemoryState) (image : ℕ → List ℕ) (is : IsImage (memory_disk memory) image) where
  abbrev named : (n : ℕ) → Number ((memory_disk memory).stable n) ((memory_disk memory).written n) (image n)
  named n = number_of ((memory_disk memory).stable n) ((memory_disk memory).written n) (image n) (is n)

  abbrev choice : List ℕ
  choice = map (λ n. (named n).number) (range_with_len 0 (memory_size memory))

  choice-at : (n : ℕ) → n < memory_size memory → get_or choice n 0 ≡ (named n).number
  choice-at n within = get_or-map-range_with_len (λ m. (named m).number) 0 (memory_size memory) n n 0 within (zero-add n)

  choice-past : (n : ℕ) → memory_size memory ≤ n → get_or choice n 0 ≡ 0
  choice-past n past = get_or_past choice n 0 (rw (length-map-range_with_len (λ m. (named m).number) 0 (memory_size memory)) past)

  outside : (n : ℕ) → memory_size memory ≤ n → get_or memory.sectors n nothing ≡ nothing
  outside n past = get_or_past memory.sectors n nothing past

  image-past : (n : ℕ) → memory_size memory ≤ n → image n ≡ []
  image-past n past = rw (outside n past) at (is n)

  at_place : (n : ℕ) → image n ≡ chosen_image choice (memory_disk memory) n
  at_place n = elim (cases_lt n (memory_size memory)) [
    | inl within ↦ (named n).names ∙ ap (chosen ((memory_disk memory).stable n) ((memory_disk memory).written n)) (sym (choice-at n within))
    | inr past ↦ rw (choice-past n past) (rw (outside n past) (image-past n past))
  ]

  small_at : (n : ℕ) → get_or choice n 0 ≤ length ((memory_disk memory).written n)
  small_at n = elim (cases_lt n (memory_size memory)) [
    | inl within ↦ rw (choice-at n within) (named n).no_greater
    | inr past ↦ rw (choice-past n past) (omega arith)
  ]

  pub choice_names : Names memory image choice
  choice_names = record { names = at_place; each_sector = length-map-range_with_len (λ m. (named m).number) 0 (memory_size memory); no_greater = small_at }

pub each_image_chosen : (memory : MemoryState) → EachImageIsChosen memory
each_image_chosen memory image is = (choice memory image is, choice_names memory image is)
