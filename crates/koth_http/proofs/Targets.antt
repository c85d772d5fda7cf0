-- A target is read back from how it is written, and from nothing else.
use Rattle.std.proofs.Common.{◌≡◌, ℕ, ◌+◌, ◌<◌, ◌≤◌, ◌^◌, ◌%◌, List, [], ◌∷◌, ◌++◌, length, take, drop, get_or, cond, if◌then◌else◌, true, false, not, refl, sym, ap, ◌∙◌, Option, IfSome, Some, None}
use Rattle.{std.proofs.Common.{codes, decimal, Bool, arith, length-append, inl, inr}, std.specs.{List.{before_first, after_first, position_or_len}, Str.bytes_eq}}
use Rattle.std.proofs.{Math.ListN.take-append-drop, Math.Seq.{take-append_seam, drop-append-add}, lemmas.List.drop_all, lemmas.Bool.{cases_Bool, cases_lt, eq-eqb, ne_eqb, eqb-true, not-false}}
use Rattle.std.proofs.{lemmas.Fmt.{decimal_by_steps, decimal_nonempty}, lemmas.List.Folds.{position_or_len_push, prefix_len-append}, lemmas.List.Sums.{prefix_len_stops, split_at_first}}
use Rattle.std.proofs.{lemmas.Option.{none-some, same_Some}, lemmas.Slice.Eq.bytes_eq-Decides}
use Rattle.{koth_http.specs.{Target.{IsPage, single_of, is_slash, number_of, or_round, page_of, round_by, round_of, target_for}, declared.target.Page.Page}, koth_http.proofs.Numbers.{number-found, number-reads}}

-- ---- digits hold no slash

digit-no-slash : (d : ℕ) → is_slash (48 + d) ≡ false
digit-no-slash d = ne_eqb (48 + d) 47 (λ e. omega (arith, e))

one-digit : (n : ℕ) → n < 10 → position_or_len is_slash ((48 + n) ∷ []) ≡ 1
one-digit n below = ap (λ b. cond (not b) 1 0) (digit-no-slash n)

digit-more : (n : ℕ) (ds : List ℕ) → 10 ≤ n → position_or_len is_slash ds ≡ length ds
    → position_or_len is_slash (ds ++ ((48 + n % 10) ∷ [])) ≡ length (ds ++ ((48 + n % 10) ∷ []))
digit-more n ds high none =
    let digit = 48 + n % 10 in
    position_or_len_push is_slash ds digit
    ∙ ap (λ b. cond b (length ds + cond (is_slash digit) 0 1) (position_or_len is_slash ds)) (eq-eqb (position_or_len is_slash ds) (length ds) none)
    ∙ ap (λ b. length ds + cond b 0 1) (digit-no-slash (n % 10))
    ∙ sym (length-append ds (digit ∷ []))

decimal-no-slash : (n : ℕ) → n < 2 ^ 64 → position_or_len is_slash (decimal n) ≡ length (decimal n)
decimal-no-slash n fits = decimal_by_steps (λ n ds. position_or_len is_slash ds ≡ length ds) one-digit digit-more n fits

-- ---- a text that is cut at its first slash, and put together again

cut-place : (ds rest : List ℕ) → position_or_len is_slash ds ≡ length ds → position_or_len is_slash (ds ++ (47 ∷ rest)) ≡ length ds
cut-place ds rest none =
    prefix_len-append (λ b. not (is_slash b)) ds (47 ∷ rest)
    ∙ ap (λ b. cond b (length ds + 0) (position_or_len is_slash ds)) (eq-eqb (position_or_len is_slash ds) (length ds) none)
    ∙ omega arith

cut-before : (n : ℕ) (rest : List ℕ) → n < 2 ^ 64 → before_first is_slash (decimal n ++ (47 ∷ rest)) ≡ decimal n
cut-before n rest fits =
    let text = decimal n ++ (47 ∷ rest) in
    ap (λ k. take k text) (cut-place (decimal n) rest (decimal-no-slash n fits)) ∙ take-append_seam (decimal n) (47 ∷ rest)

cut-after : (n : ℕ) (rest : List ℕ) → n < 2 ^ 64 → after_first is_slash (decimal n ++ (47 ∷ rest)) ≡ rest
cut-after n rest fits =
    let text = decimal n ++ (47 ∷ rest) in
    ap (λ k. drop (k + 1) text) (cut-place (decimal n) rest (decimal-no-slash n fits)) ∙ drop-append-add (decimal n) (47 ∷ rest) 1

cut-whole : (text : List ℕ) → 0 < length (after_first is_slash text) → text ≡ before_first is_slash text ++ (47 ∷ after_first is_slash text)
cut-whole text more =
    let place = position_or_len is_slash text in
    elim (cases_lt place (length text)) [
      | inl below ↦
          let slash : get_or text place 0 ≡ 47 =
          eqb-true (get_or text place 0) 47 (not-false (is_slash (get_or text place 0)) (prefix_len_stops (λ b. not (is_slash b)) text 0 below)) in
          split_at_first is_slash text 0 below ∙ ap (λ b. before_first is_slash text ++ (b ∷ after_first is_slash text)) slash
      | inr past ↦ absurd (omega (arith, more, ap length (drop_all (place + 1) text (omega (arith, past)))))
    ]

-- ---- the three numbers of a round

round-parts : (a b c : Option ℕ) (page : Page) → round_by a b c ≡ Some page
    → (older : ℕ) × (younger : ℕ) × (round : ℕ) × (a ≡ Some older) × (b ≡ Some younger) × (c ≡ Some round) × (page ≡ Page.Round older younger round)
round-parts None b c page is = absurd (none-some page is)
round-parts (Some older) None c page is = absurd (none-some page is)
round-parts (Some older) (Some younger) None page is = absurd (none-some page is)
round-parts (Some older) (Some younger) (Some round) page is =
    (older, younger, round, refl, refl, refl, sym (same_Some (Page.Round older younger round) page is))

round-found : (older younger round : ℕ) → older < 2 ^ 64 → younger < 2 ^ 64 → round < 2 ^ 32
    → round_of (decimal older ++ (47 ∷ (decimal younger ++ (47 ∷ decimal round)))) ≡ Some (Page.Round older younger round)
unfolding round_of
round-found older younger round fits fits-too small =
    let rest = decimal younger ++ (47 ∷ decimal round) in
    let text = decimal older ++ (47 ∷ rest) in
    let behind : after_first is_slash text ≡ rest = cut-after older rest fits in
    let first = number-found (2 ^ 64) older (before_first is_slash text) fits fits (cut-before older rest fits) in
    let second = number-found (2 ^ 64) younger (before_first is_slash (after_first is_slash text)) fits-too fits-too
    (ap (before_first is_slash) behind ∙ cut-before younger (decimal round) fits-too) in
    let third = number-found (2 ^ 32) round (after_first is_slash (after_first is_slash text)) small (omega (arith, small))
    (ap (after_first is_slash) behind ∙ cut-after younger (decimal round) fits-too) in
    (λ i. round_by (first i) (second i) (third i))

round-reads : (text : List ℕ) (page : Page) → round_of text ≡ Some page → codes "/replay/" ++ text ≡ target_for page
unfolding round_of target_for
round-reads text page is =
    let rest = after_first is_slash text in
    let (older, younger, round, first, second, third, same) =
    round-parts (number_of (2 ^ 64) (before_first is_slash text)) (number_of (2 ^ 64) (before_first is_slash rest)) (number_of (2 ^ 32) (after_first is_slash rest)) page is in
    let (_, a) = number-reads (2 ^ 64) older (before_first is_slash text) first in
    let (_, b) = number-reads (2 ^ 64) younger (before_first is_slash rest) second in
    let (small, c) = number-reads (2 ^ 32) round (after_first is_slash rest) third in
    let more : 0 < length (after_first is_slash rest) = omega (arith, ap length c, decimal_nonempty round (omega (arith, small))) in
    let back = cut-whole rest more in
    let front = cut-whole text (omega (arith, ap length back, length-append (before_first is_slash rest) (47 ∷ after_first is_slash rest))) in
    ap (λ l. codes "/replay/" ++ l) (front ∙ (λ i. a i ++ (47 ∷ (back ∙ (λ j. b j ++ (47 ∷ c j))) i)))
    ∙ ap target_for (sym same)

-- ---- a page

cond_some_of : {A : Type 0} (b : Bool) (o : Option A) (x : A) → (if b then o else None) ≡ Some x → (b ≡ true) × (o ≡ Some x)
cond_some_of true o x is = (refl, is)
cond_some_of false o x is = absurd (none-some x is)

abbrev replay : List ℕ → Option Page
replay path = if bytes_eq (take 8 path) (codes "/replay/") then round_of (drop 8 path) else None

pub page-found : (page : Page) → IsPage page → page_of (target_for page) ≡ Some page
unfolding page_of single_of target_for
page-found Page.Hill is = refl
page-found Page.Data is = refl
page-found Page.Health is = refl
page-found Page.Robots is = refl
page-found Page.Icon is = refl
page-found (Page.Round older younger round) is = round-found older younger round is.0 is.1 is.2

-- the first of some choices, or the rest of them
chosen : (path text : List ℕ) (first page : Page) (others : Option Page) → text ≡ target_for first → (others ≡ Some page → path ≡ target_for page)
    → (if bytes_eq path text then Some first else others) ≡ Some page → path ≡ target_for page
chosen path text first page others written reads is = elim (cases_Bool (bytes_eq path text)) [
  | inl same ↦
      (bytes_eq-Decides path text).0 same ∙ written
      ∙ ap target_for (same_Some first page (sym (ap (λ b. if b then Some first else others) same) ∙ is))
  | inr other ↦ reads (sym (ap (λ b. if b then Some first else others) other) ∙ is)
]

single-reads : (path : List ℕ) (page : Page) → single_of path ≡ Some page → path ≡ target_for page
unfolding single_of target_for
single-reads path page =
    chosen path (codes "/") Page.Hill page _ refl (
    chosen path (codes "/hill.json") Page.Data page _ refl (
    chosen path (codes "/health") Page.Health page _ refl (
    chosen path (codes "/robots.txt") Page.Robots page _ refl (
    chosen path (codes "/favicon.ico") Page.Icon page None refl (λ is. absurd (none-some page is))))))

replay-reads : (path : List ℕ) (page : Page) → replay path ≡ Some page → path ≡ target_for page
replay-reads path page is =
    let (begins, rest) = cond_some_of (bytes_eq (take 8 path) (codes "/replay/")) (round_of (drop 8 path)) page is in
    sym (take-append-drop 8 path) ∙ ap (λ l. l ++ drop 8 path) ((bytes_eq-Decides (take 8 path) (codes "/replay/")).0 begins)
    ∙ round-reads (drop 8 path) page rest

-- of a page of which there is only one, or of a round
or-reads : (path : List ℕ) (page : Page) (found : Option Page) → (found ≡ Some page → path ≡ target_for page) → or_round found path ≡ Some page → path ≡ target_for page
or-reads path page None reads is = replay-reads path page is
or-reads path page (Some other) reads is = reads is

pub page-reads : (path : List ℕ) (page : Page) → page_of path ≡ Some page → path ≡ target_for page
unfolding page_of
page-reads path page is = or-reads path page (single_of path) (single-reads path page) is

-- what holds of the page that is answered, for `page_named`
pub answer-reads : (path : List ℕ) (answer : Option Page) → answer ≡ page_of path → IfSome answer (λ page. path ≡ target_for page)
answer-reads path None is = tt
answer-reads path (Some page) is = page-reads path page (sym is)
