-- Rounds of replacement over lists, what they leave, and what is written.
use Rattle.std.proofs.Common.{◌≡◌, ℕ, zero, suc, ◌≤◌, ◌<◌, ◌-◌, ◌||◌, false, List, [], ◌∷◌, ◌++◌, length, Result, Ok, Err, refl, sym, ap, ◌∙◌, append_assoc, append-nil, length-append, arith}
use Rattle.std.proofs.{lemmas.Bool.Decides.nat_tests, lemmas.Grind.common_steps, lemmas.List.{length-map, map-append, drop_more, drop_all}}
use Rattle.{war_types.specs.{declared.fault.AsmFault.AsmFault, declared.fault.AsmKind.AsmKind}, redcode_text.specs.Tokens.Piece}
use Rattle.redcode_names.specs.{Gives.{◌>>=◌, fault_at}, Equ.{EquList, or_itself, body_at, round, has_equ, left_over, rounds, after_rounds}}
use Rattle.redcode_names.specs.Written.{all_written, itself_or, has_name, appended, written}

round-append : (equs : EquList) (xs ys : List Piece) → round equs (xs ++ ys) ≡ round equs xs ++ round equs ys
round-append equs [] ys = refl
round-append equs (x ∷ xs) ys = rw (round-append equs xs ys) (sym (append_assoc (or_itself x (body_at equs x)) (round equs xs) (round equs ys)))

after-append : (n : ℕ) (equs : EquList) (xs ys : List Piece) → after_rounds n equs (xs ++ ys) ≡ after_rounds n equs xs ++ after_rounds n equs ys
after-append zero equs xs ys = refl
after-append (suc n) equs xs ys = ap (after_rounds n equs) (round-append equs xs ys) ∙ after-append n equs (round equs xs) (round equs ys)

after-nothing : (n : ℕ) (equs : EquList) → after_rounds n equs [] ≡ []
after-nothing zero equs = refl
after-nothing (suc n) equs = after-nothing n equs

-- a token that is no name stays
after-itself : (n : ℕ) (equs : EquList) (x : Piece) → body_at equs x ≡ [] → after_rounds n equs (x ∷ []) ≡ x ∷ []
after-itself zero equs x none = refl
after-itself (suc n) equs x none = rw none (after-itself n equs x none)

-- lists only grow
round-longer : (equs : EquList) (xs : List Piece) → length xs ≤ length (round equs xs)
round-longer equs [] = omega arith
round-longer equs (x ∷ xs) = grind (arith, round-longer equs xs, length-append {A = Piece})

after-longer : (n : ℕ) (equs : EquList) (xs : List Piece) → length xs ≤ length (after_rounds n equs xs)
after-longer zero equs xs = omega arith
after-longer (suc n) equs xs = omega (arith, round-longer equs xs, after-longer n equs (round equs xs))

has_equ-append : (equs : EquList) (xs ys : List Piece) → has_equ equs (xs ++ ys) ≡ (has_equ equs xs || has_equ equs ys)
has_equ-append equs [] ys = refl
has_equ-append equs (x ∷ xs) ys = grind (arith, has_equ-append equs xs ys)

-- what is left over is all
pub left_over-all : (line : ℕ) (equs : EquList) (xs ys : List Piece) → left_over line equs xs ≡ Ok ys → xs ≡ ys
left_over-all line equs xs ys is = grind arith

-- a token after others when no round is left
then-last : (line : ℕ) (equs : EquList) (out : List Piece) (x : Piece) (body : List Piece) → body_at equs x ≡ body
    → (left_over line equs out >>= λ o. itself_or line o x body (Err (fault_at line AsmKind.EquLimit))) ≡ left_over line equs (out ++ x ∷ [])
then-last line equs out x [] is = grind (arith, nat_tests, has_equ-append equs out (x ∷ []), length-append out (x ∷ []))
then-last line equs out x (b ∷ bs) is = grind (arith, nat_tests, has_equ-append equs out (x ∷ []), length-append out (x ∷ []))

-- if each token is written as the rounds leave it, so are all
all-left : (n line : ℕ) (equs : EquList) (one : List Piece → Piece → Result (List Piece) AsmFault)
    → ((out : List Piece) (x : Piece) → (left_over line equs out >>= λ o. one o x) ≡ left_over line equs (out ++ after_rounds n equs (x ∷ [])))
    → (out xs : List Piece) → (left_over line equs out >>= λ o. all_written one o xs) ≡ left_over line equs (out ++ after_rounds n equs xs)
all-left n line equs one each out [] = rw (after-nothing n equs, append-nil out) (grind arith)
all-left n line equs one each out (x ∷ xs) =
    grind (arith, each out x, all-left n line equs one each (out ++ after_rounds n equs (x ∷ [])) xs, append_assoc out (after_rounds n equs (x ∷ [])) (after_rounds n equs xs), after-append n equs (x ∷ []) xs)

one-left : (n line : ℕ) (equs : EquList) (out : List Piece) (x : Piece) (body : List Piece) → body_at equs x ≡ body
    → (left_over line equs out >>= λ o. itself_or line o x body (written n line equs o body)) ≡ left_over line equs (out ++ after_rounds n equs (x ∷ []))
one-left zero line equs out x body is = then-last line equs out x body is
one-left (suc n) line equs out x [] is = rw (is, after-itself n equs x is) (then-last line equs out x [] is)
one-left (suc n) line equs out x (b ∷ bs) is = rw (is, append-nil (b ∷ bs)) (all-left n line equs _ (λ o y. one-left n line equs o y (body_at equs y) refl) out (b ∷ bs))

-- what is written of tokens is what the rounds leave
pub written-left : (n line : ℕ) (equs : EquList) (out xs : List Piece) → (left_over line equs out >>= λ o. written (suc n) line equs o xs) ≡ left_over line equs (out ++ after_rounds n equs xs)
written-left n line equs out xs = all-left n line equs _ (λ o y. one-left n line equs o y (body_at equs y) refl) out xs

-- tokens among which no name is are written as they are
pub written-plain : (n line : ℕ) (equs : EquList) (out tokens : List Piece) → has_name tokens ≡ false
    → written (suc n) line equs out tokens ≡ appended line out tokens
written-plain n line equs out [] none = grind (arith, nat_tests, append-nil out)
written-plain n line equs out (x ∷ xs) none =
    grind (
      arith,
      nat_tests,
      written-plain n line equs (out ++ x ∷ []) xs,
      append_assoc out (x ∷ []) xs,
      length-append out (x ∷ []),
    )

-- a body is written in one round less
pub written_more : (n line : ℕ) (equs : EquList) (out tokens : List Piece) → 0 < n → written n line equs out tokens ≡ written (suc (n - 1)) line equs out tokens
written_more zero line equs out tokens more = absurd (omega arith)
written_more (suc n) line equs out tokens more =
    let less : suc n - 1 ≡ n = omega arith in
    rw less refl

pub other_for : (line : ℕ) (out : List Piece) (x : Piece) (body : List Piece) (other : Result (List Piece) AsmFault) → 0 < length body → itself_or line out x body other ≡ other
other_for line out x body other some = grind arith

-- rounds that refuse as soon as a list is too long refuse as the last list does
pub rounds-left_over : (n line : ℕ) (equs : EquList) (xs : List Piece) → rounds n line equs xs ≡ left_over line equs (after_rounds n equs xs)
rounds-left_over zero line equs xs = refl
rounds-left_over (suc n) line equs xs = grind (arith, nat_tests, after-longer (suc n) equs xs, rounds-left_over n line equs (round equs xs))

-- what the steps of the code rest on
pub ruleset steps = (written-plain, written_more, other_for, length-map, common_steps)

-- what a further token rests on
pub ruleset further = (written_more, other_for, length-map, map-append, drop_more, drop_all)

-- what tokens that are appended at once rest on
pub ruleset appends = (length-map, map-append, nat_tests)
