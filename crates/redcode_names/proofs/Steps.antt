-- The steps of a replacement: those of tokens one after another, and of EQUs whose bodies are cut.
use Rattle.std.proofs.Common.{◌≡◌, ℕ, zero, suc, ◌+◌, ◌-◌, ◌/◌, ◌≤◌, true, List, [], ◌∷◌, ◌++◌, length, take, drop, get_or, ◌<◌, refl, sym, ap, ◌∙◌, arith, append_assoc}
use Rattle.std.proofs.lemmas.List.{take-take, map-append, drop_more}
use Rattle.{redcode_text.specs.{Tokens.{Piece, piece_of, pieces}, declared.token.Token.Token}, redcode_names.specs.{Equ.{EquList, body_at, has_equ}, Cut.{cut_equ, cut_equs, AreKept}, Steps.{token_steps, bodies_in, rounds_steps, replacing_steps}}}
use Rattle.redcode_names.proofs.Cut.{at-cut, has_equ-cut}

-- ---- tokens one after another

token-append : (xs ys : List Piece) → token_steps (xs ++ ys) ≡ token_steps xs + token_steps ys
token-append [] ys = omega arith
token-append (x ∷ xs) ys = omega (arith, token-append xs ys)

bodies-append : (equs : EquList) (xs ys : List Piece) → bodies_in equs (xs ++ ys) ≡ bodies_in equs xs ++ bodies_in equs ys
bodies-append equs [] ys = refl
bodies-append equs (x ∷ xs) ys = rw (bodies-append equs xs ys) (sym (append_assoc (take 513 (body_at equs x)) (bodies_in equs xs) (bodies_in equs ys)))

rounds-append : (n : ℕ) (equs : EquList) (xs ys : List Piece) → rounds_steps n equs (xs ++ ys) ≡ rounds_steps n equs xs + rounds_steps n equs ys
rounds-append zero equs xs ys = token-append xs ys
rounds-append (suc n) equs xs ys =
    omega (arith, token-append xs ys, ap (rounds_steps n equs) (bodies-append equs xs ys), rounds-append n equs (bodies_in equs xs) (bodies_in equs ys))

-- a token, and what it becomes in one round less
pub rounds-further : (n : ℕ) (equs : EquList) (x : Piece) (xs : List Piece)
    → 1 + length x.text / 32 + rounds_steps n equs (take 513 (body_at equs x)) + rounds_steps (suc n) equs xs ≡ rounds_steps (suc n) equs (x ∷ xs)
rounds-further n equs x xs = omega (arith, rounds-append n equs (take 513 (body_at equs x)) (bodies_in equs xs))

-- or none of it
pub rounds-past : (n : ℕ) (equs : EquList) (x : Piece) (xs : List Piece) → 1 + length x.text / 32 + rounds_steps n equs xs ≤ rounds_steps n equs (x ∷ xs)
rounds-past zero equs x xs = omega arith
rounds-past (suc n) equs x xs = omega (arith, rounds-further n equs x xs)

-- the tokens are read
pub rounds-read : (n : ℕ) (equs : EquList) (xs : List Piece) → token_steps xs ≤ rounds_steps n equs xs
rounds-read zero equs xs = omega arith
rounds-read (suc n) equs xs = omega arith

-- ---- EQUs whose bodies are cut

bodies-cut : (equs : EquList) (xs : List Piece) → bodies_in (cut_equs equs) xs ≡ bodies_in equs xs
bodies-cut equs [] = refl
bodies-cut equs (x ∷ xs) = rw (at-cut equs x, take-take 513 513 (body_at equs x) (omega arith), bodies-cut equs xs) refl

rounds-cut : (n : ℕ) (equs : EquList) (xs : List Piece) → rounds_steps n (cut_equs equs) xs ≡ rounds_steps n equs xs
rounds-cut zero equs xs = refl
rounds-cut (suc n) equs xs = ap (λ (m : ℕ). token_steps xs + m) (ap (rounds_steps n (cut_equs equs)) (bodies-cut equs xs) ∙ rounds-cut n equs (bodies_in equs xs))

pub replacing-cut : (equs : EquList) (xs : List Piece) → replacing_steps (cut_equs equs) xs ≡ replacing_steps equs xs
unfolding replacing_steps
replacing-cut equs xs = rw (has_equ-cut equs xs, rounds-cut 16 equs xs) refl

-- a body that is kept is cut already
pub body-kept : (equs : EquList) (token : Piece) → AreKept equs → take 513 (body_at equs token) ≡ body_at equs token
body-kept equs token is = sym (at-cut equs token) ∙ ap (λ (es : EquList). body_at es token) is

-- and so is one that is added
pub kept-added : (equs new : EquList) (name : List ℕ) (body : List Piece) → AreKept equs → new ≡ equs ++ (name, take 513 body) ∷ [] → AreKept new
kept-added equs new name body is added =
    rw added (map-append cut_equ equs ((name, take 513 body) ∷ []) ∙ rw (is, take-take 513 513 body (omega arith)) refl)

-- ---- what a replacement takes

pub replacing-all : (equs : EquList) (xs : List Piece) → has_equ equs xs ≡ true → replacing_steps equs xs ≡ rounds_steps 16 equs xs
unfolding replacing_steps
replacing-all equs xs some = rw some refl

-- the first of the tokens that are left
left-read : (n : ℕ) (equs : EquList) (ts : List Token) (i : ℕ) (d : Token) → i < length ts
    → rounds_steps n equs (pieces (drop i ts)) ≡ rounds_steps n equs (piece_of (get_or ts i d) ∷ pieces (drop (i + 1) ts))
left-read n equs ts i d some = ap (λ (us : List Token). rounds_steps n equs (pieces us)) (drop_more ts i d some)

-- it was read
pub token-read : (n : ℕ) (equs : EquList) (ts : List Token) (i : ℕ) (d : Token) (steps now before all : ℕ) → i < length ts → steps ≡ 1 + length (piece_of (get_or ts i d)).text / 32
    → now ≤ before + steps → before + rounds_steps n equs (pieces (drop i ts)) ≤ all → now + rounds_steps n equs (pieces (drop (i + 1) ts)) ≤ all
token-read n equs ts i d steps now before all some are few was =
    omega (arith, are, few, was, left-read n equs ts i d some, rounds-past n equs (piece_of (get_or ts i d)) (pieces (drop (i + 1) ts)))

-- and what it became, in one round less
pub body-read : (n : ℕ) (equs : EquList) (ts : List Token) (i : ℕ) (d : Token) (body : List Piece) (steps now after before all : ℕ) → i < length ts → 0 < n
    → steps ≡ 1 + length (piece_of (get_or ts i d)).text / 32 → body ≡ body_at equs (piece_of (get_or ts i d)) → take 513 (body_at equs (piece_of (get_or ts i d))) ≡ body_at equs (piece_of (get_or ts i d))
    → now ≤ before + steps → after ≤ now + rounds_steps (n - 1) equs body → before + rounds_steps n equs (pieces (drop i ts)) ≤ all → after + rounds_steps n equs (pieces (drop (i + 1) ts)) ≤ all
body-read zero equs ts i d body steps now after before all some more are body-is kept few read was = absurd (omega (arith, more))
body-read (suc n) equs ts i d body steps now after before all some more are body-is kept few read was =
    let x : Piece = piece_of (get_or ts i d) in
    let less : rounds_steps (suc n - 1) equs body ≡ rounds_steps n equs body = ap (λ (m : ℕ). rounds_steps m equs body) (omega arith) in
    omega (arith, are, few, read, was, left-read (suc n) equs ts i d some, rounds-further n equs x (pieces (drop (i + 1) ts)), less, ap (rounds_steps n equs) (body-is ∙ sym kept))
