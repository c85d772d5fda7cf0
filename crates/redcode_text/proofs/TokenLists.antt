-- The tokens of a line are one list.
use Rattle.{std.proofs.Common.{◌≡◌, ℕ, ◌+◌, Bool, true, false, List, [], ◌∷◌, ◌++◌, length, refl, sym, ap, ◌∙◌, arith}, std.specs.List.list_all}
use Rattle.{std.proofs.{lemmas.Bool.true≢false, lemmas.Grind.common_steps}, war_types.specs.Title.is_blank}
use Rattle.{redcode_text.specs.{declared.token.TokenKind.TokenKind, Tokens.{ScannedPiece, IsFirst, AreTokensFrom, is_of_kind}}, redcode_text.proofs.TextKinds.{not_blank, same_kind}}

-- if two texts with something after them are one line, they are equal, or one goes on in what is after the other
data Fronts (xs us ys vs : List ℕ) : Type 0 where
  same : xs ≡ ys → us ≡ vs → Fronts xs us ys vs
  shorter : (byte : ℕ) (more : List ℕ) → ys ≡ xs ++ byte ∷ more → us ≡ byte ∷ (more ++ vs) → Fronts xs us ys vs
  longer : (byte : ℕ) (more : List ℕ) → xs ≡ ys ++ byte ∷ more → vs ≡ byte ∷ (more ++ us) → Fronts xs us ys vs

fronts_of : (xs us ys vs : List ℕ) → xs ++ us ≡ ys ++ vs → Fronts xs us ys vs
fronts_of [] us [] vs e = same refl e
fronts_of [] us (y ∷ ys) vs e = shorter y ys refl e
fronts_of (x ∷ xs) us [] vs e = longer x xs refl (sym e)
fronts_of (x ∷ xs) us (y ∷ ys) vs e =
    let first : x ≡ y = cc in
    let others : xs ++ us ≡ ys ++ vs = cc in
    elim (fronts_of xs us ys vs others) [
      | same xs-is us-is ↦ same (cc) us-is
      | shorter byte more ys-is us-is ↦ shorter byte more (cc) us-is
      | longer byte more xs-is vs-is ↦ longer byte more (cc) vs-is
    ]

-- no byte among blanks is none
all_blank : (test : ℕ → Bool) (xs more : List ℕ) (b : ℕ) → list_all test (xs ++ b ∷ more) ≡ true → test b ≡ false → ⊥
all_blank test xs more b all none = grind (arith, common_steps)

-- the byte at a token is none
token_byte : (kind : TokenKind) (text behind : List ℕ) (b : ℕ) (more : List ℕ) → is_of_kind kind text ≡ true → text ++ behind ≡ b ∷ more → is_blank b ≡ false
token_byte kind [] behind b more h e = absurd cc
token_byte kind (c ∷ cs) behind b more h e = let same : c ≡ b = cc in rw (← same) (not_blank kind c cs h)

-- the first token is one
pub record SameFirst (p q : ScannedPiece) (us vs : List ℕ) : Type 0 where
  pub piece : p ≡ q
  pub behind : us ≡ vs

piece_is : (k l : TokenKind) (xs ys : List ℕ) (m n : ℕ) → k ≡ l → xs ≡ ys → m ≡ n → ◌≡◌ {A = ScannedPiece} (record { kind = k; text = xs; at = m }) (record { kind = l; text = ys; at = n })
piece_is k l xs ys m n p q r = cc

one_first : (place : ℕ) (line : List ℕ) (p q : ScannedPiece) (us vs : List ℕ) → IsFirst place line p us → IsFirst place line q vs → SameFirst p q us vs
one_first place line p q us vs a b = elim (fronts_of a.blanks (p.text ++ us) b.blanks (q.text ++ vs) (sym a.together ∙ b.together)) [
  | shorter byte more is rest ↦ absurd (all_blank is_blank a.blanks more byte (rw is at b.are_blank) (token_byte p.kind p.text us byte _ a.kind rest))
  | longer byte more is rest ↦ absurd (all_blank is_blank b.blanks more byte (rw is at a.are_blank) (token_byte q.kind q.text vs byte _ b.kind rest))
  | same blanks texts ↦ elim (fronts_of p.text us q.text vs texts) [
    | shorter byte more is rest ↦ absurd (true≢false (sym b.kind ∙ ap (is_of_kind q.kind) is ∙ a.longest q.kind byte more vs rest))
    | longer byte more is rest ↦ absurd (true≢false (sym a.kind ∙ ap (is_of_kind p.kind) is ∙ b.longest p.kind byte more us rest))
    | same text behind ↦
        let kind = same_kind p.kind q.kind p.text a.kind (ap (is_of_kind q.kind) text ∙ b.kind) in
        let at : p.at ≡ q.at = a.at ∙ ap (λ bs. place + length bs) blanks ∙ sym b.at in
        record { piece = piece_is p.kind q.kind p.text q.text p.at q.at kind text at; behind = behind }
  ]
]

-- blanks alone have no first token
no_first : (kind : TokenKind) (blanks text behind : List ℕ) → is_of_kind kind text ≡ true → list_all is_blank (blanks ++ (text ++ behind)) ≡ true → ⊥
no_first kind blanks [] behind h all = cc
no_first kind blanks (b ∷ bs) behind h all = all_blank is_blank blanks (bs ++ behind) b all (not_blank kind b bs h)

pub one_list : (place : ℕ) (line : List ℕ) (tokens others : List ScannedPiece) → AreTokensFrom place line tokens → AreTokensFrom place line others → tokens ≡ others
one_list place line [] [] a b = refl
one_list place line [] (q ∷ qs) a b = absurd (no_first q.kind b.1.0.blanks q.text b.0 b.1.0.kind (rw b.1.0.together at a))
one_list place line (p ∷ ps) [] a b = absurd (no_first p.kind a.1.0.blanks p.text a.0 a.1.0.kind (rw a.1.0.together at b))
one_list place line (p ∷ ps) (q ∷ qs) a b =
    let first = one_first place line p q a.0 b.0 a.1.0 b.1.0 in
    let others : ps ≡ qs = one_list (p.at + length p.text) a.0 ps qs a.1.1 (rw (← first.piece, ← first.behind) at b.1.1) in
    let head : p ≡ q = first.piece in
    cc
