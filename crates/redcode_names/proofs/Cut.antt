-- EQUs whose bodies are cut: what is replaced, and which names are taken, stays the same.
use Rattle.std.proofs.Common.{◌≡◌, ℕ, zero, suc, ◌<◌, Bool, false, true, List, [], ◌∷◌, ◌++◌, length, take, Result, Ok, Err, refl, ap, ◌∙◌, arith, length-append, lt-ltb, Option}
use Rattle.std.proofs.{lemmas.List.{length-take-le, take_all, take-take, map-append}, lemmas.Bool.{cases_Bool, ltb-true, ltb-false}}
use Rattle.{std.proofs.Common.{inl, inr, ◌⊎◌}, std.specs.{Prelude.{nat_lt, if◌then◌else◌}, Str.bytes_eq}, redcode_lines.specs.Line.is_name}
use Rattle.{war_types.specs.{declared.fault.AsmFault.AsmFault, declared.settings.RawSettings.RawSettings, declared.fault.AsmKind.AsmKind}, redcode_text.specs.Tokens.Piece}
use Rattle.redcode_names.specs.Gives.{◌>>=◌, fault_at}
use Rattle.redcode_names.specs.Equ.{EquList, is_bad_body, is_equ, body_of, body_at, or_itself, has_tokens, round, has_equ, rounds, replaced}
use Rattle.redcode_names.specs.Name.{Names, names_of, is_taken, defined, all_defined, but_last, equ_defined, equ_named, equ_line}
use Rattle.redcode_names.specs.Cut.{cut_equs, cut_names, with_cut}

-- ---- lists of EQUs

pub cut-twice : (equs : EquList) → cut_equs (cut_equs equs) ≡ cut_equs equs
cut-twice [] = refl
cut-twice (equ ∷ equs) = rw (cut-twice equs, take-take 513 513 equ.1 (omega arith)) refl

pub cut-added : (equs : EquList) (name : List ℕ) (body : List Piece) → cut_equs (equs ++ (name, take 513 body) ∷ []) ≡ cut_equs (equs ++ (name, body) ∷ [])
cut-added [] name body = rw (take-take 513 513 body (omega arith)) refl
cut-added (equ ∷ equs) name body = rw (cut-added equs name body) refl

is_equ-cut : (equs : EquList) (name : List ℕ) → is_equ (cut_equs equs) name ≡ is_equ equs name
is_equ-cut [] name = refl
is_equ-cut (equ ∷ equs) name = rw (is_equ-cut equs name) refl

if-cut : (b : Bool) (xs ys : List Piece) → (if b then take 513 xs else take 513 ys) ≡ take 513 (if b then xs else ys)
if-cut true xs ys = refl
if-cut false xs ys = refl

body-cut : (equs : EquList) (name : List ℕ) → body_of (cut_equs equs) name ≡ take 513 (body_of equs name)
body-cut [] name = refl
body-cut (equ ∷ equs) name = rw (body-cut equs name) (if-cut (bytes_eq name equ.0) equ.1 (body_of equs name))

pub at-cut : (equs : EquList) (token : Piece) → body_at (cut_equs equs) token ≡ take 513 (body_at equs token)
at-cut equs token = rw (body-cut equs token.text) (if-cut (is_name token.kind) (body_of equs token.text) [])

some-cut : (ts : List Piece) → has_tokens (take 513 ts) ≡ has_tokens ts
some-cut [] = refl
some-cut (t ∷ ts) = refl

pub has_equ-cut : (equs : EquList) (ts : List Piece) → has_equ (cut_equs equs) ts ≡ has_equ equs ts
has_equ-cut equs [] = refl
has_equ-cut equs (t ∷ ts) = rw (at-cut equs t, some-cut (body_at equs t), has_equ-cut equs ts) refl

-- ---- the replacement

-- a round over cut bodies is the same, or both are too long
abbrev SameOrLong : List Piece → List Piece → Type 0
SameOrLong xs ys = (xs ≡ ys) ⊎ ((512 < length xs) × (512 < length ys))

itself-cut : (t : Piece) (body : List Piece) → SameOrLong (or_itself t (take 513 body)) (or_itself t body)
itself-cut t [] = inl refl
itself-cut t (b ∷ bs) = elim (cases_Bool (nat_lt 513 (length (b ∷ bs)))) [
  | inl long ↦
      let more : 513 < length (b ∷ bs) = ltb-true 513 (length (b ∷ bs)) long in
      let kept : length (take 513 (b ∷ bs)) ≡ 513 = length-take-le 513 (b ∷ bs) (omega (arith, more)) in
      inr (omega (arith, kept), omega (arith, more))
  | inr short ↦ inl (take_all 513 (b ∷ bs) (ltb-false 513 (length (b ∷ bs)) short))
]

both-appended : (ps qs xs ys : List Piece) → SameOrLong ps qs → SameOrLong xs ys → SameOrLong (ps ++ xs) (qs ++ ys)
both-appended ps qs xs ys first others = grind (arith, length-append ps xs, length-append qs ys)

round-cut : (equs : EquList) (ts : List Piece) → SameOrLong (round (cut_equs equs) ts) (round equs ts)
round-cut equs [] = inl refl
round-cut equs (t ∷ ts) =
    both-appended (or_itself t (body_at (cut_equs equs) t)) (or_itself t (body_at equs t)) (round (cut_equs equs) ts) (round equs ts)
    (rw (at-cut equs t) (itself-cut t (body_at equs t))) (round-cut equs ts)

rounds-long : (n line : ℕ) (equs : EquList) (ts : List Piece) → 512 < length ts → rounds n line equs ts ≡ Err (fault_at line AsmKind.EquLimit)
rounds-long zero line equs ts long = rw (lt-ltb 512 (length ts) long) refl
rounds-long (suc n) line equs ts long = rw (lt-ltb 512 (length ts) long) refl

rounds-cut : (n line : ℕ) (equs : EquList) (ts : List Piece) → rounds n line (cut_equs equs) ts ≡ rounds n line equs ts
rounds-cut zero line equs ts = rw (has_equ-cut equs ts) refl
rounds-cut (suc n) line equs ts = elim (round-cut equs ts) [
  | inl same ↦ rw (same, rounds-cut n line equs (round equs ts)) refl
  | inr long ↦ rw (rounds-long n line (cut_equs equs) (round (cut_equs equs) ts) long.0, rounds-long n line equs (round equs ts) long.1) refl
]

-- tokens with the names of EQUs replaced, whose bodies are cut
pub replaced-cut : (line : ℕ) (equs : EquList) (ts : List Piece) → replaced line (cut_equs equs) ts ≡ replaced line equs ts
unfolding replaced
replaced-cut line equs ts = rounds-cut 16 line equs ts

-- ---- names that are defined

taken-cut : (s : RawSettings) (names : Names) (name : List ℕ) → is_taken s (cut_names names) name ≡ is_taken s names name
taken-cut s names name = rw (is_equ-cut names.equs name) refl

defined-cut : (s : RawSettings) (line address : ℕ) (name : List ℕ) (names : Names) → defined s line address name (cut_names names) ≡ with_cut (defined s line address name names)
defined-cut s line address name names = grind (arith, taken-cut)

pub all-cut : (s : RawSettings) (line address : ℕ) (labels : List (List ℕ)) (names : Names) → all_defined s line address labels (cut_names names) ≡ with_cut (all_defined s line address labels names)
all-cut s line address [] names = refl
all-cut s line address (name ∷ others) names = grind (arith, defined-cut s line address name names, all-cut s line address others)

-- what was found before the last name, so
abbrev pub last_cut : Result (Names × Option (List ℕ)) AsmFault → Result (Names × Option (List ℕ)) AsmFault
last_cut found = found >>= λ f. Ok (cut_names f.0, f.1)

then-last : (m : Result Names AsmFault) (f : Names → Result (Names × Option (List ℕ)) AsmFault) → ((n : Names) → f (cut_names n) ≡ last_cut (f n)) → with_cut m >>= f ≡ last_cut (m >>= f)
then-last (Ok n) f is = is n
then-last (Err fault) f is = refl

pub last-cut : (s : RawSettings) (line address : ℕ) (labels : List (List ℕ)) (names : Names) → but_last s line address labels (cut_names names) ≡ last_cut (but_last s line address labels names)
last-cut s line address [] names = refl
last-cut s line address (name ∷ []) names = refl
last-cut s line address (name ∷ next ∷ others) names =
    ap (λ (m : Result Names AsmFault). m >>= but_last s line address (next ∷ others)) (defined-cut s line address name names)
    ∙ then-last (defined s line address name names) (but_last s line address (next ∷ others)) (λ n. last-cut s line address (next ∷ others) n)

-- an EQU was added, of whose body no more is kept than is cut
pub equ-added : (s : RawSettings) (line : ℕ) (body : List Piece) (name : List ℕ) (names : Names) (new : EquList) → is_taken s names name ≡ false → is_bad_body body ≡ false
    → new ≡ names.equs ++ (name, take 513 body) ∷ [] → with_cut (equ_defined s line body name names) ≡ Ok (cut_names (names_of names.labels new))
equ-added s line body name names new free good is = rw (free, good, is, cut-added names.equs name body) refl

equ-cut : (s : RawSettings) (line : ℕ) (body : List Piece) (name : Option (List ℕ)) (names : Names) → with_cut (equ_named s line body name (cut_names names)) ≡ with_cut (equ_named s line body name names)
equ-cut s line body name names = grind (arith, taken-cut, map-append, cut-twice)

pub line-cut : (s : RawSettings) (line address : ℕ) (body : List Piece) (labels : List (List ℕ)) (names : Names)
    → with_cut (equ_line s line address body labels (cut_names names)) ≡ with_cut (equ_line s line address body labels names)
line-cut s line address body labels names = grind (arith, last-cut, equ-cut)
