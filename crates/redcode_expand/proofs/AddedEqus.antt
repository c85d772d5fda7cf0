-- What the lines of a walk make of its EQUs and of CURLINE.
use Rattle.std.proofs.Common.{unwrap_or, arith, ◌≡◌, ℕ, List, [], drop, Option, Result, Ok, refl, subst}
use Rattle.{std.specs.Bool.⊤, redcode_names.specs.Gives.◌>>=◌, redcode_expand.specs.Walk.{WalkState, Begun, begun_as, labelled, copies_of, begun_of, closed}}
use Rattle.redcode_expand.proofs.{Words.{AsmFault, RawSettings, SourceLine, labels_of, Counter, in_copies, EquList, Names, defined, all_defined, but_last, for_labels}, Counted.{Holds, bind, all-hold, last-hold}}

-- ---- names that are defined

defined-equs : (s : RawSettings) (line address : ℕ) (name : List ℕ) (names : Names) (equs : EquList) → names.equs ≡ equs
    → Holds (λ (new : Names). new.equs ≡ equs) (defined s line address name names)
defined-equs s line address name names equs is = grind arith

all-equs : (s : RawSettings) (line address : ℕ) (labels : List (List ℕ)) (names : Names) → Holds (λ (new : Names). new.equs ≡ names.equs) (all_defined s line address labels names)
all-equs s line address labels names =
    all-hold (λ n. n.equs ≡ names.equs) s line address (λ name old is. defined-equs s line address name old names.equs is) labels names refl

last-equs : (s : RawSettings) (line address : ℕ) (labels : List (List ℕ)) (names : Names)
    → Holds (λ (new : Names × Option (List ℕ)). new.0.equs ≡ names.equs) (but_last s line address labels names)
last-equs s line address labels names =
    last-hold (λ n. n.equs ≡ names.equs) s line address (λ name old is. defined-equs s line address name old names.equs is) labels names refl

-- ---- lines

-- what is held of what was found
held : {A : Type 0} (P : A → Type 0) (m : Result A AsmFault) (x : A) → Holds P m → m ≡ Ok x → P x
held P m x holds is = subst (Holds P) is holds

abbrev IsSame : WalkState → WalkState → Type 0
IsSame st new = (new.names.equs ≡ st.names.equs) × (new.before ≡ st.before)

pub labelled-equs : (s : RawSettings) (line : ℕ) (labels : List (List ℕ)) (st : WalkState) → Holds (IsSame st) (labelled s line labels st)
labelled-equs s line labels st =
    bind (λ names. names.equs ≡ st.names.equs) (IsSame st) (all_defined s line st.before labels st.names) (λ names. Ok (record st { names = names })) (all-equs s line st.before labels st.names)
    (λ names same. (same, refl))

-- a ROF adds no EQU
pub closed-equs : (s : RawSettings) (cs : List Counter) (line : SourceLine) (st new : WalkState) → closed s cs line st ≡ Ok new → new.names.equs ≡ st.names.equs
closed-equs s cs line st new is = (held (IsSame st) (closed s cs line st) new (labelled-equs s line.number (labels_of (in_copies cs line)) st) is).0

pub for-equs : (s : RawSettings) (line address : ℕ) (labels : List (List ℕ)) (names : Names)
    → Holds (λ (found : Names × List ℕ). found.0.equs ≡ names.equs) (for_labels s line address labels names)
for-equs s line address labels names =
    bind (λ found. found.0.equs ≡ names.equs) (λ found. found.0.equs ≡ names.equs) (but_last s line address labels names) (λ found. Ok (found.0, unwrap_or found.1 []))
    (last-equs s line address labels names) (λ found same. same)

-- the names that were found
pub for-found : (s : RawSettings) (line address : ℕ) (labels : List (List ℕ)) (names new : Names) (name : List ℕ) → for_labels s line address labels names ≡ Ok (new, name) → new.equs ≡ names.equs
for-found s line address labels names new name is = held (λ found. found.0.equs ≡ names.equs) (for_labels s line address labels names) (new, name) (for-equs s line address labels names) is

-- nor does a FOR, which stays at its CURLINE
pub begun-same : (s : RawSettings) (line : SourceLine) (st : WalkState) (b : Begun) → begun_of s line st ≡ Ok b → IsSame st b.state
begun-same s line st b is =
    held (λ x. IsSame st x.state) (begun_of s line st) b
    (bind (λ found. found.0.equs ≡ st.names.equs) (λ x. IsSame st x.state) (for_labels s line.number st.before (labels_of line) st.names)
    (λ found. copies_of s line.number st.before found.0.equs (drop 1 line.tokens) >>= λ n. Ok (begun_as (record st { names = found.0 }) found.1 n))
    (for-equs s line.number st.before (labels_of line) st.names)
    (λ found same. bind (λ n. ⊤) (λ x. IsSame st x.state) (copies_of s line.number st.before found.0.equs (drop 1 line.tokens)) (λ n. Ok (begun_as (record st { names = found.0 }) found.1 n))
    (grind arith) (λ n all. (same, refl)))) is
