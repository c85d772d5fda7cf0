-- Each address of a walk is a number of instructions among its lines, and each of an expansion as well.
use Rattle.std.proofs.Common.{◌≡◌, ℕ, zero, suc, ◌+◌, ◌<◌, Bool, if◌then◌else◌, List, [], ◌∷◌, ◌++◌, length, take, drop, unwrap_or, Option, Some, None, Result, Ok, Err, IfOk, refl, ap, arith, true}
use Rattle.{std.proofs.Common.{false, nat_lt, sym, ◌∙◌}, std.specs.Bool.⊤, std.proofs.lemmas.List.{take_all, take-append-le, length-append}, std.specs.Str.bytes_eq}
use Rattle.{war_types.specs.declared.fault.AsmKind.AsmKind, redcode_lines.specs.Source.live_lines, redcode_names.specs.Gives.{◌>>=◌, fault_at}}
use Rattle.redcode_expand.specs.Walk.{ExpandedLine, WalkState, Begun, begun, begun_as, begun_of, closed, copied, copies, copies_of, counted, equated, labelled, step, step_by, until_end}
use Rattle.redcode_expand.specs.{Walk.{walk, walk_all, walk_begin, with_line, with_other, with_word, worded}, Laws.{instruction_of, instructions, before_at, AreFrom, AreLabels, IsCounted, IsPlace, AreCounted, LabelsStandBehindInstructions}}
use Rattle.redcode_expand.specs.Expansion.{all_replaced, expansion, finished, line_replaced}
use Rattle.redcode_expand.proofs.Words.{AsmFault, RawSettings, Piece, SourceLine, labels_of, Blocks, Parsed, finish, one_line, block, open_for, parsed, source_lines, Counter, counter_of}
use Rattle.redcode_expand.proofs.Words.{in_copies, LabelList, Names, all_defined, but_last, defined, equ_line, equ_named, for_labels, address_of, EquList, Word, LineKind, LineForm}
use Rattle.redcode_lines.specs.declared.line.LineKind.TheVariants as lines
use Rattle.redcode_lines.specs.declared.reading.LineForm.TheVariants as forms

-- ---- what was found, if it was

abbrev pub Holds : {A : Type 0} → (A → Type 0) → Result A AsmFault → Type 0
Holds P (Ok x) = P x
Holds P (Err fault) = ⊤

pub bind : {A B : Type 0} (P : A → Type 0) (Q : B → Type 0) (m : Result A AsmFault) (f : A → Result B AsmFault) → Holds P m → ((x : A) → P x → Holds Q (f x)) → Holds Q (m >>= f)
bind P Q m f h1 h2 = grind arith

pub either : {A : Type 0} (P : A → Type 0) (b : Bool) (m n : Result A AsmFault) → Holds P m → Holds P n → Holds P (if b then m else n)
either P b m n h1 h2 = grind arith

-- ---- lines and labels

instructions-more : (lines : List ExpandedLine) (line : ExpandedLine) → instructions (lines ++ line ∷ []) ≡ instructions lines + instruction_of line.kind
instructions-more [] line = omega arith
instructions-more (first ∷ lines) line = let more = instructions-more lines line in omega (arith, more)

from-more : (n : ℕ) (lines : List ExpandedLine) (line : ExpandedLine) → AreFrom n lines → line.before ≡ n + instructions lines → AreFrom n (lines ++ line ∷ [])
from-more n [] line are is = (omega (arith, is), tt)
from-more n (first ∷ lines) line are is = (are.0, from-more (n + instruction_of first.kind) lines line are.1 (omega (arith, is)))

pub from-at : (n : ℕ) (lines : List ExpandedLine) (i : ℕ) → AreFrom n lines → i < length lines → before_at lines i ≡ n + instructions (take i lines)
from-at n [] i are some = absurd (omega arith)
from-at n (line ∷ lines) zero are some = omega arith
from-at n (line ∷ lines) (suc i) are some = grind (arith, from-at (n + instruction_of line.kind) lines i)

place-later : (lines : List ExpandedLine) (line : ExpandedLine) (address : ℕ) → IsPlace lines address → IsPlace (lines ++ line ∷ []) address
place-later lines line address h1 = grind (arith, length-append, take-append-le)

place-here : (lines : List ExpandedLine) (address : ℕ) → address ≡ instructions lines → IsPlace lines address
place-here lines address h1 = grind (arith, take_all)

labels-later : (lines : List ExpandedLine) (line : ExpandedLine) (labels : LabelList) → AreLabels lines labels → AreLabels (lines ++ line ∷ []) labels
labels-later lines line [] are = tt
labels-later lines line (label ∷ labels) are = (place-later lines line label.1 are.0, labels-later lines line labels are.1)

labels-more : (lines : List ExpandedLine) (labels : LabelList) (name : List ℕ) (address : ℕ) → AreLabels lines labels → IsPlace lines address → AreLabels lines (labels ++ (name, address) ∷ [])
labels-more lines [] name address are is = (is, tt)
labels-more lines (label ∷ labels) name address are is = (are.0, labels-more lines labels name address are.1 is)

-- ---- names

abbrev AreNames : List ExpandedLine → Names → Type 0
AreNames lines names = AreLabels lines names.labels

defined-names : (lines : List ExpandedLine) (s : RawSettings) (line address : ℕ) (name : List ℕ) (names : Names) → IsPlace lines address → AreNames lines names
    → Holds (AreNames lines) (defined s line address name names)
defined-names lines s line address name names h1 h2 = grind (arith, labels-more)

-- what each name keeps that is defined, all keep
pub all-hold : (P : Names → Type 0) (s : RawSettings) (line address : ℕ) → ((name : List ℕ) (names : Names) → P names → Holds P (defined s line address name names))
    → (labels : List (List ℕ)) (names : Names) → P names → Holds P (all_defined s line address labels names)
all-hold P s line address go [] names are = are
all-hold P s line address go (name ∷ others) names are =
    bind P P (defined s line address name names) (all_defined s line address others) (go name names are) (λ found now. all-hold P s line address go others found now)

pub last-hold : (P : Names → Type 0) (s : RawSettings) (line address : ℕ) → ((name : List ℕ) (names : Names) → P names → Holds P (defined s line address name names))
    → (labels : List (List ℕ)) (names : Names) → P names → Holds (λ (found : Names × Option (List ℕ)). P found.0) (but_last s line address labels names)
last-hold P s line address go [] names are = are
last-hold P s line address go (name ∷ []) names are = are
last-hold P s line address go (name ∷ next ∷ others) names are =
    bind P (λ found. P found.0) (defined s line address name names) (but_last s line address (next ∷ others)) (go name names are)
    (λ found now. last-hold P s line address go (next ∷ others) found now)

all-names : (lines : List ExpandedLine) (s : RawSettings) (line address : ℕ) (labels : List (List ℕ)) (names : Names) → IsPlace lines address → AreNames lines names
    → Holds (AreNames lines) (all_defined s line address labels names)
all-names lines s line address labels names is are = all-hold (AreNames lines) s line address (λ name old. defined-names lines s line address name old is) labels names are

last-names : (lines : List ExpandedLine) (s : RawSettings) (line address : ℕ) (labels : List (List ℕ)) (names : Names) → IsPlace lines address → AreNames lines names
    → Holds (λ (found : Names × Option (List ℕ)). AreNames lines found.0) (but_last s line address labels names)
last-names lines s line address labels names is are = last-hold (AreNames lines) s line address (λ name old. defined-names lines s line address name old is) labels names are

named : (lines : List ExpandedLine) (s : RawSettings) (line : ℕ) (body : List Piece) (name : Option (List ℕ)) (names : Names) → AreNames lines names
    → Holds (AreNames lines) (equ_named s line body name names)
named lines s line body name names h1 = grind arith

equ-names : (lines : List ExpandedLine) (s : RawSettings) (line address : ℕ) (body : List Piece) (labels : List (List ℕ)) (names : Names) → IsPlace lines address → AreNames lines names
    → Holds (AreNames lines) (equ_line s line address body labels names)
equ-names lines s line address body labels names is are =
    bind (λ (found : Names × Option (List ℕ)). AreNames lines found.0) (AreNames lines) (but_last s line address labels names) (λ found. equ_named s line body found.1 found.0)
    (last-names lines s line address labels names is are) (λ found now. named lines s line body found.1 found.0 now)

for-names : (lines : List ExpandedLine) (s : RawSettings) (line address : ℕ) (labels : List (List ℕ)) (names : Names) → IsPlace lines address → AreNames lines names
    → Holds (λ (found : Names × List ℕ). AreNames lines found.0) (for_labels s line address labels names)
for-names lines s line address labels names is are =
    bind (λ (found : Names × Option (List ℕ)). AreNames lines found.0) (λ (found : Names × List ℕ). AreNames lines found.0) (but_last s line address labels names)
    (λ found. Ok (found.0, unwrap_or found.1 [])) (last-names lines s line address labels names is are) (λ found now. now)

-- ---- the steps of a walk

here : (st : WalkState) → IsCounted st → IsPlace st.lines st.before
here st is = place-here st.lines st.before is.before

with-names : (st : WalkState) (m : Result Names AsmFault) → IsCounted st → Holds (AreNames st.lines) m → Holds IsCounted (m >>= λ names. Ok (record st { names = names }))
with-names st m h1 h2 = grind arith

holds-counted : (line : ℕ) (st : WalkState) → IsCounted st → Holds IsCounted (counted line st)
holds-counted line st h1 = grind arith

holds-labelled : (s : RawSettings) (line : ℕ) (labels : List (List ℕ)) (st : WalkState) → IsCounted st → Holds IsCounted (labelled s line labels st)
holds-labelled s line labels st is =
    with-names st (all_defined s line st.before labels st.names) is (all-names st.lines s line st.before labels st.names (here st is) is.labels)

holds-equated : (s : RawSettings) (line : ℕ) (labels : List (List ℕ)) (body : List Piece) (st : WalkState) → IsCounted st → Holds IsCounted (equated s line labels body st)
holds-equated s line labels body st is =
    with-names st (equ_line s line st.before body labels st.names) is (equ-names st.lines s line st.before body labels st.names (here st is) is.labels)

-- a line more, and its instruction
put : (line : ℕ) (kind : LineKind) (word : Option Word) (title : List ℕ) (tokens : List Piece) (st : WalkState) (more : ℕ) (ended : Bool) → more ≡ instruction_of kind → IsCounted st
    → IsCounted (record (with_line line kind word title tokens st) { before = st.before + more; ended = ended })
put line kind word title tokens st more ended h1 h2 = grind (arith, instructions-more, from-more, labels-later)

put-other : (line : ℕ) (tokens : List Piece) (st : WalkState) → IsCounted st → IsCounted (with_other line tokens st)
put-other line tokens st is = grind (arith, instructions-more, from-more, labels-later)

put-word : (line : ℕ) (word : Word) (tokens : List Piece) (st : WalkState) → IsCounted st → IsCounted (with_word line word tokens st)
put-word line word tokens st is = grind (arith, instructions-more, from-more, labels-later)

holds-worded : (s : RawSettings) (line : SourceLine) (st : WalkState) → IsCounted st → Holds IsCounted (worded s line st)
holds-worded s line st h1 = grind (arith, either, holds-equated, bind, holds-labelled, put-word, put-other)

holds-lined : (line : ℕ) (kind : LineKind) (title : List ℕ) (tokens : List Piece) (st : WalkState) → 0 ≡ instruction_of kind → IsCounted st
    → Holds IsCounted (counted line st >>= λ st. Ok (with_line line kind None title tokens st))
holds-lined line kind title tokens st none is = grind (arith, instructions-more, from-more, labels-later)

holds-by : (s : RawSettings) (form : LineForm) (line : SourceLine) (st : WalkState) → IsCounted st → Holds IsCounted (step_by s form line st)
holds-by s forms.Statement line st is = bind IsCounted IsCounted (counted line.number st) (worded s line) (holds-counted line.number st is) (λ now counts. holds-worded s line now counts)
holds-by s forms.Assert line st is = holds-lined line.number lines.Assert [] line.tokens st refl is
holds-by s forms.Name line st is = holds-lined line.number lines.Name line.title [] st refl is
holds-by s forms.Author line st is = holds-lined line.number lines.Author line.title [] st refl is

-- ---- blocks

holds-until : (f : WalkState → Result WalkState AsmFault) (st : WalkState) → IsCounted st → ((st : WalkState) → IsCounted st → Holds IsCounted (f st)) → Holds IsCounted (until_end f st)
holds-until f st is go = grind arith

holds-begun : (s : RawSettings) (line : SourceLine) (st : WalkState) → IsCounted st → Holds (λ (b : Begun). IsCounted b.state) (begun_of s line st)
holds-begun s line st is =
    bind (λ (found : Names × List ℕ). AreNames st.lines found.0) (λ (b : Begun). IsCounted b.state) (for_labels s line.number st.before (labels_of line) st.names)
    (λ found. copies_of s line.number st.before found.0.equs (drop 1 line.tokens) >>= λ n. Ok (begun_as (record st { names = found.0 }) found.1 n))
    (for-names st.lines s line.number st.before (labels_of line) st.names (here st is) is.labels)
    (λ found are. counts found are (copies_of s line.number st.before found.0.equs (drop 1 line.tokens)))
  where
    counts : (found : Names × List ℕ) → AreNames st.lines found.0 → (m : Result ℕ AsmFault) → Holds (λ (b : Begun). IsCounted b.state) (m >>= λ n. Ok (begun_as (record st { names = found.0 }) found.1 n))
    counts found are (Ok n) = record { before = is.before; lines = is.lines; labels = are }
    counts found are (Err fault) = tt

holds-copied : (line start : ℕ) (st : WalkState) → IsCounted st → Holds IsCounted (copied line start st)
holds-copied line start st is = grind arith

holds-copies : (body : ℕ → WalkState → Result WalkState AsmFault) → ((n : ℕ) (st : WalkState) → IsCounted st → Holds IsCounted (body n st)) → (line k n : ℕ) (st : WalkState) → IsCounted st
    → Holds IsCounted (copies body line k n st)
holds-copies body go line zero n st is = is
holds-copies body go line (suc k) n st is =
    holds-until (λ st. body n st >>= until_end (copied line st.counted) >>= copies body line k (n + 1)) st is (λ a counts.
    bind IsCounted IsCounted (body n a >>= until_end (copied line a.counted)) (copies body line k (n + 1))
    (bind IsCounted IsCounted (body n a) (until_end (copied line a.counted)) (go n a counts) (λ x now. holds-until (copied line a.counted) x now (λ y later. holds-copied line a.counted y later)))
    (λ x now. holds-copies body go line k (n + 1) x now))

holds-walk : (s : RawSettings) (cs : List Counter) (blocks : Blocks) (st : WalkState) → IsCounted st → Holds IsCounted (walk s cs blocks st)
holds-walk s cs finish st is = is
holds-walk s cs (one_line line rest) st is =
    bind IsCounted IsCounted (until_end (step s cs line) st) (walk s cs rest)
    (holds-until (step s cs line) st is (λ a counts. holds-by s (in_copies cs line).form (in_copies cs line) a counts)) (λ a counts. holds-walk s cs rest a counts)
holds-walk s cs (block for body rof rest) st is =
    let inner : List ℕ → ℕ → WalkState → Result WalkState AsmFault = λ name number. walk s (cs ++ counter_of name number ∷ []) body in
    let next : Begun → Result WalkState AsmFault = λ b. copies (inner b.counter) for.number b.copies 1 b.state in
    bind IsCounted IsCounted (until_end (λ st. begun s cs for st >>= next) st >>= until_end (closed s cs rof)) (walk s cs rest)
    (bind IsCounted IsCounted (until_end (λ st. begun s cs for st >>= next) st) (until_end (closed s cs rof))
    (holds-until (λ st. begun s cs for st >>= next) st is (λ a counts.
    bind (λ (b : Begun). IsCounted b.state) IsCounted (begun s cs for a) next (holds-begun s (in_copies cs for) a counts)
    (λ b now. holds-copies (inner b.counter) (λ n x later. holds-walk s (cs ++ counter_of b.counter n ∷ []) body x later) for.number b.copies 1 b.state now)))
    (λ a counts. holds-until (closed s cs rof) a counts (λ x now. holds-labelled s rof.number (labels_of (in_copies cs rof)) x now)))
    (λ a counts. holds-walk s cs rest a counts)
holds-walk s cs (open_for for) st is = holds-until (λ st. Err (fault_at for.number AsmKind.UnmatchedFor)) st is (λ a counts. tt)

pub holds-all : (s : RawSettings) (source : Parsed) → Holds IsCounted (walk_all s source walk_begin)
holds-all s source = grind (arith, holds-walk)

kept-of : (m : Result WalkState AsmFault) → Holds IsCounted m → IfOk m IsCounted
kept-of (Ok st) is = is
kept-of (Err fault) is = tt

pub labels-stand : (s : RawSettings) → LabelsStandBehindInstructions s
labels-stand s = record {
  begun = record { before = refl; lines = tt; labels = tt };
  kept = λ cs blocks st is. kept-of (walk s cs blocks st) (holds-walk s cs blocks st is);
  labels = λ line names st is. ap (λ before. all_defined s line before names st.names >>= λ found. Ok (record st { names = found })) is.before;
}

-- ---- the names of EQUs replaced

pub record AreReplaced (n : ℕ) (old new : List ExpandedLine) : Type 0 where
  pub from : AreFrom n new
  pub counts : (k : ℕ) → instructions (take k new) ≡ instructions (take k old)
  pub room : length new ≡ length old

line-of : (equs : EquList) (line : ExpandedLine) → Holds (λ new. (new.before ≡ line.before) × (new.kind ≡ line.kind)) (line_replaced equs line)
line-of equs line = grind arith

with-first : (n : ℕ) (line first : ExpandedLine) (old new : List ExpandedLine) → line.before ≡ n → first.before ≡ line.before → first.kind ≡ line.kind
    → AreReplaced (n + instruction_of line.kind) old new → AreReplaced n (line ∷ old) (first ∷ new)
with-first n line first old new h1 h2 h3 h4 = grind arith

lines-of : (n : ℕ) (equs : EquList) (lines : List ExpandedLine) → AreFrom n lines → Holds (AreReplaced n lines) (all_replaced equs lines)
lines-of n equs [] are = record { from = tt; counts = λ k. refl; room = refl }
lines-of n equs (line ∷ lines) are =
    bind (λ new. (new.before ≡ line.before) × (new.kind ≡ line.kind)) (AreReplaced n (line ∷ lines)) (line_replaced equs line)
    (λ first. all_replaced equs lines >>= λ behind. Ok (first ∷ behind)) (line-of equs line)
    (λ first of-it. bind (AreReplaced (n + instruction_of line.kind) lines) (AreReplaced n (line ∷ lines)) (all_replaced equs lines) (λ behind. Ok (first ∷ behind))
    (lines-of (n + instruction_of line.kind) equs lines are.1)
    (λ behind of-them. with-first n line first lines behind are.0 of-it.0 of-it.1 of-them))

-- ---- an expansion

place-among : (old new : List ExpandedLine) (labels : LabelList) (name : List ℕ) (address : ℕ) → AreReplaced 0 old new → AreLabels old labels → address_of labels name ≡ Some address
    → IsPlace new address
place-among old new [] name address same are is = cc
place-among old new (label ∷ labels) name address same are is =
    by (bytes_eq name label.0) is (λ found. place-among old new labels name address same are.1 found)
  where
    by : (b : Bool) → (if b then Some label.1 else address_of labels name) ≡ Some address → (address_of labels name ≡ Some address → IsPlace new address) → IsPlace new address
    by true found others =
        let it : address ≡ label.1 = cc in
        record { behind = are.0.behind; within = omega (arith, same.room, are.0.within); counts = it ∙ are.0.counts ∙ sym (same.counts are.0.behind) }
    by false found others = others found

counted-finished : (st : WalkState) → IsCounted st → Holds AreCounted (finished st)
counted-finished st h1 = grind (arith, lines-of, from-at, place-among)

pub expansion-counted : (s : RawSettings) (source : List ℕ) → Holds AreCounted (expansion s source)
unfolding expansion
expansion-counted s source =
    either AreCounted (nat_lt 65536 (length source)) (Err (fault_at 0 AsmKind.SourceTooLong)) (walk_all s (parsed (source_lines (live_lines source))) walk_begin >>= finished) tt
    (bind IsCounted AreCounted (walk_all s (parsed (source_lines (live_lines source))) walk_begin) finished (holds-all s (parsed (source_lines (live_lines source)))) (λ st is. counted-finished st is))
