-- A walk whose lines and EQUs are cut goes on in the same way: each step gives the same when it is cut again.
use Rattle.std.proofs.Common.{◌≡◌, ℕ, zero, suc, ◌+◌, ◌≤◌, Bool, true, false, nat_lt, nat_eq, if◌then◌else◌, List, [], ◌∷◌, ◌++◌, length, take, drop, Option, Some, None, Result, Ok, Err, refl, sym, ap, ◌∙◌, arith, inl, inr}
use Rattle.std.proofs.{Common.{append-nil, length-append}, lemmas.Bool.{cases_Bool, ltb-true, ltb-false}, lemmas.List.{map-append, take_all, drop_all, take_at, drop_at, take-take, take-map, drop-map, length-take-le}}
use Rattle.{war_types.specs.declared.fault.AsmKind.AsmKind, redcode_lines.specs.Line.is_bad}
use Rattle.{redcode_names.specs.{Gives.{◌>>=◌, fault_at}, Cut.{cut_equs, cut_names}}, redcode_names.proofs.{Cut.{cut-twice, replaced-cut, all-cut, last-cut, line-cut}}}
use Rattle.redcode_text.specs.{declared.token.Token.Token, Tokens.{piece_of, pieces}}
use Rattle.redcode_names.specs.Cut as names
use Rattle.redcode_expand.specs.Walk.{ExpandedLine, WalkState, Begun, begun_as, begun_of, begun, closed, copied, copies, counted, equated, labelled, lined, placed, placed_by, step, step_by, until_end, unmatched, walk_state}
use Rattle.redcode_expand.specs.Walk.{walk, with_line, with_word, worded, is_equ_word}
use Rattle.redcode_expand.specs.{Rest.{OpenBlock, counters_of, behind_copy, more_copies, rest_of}}
use Rattle.redcode_expand.specs.Cut.{first_bad, cut_tokens, cut_line, cut_lines, cut_walk, is_limited, kept_tokens, with_cut}
use Rattle.redcode_expand.proofs.Words.{AsmFault, RawSettings, Walked, Piece, SourceLine, labels_of, behind_labels, Counter, counter_of, in_copies, Names, all_defined, equ_line, LineKind, LineForm, Word, Blocks, Parsed, parsed, finish, one_line, block, open_for}
use Rattle.redcode_text.specs.declared.vocabulary.Word.TheVariants as words
use Rattle.redcode_lines.specs.declared.line.LineKind.TheVariants as lines
use Rattle.redcode_lines.specs.declared.reading.LineForm.TheVariants as forms

-- ---- what is cut once stays

bad-twice : (ts : List Piece) → first_bad (first_bad ts) ≡ first_bad ts
bad-twice [] = refl
bad-twice (t ∷ ts) = elim (cases_Bool (is_bad t)) [
  | inl bad ↦ rw (bad, bad) refl
  | inr good ↦ rw good (bad-twice ts)
]

tokens-short : (ts : List Piece) → length ts ≤ 516 → cut_tokens ts ≡ ts
unfolding cut_tokens
tokens-short ts short = rw (take_all 516 ts short, drop_all 516 ts short) (append-nil ts)

tokens-parts : (ts : List Token) → cut_tokens (pieces ts) ≡ pieces (take 516 ts) ++ first_bad (pieces (drop 516 ts))
unfolding cut_tokens
tokens-parts ts = rw (take-map piece_of 516 ts, drop-map piece_of 516 ts) refl

tokens-long : (ts : List Piece) → 516 ≤ length ts → 516 ≤ length (cut_tokens ts)
unfolding cut_tokens
tokens-long ts long = omega (arith, length-append (take 516 ts) (first_bad (drop 516 ts)), length-take-le 516 ts long)

pub tokens-twice : (ts : List Piece) → cut_tokens (cut_tokens ts) ≡ cut_tokens ts
unfolding cut_tokens
tokens-twice ts = elim (cases_Bool (nat_lt 516 (length ts))) [
  | inl long ↦
      let room = length-take-le 516 ts (omega (arith, ltb-true 516 (length ts) long)) in
      rw (take_at (take 516 ts) (first_bad (drop 516 ts)) 516 room, drop_at (take 516 ts) (first_bad (drop 516 ts)) 516 room, bad-twice (drop 516 ts)) refl
  | inr short ↦ ap cut_tokens (tokens-short ts (ltb-false 516 (length ts) short))
]

-- ---- what is kept of a line

pub kept-twice : (kind : LineKind) (ts : List Piece) → kept_tokens kind (kept_tokens kind ts) ≡ kept_tokens kind ts
unfolding kept_tokens
kept-twice kind ts = elim (cases_Bool (is_limited kind)) [
  | inl limited ↦ rw limited (take-take 516 516 ts (omega arith))
  | inr other ↦ rw other (tokens-twice ts)
]

pub kept-short : (kind : LineKind) (ts : List Piece) → length ts ≤ 516 → kept_tokens kind ts ≡ ts
unfolding kept_tokens
kept-short kind ts short = elim (cases_Bool (is_limited kind)) [
  | inl limited ↦ rw limited (take_all 516 ts short)
  | inr other ↦ rw other (tokens-short ts short)
]

pub kept-long : (kind : LineKind) (ts : List Piece) → 516 ≤ length ts → 516 ≤ length (kept_tokens kind ts)
unfolding kept_tokens
kept-long kind ts long = elim (cases_Bool (is_limited kind)) [
  | inl limited ↦ rw limited (omega (arith, length-take-le 516 ts long))
  | inr other ↦ rw other (tokens-long ts long)
]

pub kept-parts : (kind : LineKind) (ts : List Token) → kept_tokens kind (pieces ts) ≡ pieces (take 516 ts) ++ (if is_limited kind then [] else first_bad (pieces (drop 516 ts)))
unfolding kept_tokens
kept-parts kind ts = elim (cases_Bool (is_limited kind)) [
  | inl limited ↦ rw limited (take-map piece_of 516 ts ∙ sym (append-nil (pieces (take 516 ts))))
  | inr other ↦ rw other (tokens-parts ts)
]

lines-twice : (ls : List ExpandedLine) → cut_lines (cut_lines ls) ≡ cut_lines ls
lines-twice [] = refl
lines-twice (l ∷ ls) = rw (kept-twice l.kind l.tokens, lines-twice ls) refl

walk-twice : (st : WalkState) → cut_walk (cut_walk st) ≡ cut_walk st
walk-twice st = rw (cut-twice st.names.equs, lines-twice st.lines) refl

found-twice : (m : Walked) → with_cut (with_cut m) ≡ with_cut m
found-twice (Ok st) = ap (λ (st : WalkState). Ok st) (walk-twice st)
found-twice (Err fault) = refl

-- ---- steps one after another

abbrev pub Stable : (WalkState → Walked) → Type 0
Stable f = (st : WalkState) → with_cut (f (cut_walk st)) ≡ with_cut (f st)

through : (m : Walked) (g : WalkState → Walked) → Stable g → with_cut (m >>= g) ≡ with_cut (with_cut m >>= g)
through (Ok st) g stable = sym (stable st)
through (Err fault) g stable = refl

pub bound : (m m' : Walked) (g : WalkState → Walked) → with_cut m ≡ with_cut m' → Stable g → with_cut (m >>= g) ≡ with_cut (m' >>= g)
bound m m' g same stable = through m g stable ∙ ap (λ (r : Walked). with_cut (r >>= g)) same ∙ sym (through m' g stable)

-- a step that gives the cut state of a cut one
exact : (f : WalkState → Walked) → ((st : WalkState) → f (cut_walk st) ≡ with_cut (f st)) → Stable f
exact f is st = ap with_cut (is st) ∙ found-twice (f st)

nothing : Stable (λ st. Ok st)
nothing st = ap (λ (st : WalkState). Ok st) (walk-twice st)

if-same : (b : Bool) (x y x' y' : Walked) → with_cut x ≡ with_cut x' → with_cut y ≡ with_cut y' → with_cut (if b then x else y) ≡ with_cut (if b then x' else y')
if-same true x y x' y' h1 h2 = h1
if-same false x y x' y' h1 h2 = h2

until : (f : WalkState → Walked) → Stable f → Stable (until_end f)
until f stable st = if-same st.ended (Ok (cut_walk st)) (f (cut_walk st)) (Ok st) (f st) (nothing st) (stable st)

-- ---- lines

counted-cut : (line : ℕ) → Stable (counted line)
counted-cut line st = if-same (nat_lt st.counted 4096) _ _ _ _ (nothing (record st { counted = st.counted + 1 })) refl

labelled-by : (st : WalkState) (m : Result Names AsmFault) → (names.with_cut m >>= λ names. Ok (record (cut_walk st) { names = names })) ≡ with_cut (m >>= λ names. Ok (record st { names = names }))
labelled-by st (Ok names) = refl
labelled-by st (Err fault) = refl

labelled-cut : (s : RawSettings) (line : ℕ) (labels : List (List ℕ)) → Stable (labelled s line labels)
labelled-cut s line labels = exact (labelled s line labels) (λ st.
    ap (λ (m : Result Names AsmFault). m >>= λ names. Ok (record (cut_walk st) { names = names })) (all-cut s line st.before labels st.names)
    ∙ labelled-by st (all_defined s line st.before labels st.names))

equated-cut : (s : RawSettings) (line : ℕ) (labels : List (List ℕ)) (body : List Piece) → Stable (equated s line labels body)
equated-cut s line labels body st =
    let put : WalkState → Result Names AsmFault → Walked = λ st m. m >>= λ names. Ok (record st { names = names }) in
    let old : Result Names AsmFault = equ_line s line st.before body labels st.names in
    let new : Result Names AsmFault = equ_line s line st.before body labels (cut_names st.names) in
    sym (labelled-by (cut_walk st) new) ∙ ap (λ (m : Result Names AsmFault). put (cut_walk (cut_walk st)) m) (line-cut s line st.before body labels st.names)
    ∙ ap (λ (st : WalkState). put st (names.with_cut old)) (walk-twice st) ∙ labelled-by st old

line-put : (line : ℕ) (kind : LineKind) (word : Option Word) (title : List ℕ) (ts : List Piece) (st : WalkState)
    → cut_walk (with_line line kind word title ts (cut_walk st)) ≡ cut_walk (with_line line kind word title ts st)
line-put line kind word title ts st =
    let new : ExpandedLine = record { source_line = line; kind = kind; word = word; before = st.before; title = title; tokens = ts } in
    rw (cut-twice st.names.equs, map-append cut_line (cut_lines st.lines) (new ∷ []), map-append cut_line st.lines (new ∷ []), lines-twice st.lines) refl

-- a line was put after the others, with its tokens cut
line-pushed : (ls : List ExpandedLine) (line : ExpandedLine) → cut_lines (ls ++ cut_line line ∷ []) ≡ cut_lines (ls ++ line ∷ [])
line-pushed ls line = rw (map-append cut_line ls (cut_line line ∷ []), map-append cut_line ls (line ∷ []), kept-twice line.kind line.tokens) refl

abbrev new_line : ℕ → LineKind → Option Word → ℕ → List ℕ → List Piece → ExpandedLine
new_line line kind word before title tokens = record { source_line = line; kind = kind; word = word; before = before; title = title; tokens = tokens }

abbrev walked : ℕ → ℕ → Names → List ExpandedLine → Bool → Walked
walked counted before ns ls ended = Ok (cut_walk (walk_state counted before ns ls ended))

pub line-kept : (line : ℕ) (kind : LineKind) (word : Option Word) (title : List ℕ) (ts kept : List Piece) (counted before : ℕ) (ns : Names) (ls new : List ExpandedLine) (ended : Bool) (st : WalkState)
    → walk_state counted before ns ls ended ≡ st → kept ≡ kept_tokens kind ts → new ≡ ls ++ new_line line kind word before title kept ∷ []
    → with_cut (Ok (with_line line kind word title ts st)) ≡ walked counted before ns new ended
line-kept line kind word title ts kept counted before ns ls new ended st is kept-is new-is =
    ap (λ (w : WalkState). with_cut (Ok (with_line line kind word title ts w))) (sym is)
    ∙ ap (λ (all : List ExpandedLine). with_cut (Ok (walk_state counted before ns [] ended)) >>= λ w. Ok (record w { lines = all })) (sym (line-pushed ls (new_line line kind word before title ts)))
    ∙ ap (λ (us : List Piece). walked counted before ns (ls ++ new_line line kind word before title us ∷ []) ended) (sym kept-is)
    ∙ ap (λ (all : List ExpandedLine). walked counted before ns all ended) (sym new-is)

word-put : (line : ℕ) (word : Word) (ts : List Piece) (st : WalkState) → cut_walk (with_word line word ts (cut_walk st)) ≡ cut_walk (with_word line word ts st)
word-put line (words.Operation op) ts st = ap (λ (w : WalkState). record w { before = st.before + 1 }) (line-put line lines.Operation (Some (words.Operation op)) [] ts st)
word-put line words.Pspace ts st = ap (λ (w : WalkState). record w { before = st.before + 1 }) (line-put line lines.Operation (Some words.Pspace) [] ts st)
word-put line words.Org ts st = line-put line lines.Org (Some words.Org) [] ts st
word-put line words.End ts st = ap (λ (w : WalkState). record w { ended = true }) (line-put line lines.End (Some words.End) [] ts st)
word-put line words.Pin ts st = line-put line lines.Other (Some words.Pin) [] ts st
word-put line _ ts st = walk-twice st

placed-put : (line : ℕ) (word : Option Word) (ts : List Piece) (st : WalkState) → cut_walk (placed_by line word ts (cut_walk st)) ≡ cut_walk (placed_by line word ts st)
placed-put line None [] st = walk-twice st
placed-put line None (t ∷ ts) st = line-put line lines.Other None [] (t ∷ ts) st
placed-put line (Some word) ts st = word-put line word ts st

worded-cut : (s : RawSettings) (line : SourceLine) → Stable (worded s line)
worded-cut s line st =
    let labels : List (List ℕ) = labels_of line in
    if-same (is_equ_word line.word) _ _ _ _ (equated-cut s line.number labels (drop 1 line.tokens) st)
    (bound (labelled s line.number labels (cut_walk st)) (labelled s line.number labels st) (λ st. Ok (placed line st)) (labelled-cut s line.number labels st)
    (λ now. ap (λ (w : WalkState). Ok w) (placed-put line.number line.word (behind_labels line) now)))

lined-cut : (s : RawSettings) (line : ℕ) (kind : LineKind) (title : List ℕ) (ts : List Piece) → Stable (lined line kind title ts)
lined-cut s line kind title ts st =
    bound (counted line (cut_walk st)) (counted line st) (λ st. Ok (with_line line kind None title ts st)) (counted-cut line st)
    (λ now. ap (λ (w : WalkState). Ok w) (line-put line kind None title ts now))

by-form : (s : RawSettings) (form : LineForm) (line : SourceLine) → Stable (step_by s form line)
by-form s forms.Statement line st = bound (counted line.number (cut_walk st)) (counted line.number st) (worded s line) (counted-cut line.number st) (worded-cut s line)
by-form s forms.Assert line st = lined-cut s line.number lines.Assert [] line.tokens st
by-form s forms.Name line st = lined-cut s line.number lines.Name line.title [] st
by-form s forms.Author line st = lined-cut s line.number lines.Author line.title [] st

pub step-cut : (s : RawSettings) (cs : List Counter) (line : SourceLine) → Stable (step s cs line)
step-cut s cs line = by-form s (in_copies cs line).form (in_copies cs line)

-- ---- blocks

pub closed-cut : (s : RawSettings) (cs : List Counter) (rof : SourceLine) → Stable (closed s cs rof)
closed-cut s cs rof = labelled-cut s rof.number (labels_of (in_copies cs rof))

pub copied-cut : (line start : ℕ) → Stable (copied line start)
copied-cut line start st = if-same (nat_eq st.counted start) _ _ _ _ (counted-cut line st) (nothing st)

copies-cut : (body : ℕ → WalkState → Walked) → ((n : ℕ) → Stable (body n)) → (line k n : ℕ) → Stable (copies body line k n)
copies-cut body stable line zero n st = nothing st
copies-cut body stable line (suc k) n st =
    if-same st.ended _ _ _ _ (nothing st)
    (bound (body n (cut_walk st) >>= until_end (copied line st.counted)) (body n st >>= until_end (copied line st.counted)) (copies body line k (n + 1))
    (bound (body n (cut_walk st)) (body n st) (until_end (copied line st.counted)) (stable n st) (until (copied line st.counted) (copied-cut line st.counted)))
    (copies-cut body stable line k (n + 1)))

-- a block that begins with cut EQUs
pub begun-cut : (s : RawSettings) (line : SourceLine) (st : WalkState) → begun_of s line (cut_walk st) ≡ begun_of s line st >>= λ b. Ok (begun_as (cut_walk b.state) b.counter b.copies)
begun-cut s line st = grind (arith, last-cut, replaced-cut)

begun-then : (m : Result Begun AsmFault) (next : Begun → Walked) → ((st : WalkState) (name : List ℕ) (n : ℕ) → with_cut (next (begun_as (cut_walk st) name n)) ≡ with_cut (next (begun_as st name n)))
    → with_cut (m >>= (λ b. Ok (begun_as (cut_walk b.state) b.counter b.copies)) >>= next) ≡ with_cut (m >>= next)
begun-then (Ok b) next stable = stable b.state b.counter b.copies
begun-then (Err fault) next stable = refl

walk-cut : (s : RawSettings) (cs : List Counter) (blocks : Blocks) → Stable (walk s cs blocks)
walk-cut s cs finish st = nothing st
walk-cut s cs (one_line line rest) st = bound (until_end (step s cs line) (cut_walk st)) (until_end (step s cs line) st) (walk s cs rest) (until (step s cs line) (step-cut s cs line) st) (walk-cut s cs rest)
walk-cut s cs (block for body rof rest) st =
    let inner : List ℕ → ℕ → WalkState → Walked = λ name number. walk s (cs ++ counter_of name number ∷ []) body in
    let next : Begun → Walked = λ b. copies (inner b.counter) for.number b.copies 1 b.state in
    let begins : WalkState → Walked = λ st. begun s cs for st >>= next in
    let stable : Stable begins = λ st.
    ap (λ (m : Result Begun AsmFault). with_cut (m >>= next)) (begun-cut s (in_copies cs for) st)
    ∙ begun-then (begun_of s (in_copies cs for) st) next (λ now name n. copies-cut (inner name) (λ k. walk-cut s (cs ++ counter_of name k ∷ []) body) for.number n 1 now) in
    bound (until_end begins (cut_walk st) >>= until_end (closed s cs rof)) (until_end begins st >>= until_end (closed s cs rof)) (walk s cs rest)
    (bound (until_end begins (cut_walk st)) (until_end begins st) (until_end (closed s cs rof)) (until begins stable st) (until (closed s cs rof) (closed-cut s cs rof)))
    (walk-cut s cs rest)
walk-cut s cs (open_for for) st = until (λ st. Err (fault_at for.number AsmKind.UnmatchedFor)) (λ now. refl) st

unmatched-cut : (rofs : List (SourceLine × Blocks)) → Stable (unmatched rofs)
unmatched-cut [] = nothing
unmatched-cut (rof ∷ rofs) = λ st. refl

behind-cut : (s : RawSettings) (ls : List SourceLine) (bs : List OpenBlock) (rofs : List (SourceLine × Blocks)) → Stable (behind_copy s ls bs rofs)
behind-cut s ls [] rofs st = until (unmatched rofs) (unmatched-cut rofs) st
behind-cut s ls (b ∷ bs) [] st = nothing st
behind-cut s ls (b ∷ bs) (rof ∷ rofs) st =
    let ends : WalkState → Walked = until_end (copied b.number b.start) in
    let more : WalkState → Walked = more_copies s ls bs b in
    let closes : WalkState → Walked = until_end (closed s (counters_of bs) rof.0) in
    let rest : WalkState → Walked = walk s (counters_of bs) rof.1 in
    let behind : WalkState → Walked = behind_copy s ls bs rofs in
    bound (ends (cut_walk st) >>= more >>= closes >>= rest) (ends st >>= more >>= closes >>= rest) behind
    (bound (ends (cut_walk st) >>= more >>= closes) (ends st >>= more >>= closes) rest
    (bound (ends (cut_walk st) >>= more) (ends st >>= more) closes
    (bound (ends (cut_walk st)) (ends st) more (until (copied b.number b.start) (copied-cut b.number b.start) st)
    (copies-cut _ (λ k. walk-cut s (counters_of bs ++ counter_of b.counter.name k ∷ []) (parsed (drop b.body ls)).0) b.number b.left (b.counter.number + 1)))
    (until (closed s (counters_of bs) rof.0) (closed-cut s (counters_of bs) rof.0)))
    (walk-cut s (counters_of bs) rof.1))
    (behind-cut s ls bs rofs)

pub rest-cut : (s : RawSettings) (ls : List SourceLine) (bs : List OpenBlock) (left : Parsed) → Stable (rest_of s ls bs left)
rest-cut s ls bs left st = bound (walk s (counters_of bs) left.0 (cut_walk st)) (walk s (counters_of bs) left.0 st) (behind_copy s ls bs left.1) (walk-cut s (counters_of bs) left.0 st) (behind-cut s ls bs left.1)

-- what is left after a line, if the state that was found is cut as the one that was due
pub rest-after : (s : RawSettings) (ls : List SourceLine) (bs : List OpenBlock) (left : Parsed) (m : Walked) (new : WalkState) → with_cut m ≡ Ok (cut_walk new)
    → with_cut (rest_of s ls bs left new) ≡ with_cut (m >>= rest_of s ls bs left)
rest-after s ls bs left m new is =
    sym (rest-cut s ls bs left new) ∙ ap (λ (r : Walked). with_cut (r >>= rest_of s ls bs left)) (sym is) ∙ sym (through m (rest_of s ls bs left) (rest-cut s ls bs left))
