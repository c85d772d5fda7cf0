-- The walk over a source without FOR and EQU: no block is open, and no EQU is added.
use Rattle.std.proofs.Common.{◌≡◌, ℕ, zero, suc, ◌+◌, ◌≤◌, ◌<◌, true, false, List, [], ◌∷◌, drop, take, length, Option, Some, None, Ok, Err, refl, sym, ap, ◌∙◌, subst, arith}
use Rattle.std.proofs.{Common.{inl, inr}, lemmas.Bool.{and_parts, cases_Bool, true≢false}}
use Rattle.{redcode_names.specs.{Gives.◌>>=◌, Cut.cut_equs}, redcode_expand.specs.{Cut.{cut_walk, with_cut}, Marks.{edge_of, is_long, line_in, shortened}}}
use Rattle.redcode_expand.specs.Steps.{are_plain, is_plain_word, read_steps, reads, rof_steps, steps_at, token_steps, visit_steps}
use Rattle.redcode_expand.specs.Walk.{WalkState, counted, labelled, placed, placed_by, step_as, step_by, unmatched, until_end, walk, walk_all, walk_begin, with_word, worded, is_equ_word}
use Rattle.redcode_expand.proofs.{Words.{RawSettings, Walked, Piece, SourceLine, Blocks, parsed, behind_by, labels_of, behind_labels, EquList, Word, LineForm}, Marks.line-drop, Counted.{Holds, bind}, AddedEqus.labelled-equs}
use Rattle.{redcode_expand.specs.declared.marked_lines.Edge.Edge, std.proofs.Common.{◌≢◌}}
use Rattle.redcode_text.specs.declared.vocabulary.Word.TheVariants as words
use Rattle.redcode_lines.specs.declared.reading.LineForm.TheVariants as forms

-- ---- its steps

pub plain-at : (ls : List SourceLine) (at : ℕ) → are_plain ls ≡ true → at < length ls → is_plain_word (line_in ls at).word ≡ true
plain-at [] at plain some = absurd (omega arith)
plain-at (l ∷ ls) zero plain some = (and_parts (is_plain_word l.word) (are_plain ls) plain).0
plain-at (l ∷ ls) (suc at) plain some = plain-at ls at (and_parts (is_plain_word l.word) (are_plain ls) plain).1 (omega (arith, some))

no-rof : (visit : SourceLine → ℕ) (word : Option Word) (rofs : List (SourceLine × Blocks)) → is_plain_word word ≡ true → rof_steps visit (edge_of word) rofs ≡ 0
no-rof visit (Some words.For) rofs plain = absurd cc
no-rof visit (Some words.Rof) rofs plain = refl
no-rof visit _ rofs plain = refl

taken-few : (n : ℕ) (ts : List Piece) → token_steps (take n ts) ≤ token_steps ts
taken-few zero ts = omega arith
taken-few (suc n) [] = omega arith
taken-few (suc n) (t ∷ ts) = omega (arith, taken-few n ts)

shortened-few : (line : SourceLine) → read_steps (shortened line) ≤ read_steps line
shortened-few line = elim (cases_Bool (is_long line)) [
  | inl long ↦ rw long (omega (arith, taken-few 516 line.tokens))
  | inr other ↦ rw other (omega arith)
]

-- a line is read once
pub read-plain : (ls : List SourceLine) (at blocks steps : ℕ) → are_plain ls ≡ true → at < length ls → blocks ≡ 0 → steps ≤ steps_at (visit_steps blocks) ls at
    → steps + reads (drop (at + 1) ls) ≤ reads (drop at ls)
read-plain ls at blocks steps plain some none few =
    let all = ap reads (line-drop ls at some) in
    let one : steps ≤ steps_at read_steps ls at = subst (λ (n : ℕ). steps ≤ steps_at (visit_steps n) ls at) none few in
    omega (arith, all, one, no-rof read_steps (line_in ls at).word (parsed (drop (at + 1) ls)).1 (plain-at ls at plain some), shortened-few (line_in ls at))

-- what is spent on a line
pub spent-plain : (ls : List SourceLine) (at blocks read old before now last : ℕ) → are_plain ls ≡ true → at < length ls → blocks ≡ 0 → read ≤ steps_at (visit_steps blocks) ls at
    → old + reads (drop at ls) ≤ before + reads ls → before ≤ now + read → now ≤ last → old + reads (drop (at + 1) ls) ≤ last + reads ls
spent-plain ls at blocks read old before now last plain some none few was spent more = omega (arith, read-plain ls at blocks read plain some none few, was, spent, more)

-- or on one that is refused
pub spent-most : (ls : List SourceLine) (at blocks read old before now last : ℕ) → are_plain ls ≡ true → at < length ls → blocks ≡ 0 → read ≤ steps_at (visit_steps blocks) ls at
    → old + reads (drop at ls) ≤ before + reads ls → before ≤ now + read → now ≤ last → old ≤ last + reads ls
spent-most ls at blocks read old before now last plain some none few was spent more =
    omega (arith, spent-plain ls at blocks read old before now last plain some none few was spent more)

pub plain-edge : (word : Option Word) → is_plain_word word ≡ true → edge_of word ≢ Edge.For
plain-edge (Some words.For) plain is = true≢false (sym plain)
plain-edge (Some words.Rof) plain is = absurd cc
plain-edge _ plain is = absurd cc

-- ---- its EQUs

abbrev NoEqus : WalkState → Type 0
NoEqus st = st.names.equs ≡ []

put-same : (line : ℕ) (word : Word) (ts : List Piece) (st : WalkState) → (with_word line word ts st).names.equs ≡ st.names.equs
put-same line (words.Operation op) ts st = refl
put-same line words.Pspace ts st = refl
put-same line words.Org ts st = refl
put-same line words.End ts st = refl
put-same line words.Pin ts st = refl
put-same line _ ts st = refl

placed-same : (line : ℕ) (word : Option Word) (ts : List Piece) (st : WalkState) → (placed_by line word ts st).names.equs ≡ st.names.equs
placed-same line None [] st = refl
placed-same line None (t ∷ ts) st = refl
placed-same line (Some word) ts st = put-same line word ts st

counted-none : (line : ℕ) (st : WalkState) → NoEqus st → Holds NoEqus (counted line st)
counted-none line st none = grind arith

labelled-none : (s : RawSettings) (line : SourceLine) (st : WalkState) → NoEqus st → Holds NoEqus (labelled s line.number (labels_of line) st)
labelled-none s line st none = hold (labelled s line.number (labels_of line) st) (labelled-equs s line.number (labels_of line) st)
  where
    hold : (m : Walked) → Holds (λ (new : WalkState). (new.names.equs ≡ st.names.equs) × (new.before ≡ st.before)) m → Holds NoEqus m
    hold (Ok new) same = same.0 ∙ none
    hold (Err fault) same = tt

not-equ : (word : Option Word) → is_plain_word word ≡ true → is_equ_word word ≡ false
not-equ (Some words.Equ) plain = absurd cc
not-equ _ plain = refl

worded-none : (s : RawSettings) (line : SourceLine) (st : WalkState) → is_plain_word line.word ≡ true → NoEqus st → Holds NoEqus (worded s line st)
worded-none s line st plain none =
    rw (not-equ line.word plain)
    (bind NoEqus NoEqus (labelled s line.number (labels_of line) st) (λ st. Ok (placed line st)) (labelled-none s line st none)
    (λ now is. placed-same line.number line.word (behind_labels line) now ∙ is))

step-none : (s : RawSettings) (form : LineForm) (line : SourceLine) (st : WalkState) → is_plain_word line.word ≡ true → NoEqus st → Holds NoEqus (step_by s form line st)
step-none s forms.Statement line st plain none =
    bind NoEqus NoEqus (counted line.number st) (worded s line) (counted-none line.number st none) (λ now is. worded-none s line now plain is)
step-none s forms.Assert line st plain none = bind NoEqus NoEqus (counted line.number st) _ (counted-none line.number st none) (λ now is. is)
step-none s forms.Name line st plain none = bind NoEqus NoEqus (counted line.number st) _ (counted-none line.number st none) (λ now is. is)
step-none s forms.Author line st plain none = bind NoEqus NoEqus (counted line.number st) _ (counted-none line.number st none) (λ now is. is)

until-none : (f : WalkState → Walked) (st : WalkState) → NoEqus st → Holds NoEqus (f st) → Holds NoEqus (until_end f st)
until-none f st none holds = grind arith

-- a line, and those after it
walk-on : (s : RawSettings) (l : SourceLine) (ls : List SourceLine) (st : WalkState) → is_plain_word l.word ≡ true → NoEqus st
    → ((now : WalkState) → NoEqus now → Holds NoEqus (walk s [] (parsed ls).0 now)) → Holds NoEqus (walk s [] (parsed (l ∷ ls)).0 st)
walk-on s l ls st plain none rest = by-word l.word refl
  where
    on : Holds NoEqus (until_end (step_as s l) st >>= walk s [] (parsed ls).0)
    on = bind NoEqus NoEqus (until_end (step_as s l) st) (walk s [] (parsed ls).0) (until-none (step_as s l) st none (step-none s l.form l st plain none)) rest

    by-word : (word : Option Word) → word ≡ l.word → Holds NoEqus (walk s [] (behind_by word l (parsed ls)).0 st)
    by-word (Some words.For) is = absurd (true≢false (sym plain ∙ ap is_plain_word (sym is)))
    by-word (Some words.Rof) is = none
    by-word _ is = on

walk-none : (s : RawSettings) (ls : List SourceLine) (st : WalkState) → are_plain ls ≡ true → NoEqus st → Holds NoEqus (walk s [] (parsed ls).0 st)
walk-none s [] st plain none = none
walk-none s (l ∷ ls) st plain none =
    let parts = and_parts (is_plain_word l.word) (are_plain ls) plain in
    walk-on s l ls st parts.0 none (λ now is. walk-none s ls now parts.1 is)

unmatched-none : (rofs : List (SourceLine × Blocks)) (st : WalkState) → NoEqus st → Holds NoEqus (unmatched rofs st)
unmatched-none [] st none = none
unmatched-none (rof ∷ rofs) st none = tt

abbrev equs_in : Walked → EquList
equs_in (Ok st) = st.names.equs
equs_in (Err fault) = []

-- a walk that was found, cut, has none
pub plain-equs : (s : RawSettings) (ls : List SourceLine) (now : WalkState) → are_plain ls ≡ true → with_cut (walk_all s (parsed ls) walk_begin) ≡ Ok (cut_walk now) → now.names.equs ≡ []
plain-equs s ls now plain is =
    found (walk_all s (parsed ls) walk_begin)
    (bind NoEqus NoEqus (walk s [] (parsed ls).0 walk_begin) (until_end (unmatched (parsed ls).1)) (walk-none s ls walk_begin plain refl)
    (λ st none. until-none (unmatched (parsed ls).1) st none (unmatched-none (parsed ls).1 st none))) is
  where
    none-cut : (equs : EquList) → cut_equs equs ≡ [] → equs ≡ []
    none-cut [] h = refl
    none-cut (e ∷ equs) h = absurd cc

    found : (m : Walked) → Holds NoEqus m → with_cut m ≡ Ok (cut_walk now) → now.names.equs ≡ []
    found (Ok st) none is = none-cut now.names.equs (sym (ap equs_in is) ∙ ap cut_equs none)
    found (Err fault) none is = absurd cc
