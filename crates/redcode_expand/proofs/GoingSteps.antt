-- The steps of what is left as the walk goes on: a line, a FOR, the end of a copy.
use Rattle.std.proofs.Common.{◌≡◌, ℕ, zero, suc, ◌+◌, ◌-◌, ◌/◌, ◌≤◌, ◌<◌, ◌≢◌, false, if◌then◌else◌, List, [], ◌∷◌, ◌++◌, length, drop, Option, Some, Result, Ok, refl, sym, ap, ◌∙◌, subst, arith, length-append}
use Rattle.redcode_expand.specs.{declared.marked_lines.Edge.Edge, Cut.{cut_walk, with_cut}, Marks.{edge_of, is_bare, line_in, shortened, IsNextRof}, Steps.{rof_steps, steps_at, visit_steps}}
use Rattle.redcode_expand.specs.{Walk.{WalkState, Begun, begun, begun_as, closed, copied, step}, Rest.{OpenBlock, open_block, counters_of, AreOpen}, Left.{behind_steps, more_steps, rest_steps}}
use Rattle.redcode_expand.specs.Taken.{copies_steps, count_steps, end_steps, then_steps, visited, visited_for, walk_steps}
use Rattle.redcode_expand.proofs.Words.{AsmFault, RawSettings, Walked, SourceLine, Blocks, Parsed, parsed, with_body, behind_by, finish, one_line, Counter, counter_of, Word}
use Rattle.redcode_expand.proofs.{Marks.{ends-with, for-here, line-drop, rof-here, word-for, word-rof}, VisitSteps.its-end, Taken.{even-rest, same-then}}
use Rattle.redcode_text.specs.declared.vocabulary.Word.TheVariants as words

-- ---- the blocks that are open

counters-open : (bs : List OpenBlock) → length (counters_of bs) ≡ length bs
counters-open [] = refl
counters-open (b ∷ bs) = omega (arith, counters-open bs, length-append (counters_of bs) (b.counter ∷ []))

-- a line within them
visited-open : (bs : List OpenBlock) (line : SourceLine) → visited (length (counters_of bs)) line ≡ visited (length bs) line
visited-open bs line = ap (λ (n : ℕ). visited n line) (counters-open bs)

-- ---- a line

neither-behind : (word : Option Word) (line : SourceLine) (left : Parsed) → edge_of word ≡ Edge.Neither → behind_by word line left ≡ (one_line line left.0, left.1)
neither-behind (Some words.For) line left is = absurd cc
neither-behind (Some words.Rof) line left is = absurd cc
neither-behind _ line left is = refl

at-line : (s : RawSettings) (ls : List SourceLine) (bs : List OpenBlock) (at : ℕ) (st : WalkState) → at < length ls → st.ended ≡ false → edge_of (line_in ls at).word ≡ Edge.Neither
    → rest_steps s ls bs (parsed (drop at ls)) st
    ≡ visited (length (counters_of bs)) (line_in ls at) + then_steps (step s (counters_of bs) (line_in ls at) st) (rest_steps s ls bs (parsed (drop (at + 1) ls)))
at-line s ls bs at st some on neither =
    ap (λ (left : Parsed). rest_steps s ls bs left st) (ap parsed (line-drop ls at some) ∙ neither-behind (line_in ls at).word (line_in ls at) (parsed (drop (at + 1) ls)) neither)
    ∙ rw on refl

steps-line : (visit : SourceLine → ℕ) (ls : List SourceLine) (at : ℕ) → edge_of (line_in ls at).word ≡ Edge.Neither → steps_at visit ls at ≡ visit (shortened (line_in ls at))
steps-line visit ls at neither = omega (arith, ap (λ (e : Edge). rof_steps visit e (parsed (drop (at + 1) ls)).1) neither)

pub line-taken : (s : RawSettings) (ls : List SourceLine) (bs : List OpenBlock) (at : ℕ) (st new : WalkState) → at < length ls → st.ended ≡ false → edge_of (line_in ls at).word ≡ Edge.Neither
    → with_cut (step s (counters_of bs) (line_in ls at) st) ≡ Ok (cut_walk new)
    → steps_at (visit_steps (length bs)) ls at + rest_steps s ls bs (parsed (drop (at + 1) ls)) new ≡ rest_steps s ls bs (parsed (drop at ls)) st
line-taken s ls bs at st new some on neither is =
    let rest : WalkState → ℕ = rest_steps s ls bs (parsed (drop (at + 1) ls)) in
    omega (
      arith,
      at-line s ls bs at st some on neither,
      steps-line (visit_steps (length bs)) ls at neither,
      visited-open bs (line_in ls at),
      same-then (step s (counters_of bs) (line_in ls at) st) (Ok new) rest is (even-rest s ls bs (parsed (drop (at + 1) ls))),
    )

-- ---- a FOR

steps-for : (visit : SourceLine → ℕ) (ls : List SourceLine) (at rof : ℕ) → (line_in ls at).word ≡ Some words.For → IsNextRof ls (at + 1) rof → rof < length ls
    → steps_at visit ls at ≡ visit (shortened (line_in ls at)) + (if is_bare (line_in ls rof) then 0 else visit (line_in ls rof))
steps-for visit ls at rof word own there =
    omega (arith, ap (λ (w : Option Word). rof_steps visit (edge_of w) (parsed (drop (at + 1) ls)).1) word, its-end visit ls at rof own there)

-- what comes after a count
abbrev begun_steps : RawSettings → List SourceLine → List OpenBlock → ℕ → ℕ → Begun → ℕ
begun_steps s ls bs at rof b =
    copies_steps (λ number. walk_steps s (counters_of bs ++ counter_of b.counter number ∷ []) (parsed (drop (at + 1) ls)).0) (line_in ls at).number
    (end_steps (counters_of bs) b.counter (line_in ls rof)) b.copies 1
    (λ now. then_steps (closed s (counters_of bs) (line_in ls rof) now) (rest_steps s ls bs (parsed (drop (rof + 1) ls)))) b.state

at-for : (s : RawSettings) (ls : List SourceLine) (bs : List OpenBlock) (at rof : ℕ) (st : WalkState) → at < length ls → st.ended ≡ false → (line_in ls at).word ≡ Some words.For
    → IsNextRof ls (at + 1) rof → rof < length ls
    → rest_steps s ls bs (parsed (drop at ls)) st
    ≡ visited_for (length (counters_of bs)) (line_in ls at) (line_in ls rof)
    + (count_steps (counters_of bs) (line_in ls at) st + then_steps (begun s (counters_of bs) (line_in ls at) st) (begun_steps s ls bs at rof))
at-for s ls bs at rof st some on word own there =
    ap (λ (left : Parsed). rest_steps s ls bs left st)
    (for-here ls at some word ∙ ap (λ (rofs : List (SourceLine × Blocks)). with_body (line_in ls at) (parsed (drop (at + 1) ls)).0 rofs) (ends-with ls at rof own there))
    ∙ rw on refl

-- the steps of the visit, of the count and of what comes after it
for-taken : (s : RawSettings) (ls : List SourceLine) (bs : List OpenBlock) (at rof : ℕ) (st : WalkState) (b : Begun) (old work : ℕ) → at < length ls → st.ended ≡ false
    → (line_in ls at).word ≡ Some words.For → IsNextRof ls (at + 1) rof → rof < length ls → begun s (counters_of bs) (line_in ls at) st ≡ Ok b
    → work ≤ old + count_steps (counters_of bs) (line_in ls at) st
    → steps_at (visit_steps (length bs)) ls at + work + begun_steps s ls bs at rof b ≤ old + rest_steps s ls bs (parsed (drop at ls)) st
for-taken s ls bs at rof st b old work some on word own there begins few =
    let visits : ℕ → ℕ = λ n. visited_for n (line_in ls at) (line_in ls rof) in
    omega (
      arith,
      few,
      at-for s ls bs at rof st some on word own there,
      steps-for (visit_steps (length bs)) ls at rof word own there,
      ap visits (counters-open bs),
      ap (λ (m : Result Begun AsmFault). then_steps m (begun_steps s ls bs at rof)) begins,
    )

-- a block without a copy
pub passed-taken : (s : RawSettings) (ls : List SourceLine) (bs : List OpenBlock) (at rof : ℕ) (name : List ℕ) (st new now : WalkState) (old work : ℕ) → at < length ls → st.ended ≡ false
    → (line_in ls at).word ≡ Some words.For → IsNextRof ls (at + 1) rof → rof < length ls → begun s (counters_of bs) (line_in ls at) st ≡ Ok (begun_as new name 0)
    → work ≤ old + count_steps (counters_of bs) (line_in ls at) st → closed s (counters_of bs) (line_in ls rof) new ≡ Ok now
    → steps_at (visit_steps (length bs)) ls at + work + rest_steps s ls bs (parsed (drop (rof + 1) ls)) now ≤ old + rest_steps s ls bs (parsed (drop at ls)) st
passed-taken s ls bs at rof name st new now old work some on word own there begins few closes =
    omega (
      arith,
      for-taken s ls bs at rof st (begun_as new name 0) old work some on word own there begins few,
      ap (λ (m : Walked). then_steps m (rest_steps s ls bs (parsed (drop (rof + 1) ls)))) closes,
    )

-- the first copy of a block
pub block-taken : (s : RawSettings) (ls : List SourceLine) (bs : List OpenBlock) (at rof : ℕ) (name : List ℕ) (st new : WalkState) (n old work : ℕ) → at < length ls → st.ended ≡ false
    → (line_in ls at).word ≡ Some words.For → IsNextRof ls (at + 1) rof → rof < length ls → begun s (counters_of bs) (line_in ls at) st ≡ Ok (begun_as new name n)
    → work ≤ old + count_steps (counters_of bs) (line_in ls at) st → n ≢ 0
    → steps_at (visit_steps (length bs)) ls at + work
    + rest_steps s ls (open_block (line_in ls at).number (counter_of name 1) (n - 1) new.counted (at + 1) ∷ bs) (parsed (drop (at + 1) ls)) new
    ≤ old + rest_steps s ls bs (parsed (drop at ls)) st
block-taken s ls bs at rof name st new zero old work some on word own there begins few more = absurd (more refl)
block-taken s ls bs at rof name st new (suc m) old work some on word own there begins few more =
    let less-one : suc m - 1 ≡ m = omega arith in
    let opened : OpenBlock = open_block (line_in ls at).number (counter_of name 1) m new.counted (at + 1) in
    let left : Parsed = parsed (drop (at + 1) ls) in
    rw less-one (omega (
      arith,
      for-taken s ls bs at rof st (begun_as new name (suc m)) old work some on word own there begins few,
      ap (λ (rofs : List (SourceLine × Blocks)). walk_steps s (counters_of (opened ∷ bs)) left.0 (behind_steps s ls (opened ∷ bs) rofs) new) (ends-with ls at rof own there),
    ))

-- ---- the end of a copy

-- what comes after it
abbrev ended_steps : RawSettings → List SourceLine → List OpenBlock → OpenBlock → ℕ → WalkState → ℕ
ended_steps s ls bs b at =
    more_steps s ls bs b (end_steps (counters_of bs) b.counter.name (line_in ls at))
    (λ now. then_steps (closed s (counters_of bs) (line_in ls at) now) (rest_steps s ls bs (parsed (drop (at + 1) ls))))

at-rof : (s : RawSettings) (ls : List SourceLine) (bs : List OpenBlock) (b : OpenBlock) (at : ℕ) (st : WalkState) → at < length ls → st.ended ≡ false → (line_in ls at).word ≡ Some words.Rof
    → rest_steps s ls (b ∷ bs) (parsed (drop at ls)) st
    ≡ end_steps (counters_of bs) b.counter.name (line_in ls at) + then_steps (copied b.number b.start st) (ended_steps s ls bs b at)
at-rof s ls bs b at st some on word = ap (λ (left : Parsed). rest_steps s ls (b ∷ bs) left st) (rof-here ls at some word) ∙ rw on refl

steps-rof : (visit : SourceLine → ℕ) (ls : List SourceLine) (at : ℕ) → (line_in ls at).word ≡ Some words.Rof → steps_at visit ls at ≡ visit (shortened (line_in ls at))
steps-rof visit ls at word = omega (arith, ap (λ (w : Option Word). rof_steps visit (edge_of w) (parsed (drop (at + 1) ls)).1) word)

ended-taken : (s : RawSettings) (ls : List SourceLine) (bs : List OpenBlock) (b : OpenBlock) (at : ℕ) (st now : WalkState) → at < length ls → st.ended ≡ false → (line_in ls at).word ≡ Some words.Rof
    → copied b.number b.start st ≡ Ok now
    → steps_at (visit_steps (suc (length bs))) ls at + length b.counter.name / 32 + ended_steps s ls bs b at now ≡ rest_steps s ls (b ∷ bs) (parsed (drop at ls)) st
ended-taken s ls bs b at st now some on word is =
    omega (
      arith,
      at-rof s ls bs b at st some on word,
      steps-rof (visit_steps (suc (length bs))) ls at word,
      ap (λ (n : ℕ). visited (suc n) (line_in ls at)) (counters-open bs),
      ap (λ (m : Walked). then_steps m (ended_steps s ls bs b at)) is,
    )

-- the last copy
pub last-taken : (s : RawSettings) (ls : List SourceLine) (old bs : List OpenBlock) (b : OpenBlock) (at number start left before work : ℕ) (st now new : WalkState) → old ≡ b ∷ bs
    → number ≡ b.number → start ≡ b.start → left ≡ b.left → at < length ls → st.ended ≡ false → (line_in ls at).word ≡ Some words.Rof → copied number start st ≡ Ok now → left ≡ 0
    → closed s (counters_of bs) (line_in ls at) now ≡ Ok new → work ≡ before
    → steps_at (visit_steps (length old)) ls at + work + rest_steps s ls bs (parsed (drop (at + 1) ls)) new ≤ before + rest_steps s ls old (parsed (drop at ls)) st
last-taken s ls old bs b at number start left before work st now new is number-is start-is left-is some on word ends none closes same =
    let cs : List Counter = counters_of bs in
    let rest : WalkState → ℕ = rest_steps s ls bs (parsed (drop (at + 1) ls)) in
    let inner : ℕ → (WalkState → ℕ) → WalkState → ℕ = λ k. walk_steps s (cs ++ counter_of b.counter.name k ∷ []) (parsed (drop b.body ls)).0 in
    let all : ended_steps s ls bs b at now ≡ rest new =
    ap (λ (n : ℕ). copies_steps inner b.number (end_steps cs b.counter.name (line_in ls at)) n (b.counter.number + 1) (λ now. then_steps (closed s cs (line_in ls at) now) rest) now) (sym left-is ∙ none)
    ∙ ap (λ (m : Walked). then_steps m rest) closes in
    rw is (omega (arith, same, all, ended-taken s ls bs b at st now some on word (ap (λ (n : ℕ). copied n b.start st) (sym number-is) ∙ ap (λ (n : ℕ). copied number n st) (sym start-is) ∙ ends)))

-- or a further one
pub next-taken : (s : RawSettings) (ls : List SourceLine) (old bs after : List OpenBlock) (b next : OpenBlock) (at number start left body counted before work : ℕ) (st now : WalkState)
    → old ≡ b ∷ bs → number ≡ b.number → start ≡ b.start → left ≡ b.left → body ≡ b.body → counted ≡ now.counted
    → next ≡ open_block b.number (counter_of b.counter.name (b.counter.number + 1)) (b.left - 1) counted b.body → after ≡ next ∷ bs
    → at < length ls → st.ended ≡ false → (line_in ls at).word ≡ Some words.Rof → AreOpen ls old (parsed (drop at ls)).1
    → copied number start st ≡ Ok now → left ≢ 0 → work ≤ before + length b.counter.name / 32
    → steps_at (visit_steps (length old)) ls at + work + rest_steps s ls after (parsed (drop body ls)) now ≤ before + rest_steps s ls old (parsed (drop at ls)) st
next-taken s ls old bs after b next at number start left body counted before work st now is number-is start-is left-is body-is counted-is next-is after-is some on word opened ends more few =
    rw (is, after-is, next-is, counted-is, body-is)
    (omega (
      arith,
      few,
      further b.left refl,
      ended-taken s ls bs b at st now some on word (ap (λ (n : ℕ). copied n b.start st) (sym number-is) ∙ ap (λ (n : ℕ). copied number n st) (sym start-is) ∙ ends),
    ))
  where
    behind : Parsed
    behind = parsed (drop (at + 1) ls)

    open-here : (parsed (drop b.body ls)).1 ≡ (line_in ls at, behind.0) ∷ behind.1
    open-here = (subst (AreOpen ls (b ∷ bs)) (ap (λ (p : Parsed). p.1) (rof-here ls at some word)) (subst (λ (os : List OpenBlock). AreOpen ls os (parsed (drop at ls)).1) is opened)).0

    inner : ℕ → (WalkState → ℕ) → WalkState → ℕ
    inner = λ k. walk_steps s (counters_of bs ++ counter_of b.counter.name k ∷ []) (parsed (drop b.body ls)).0

    ending : ℕ
    ending = end_steps (counters_of bs) b.counter.name (line_in ls at)

    closing : WalkState → ℕ
    closing = λ now. then_steps (closed s (counters_of bs) (line_in ls at) now) (rest_steps s ls bs behind)

    further : (n : ℕ) → b.left ≡ n
        → rest_steps s ls (open_block b.number (counter_of b.counter.name (b.counter.number + 1)) (b.left - 1) now.counted b.body ∷ bs) (parsed (drop b.body ls)) now ≡ ended_steps s ls bs b at now
    further zero none = absurd (more (left-is ∙ none))
    further (suc m) some =
        let less-one : b.left - 1 ≡ m = omega (arith, some) in
        let block : OpenBlock = open_block b.number (counter_of b.counter.name (b.counter.number + 1)) m now.counted b.body in
        rw less-one (
        ap (λ (rofs : List (SourceLine × Blocks)). walk_steps s (counters_of (block ∷ bs)) (parsed (drop b.body ls)).0 (behind_steps s ls (block ∷ bs) rofs) now) open-here
        ∙ ap (λ (n : ℕ). copies_steps inner b.number ending n (b.counter.number + 1) closing now) (sym some))

-- ---- a line that is refused

pub at-least : (s : RawSettings) (ls : List SourceLine) (bs : List OpenBlock) (at : ℕ) (st : WalkState) → at < length ls → st.ended ≡ false
    → steps_at (visit_steps (length bs)) ls at ≤ rest_steps s ls bs (parsed (drop at ls)) st
at-least s ls bs at st some on = by (edge_of (line_in ls at).word) refl
  where
    line : SourceLine
    line = line_in ls at

    left : Parsed
    left = parsed (drop (at + 1) ls)

    begins : (rofs : List (SourceLine × Blocks)) → visit_steps (length bs) (shortened line) + rof_steps (visit_steps (length bs)) Edge.For rofs
        ≤ rest_steps s ls bs (with_body line left.0 rofs) st
    begins [] = rw (on, counters-open bs) (omega arith)
    begins (rof ∷ rofs) = rw (on, counters-open bs) (omega arith)

    ends : (os : List OpenBlock) → visited (length os) line ≤ rest_steps s ls os (finish, (line, left.0) ∷ left.1) st
    ends [] = rw on (omega arith)
    ends (b ∷ os) = rw (on, counters-open os) (omega arith)

    by : (e : Edge) → edge_of line.word ≡ e → steps_at (visit_steps (length bs)) ls at ≤ rest_steps s ls bs (parsed (drop at ls)) st
    by Edge.For is =
        let word = word-for line.word is in
        omega (arith, ap (λ (e : Edge). rof_steps (visit_steps (length bs)) e left.1) is, begins left.1, ap (λ (p : Parsed). rest_steps s ls bs p st) (for-here ls at some word))
    by Edge.Rof is =
        let word = word-rof line.word is in
        omega (arith, steps-rof (visit_steps (length bs)) ls at word, ends bs, ap (λ (p : Parsed). rest_steps s ls bs p st) (rof-here ls at some word))
    by Edge.Neither is = omega (arith, steps-line (visit_steps (length bs)) ls at is, at-line s ls bs at st some on is, visited-open bs line)
