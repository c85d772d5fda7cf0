-- How the walk goes on within open blocks: after a line, a FOR and a ROF, at the end of a copy, and at the end.
use Rattle.std.proofs.Common.{◌≡◌, ◌≢◌, ℕ, suc, ◌+◌, ◌≤◌, Bool, true, false, List, [], ◌∷◌, ◌++◌, drop, nat_eq, Result, Ok, Err, refl, sym, ap, ◌∙◌, arith, subst, zero, ◌-◌, ◌*◌, ◌<◌, length, Some}
use Rattle.{std.specs.Prelude.if◌then◌else◌, std.proofs.{Common.{inl, inr}, lemmas.Bool.{cases_Bool, cond_both, eq-eqb, eqb-false, eqb-true}, lemmas.List.drop_all}}
use Rattle.{redcode_names.specs.Gives.{◌>>=◌, fault_at, Fails}, war_types.specs.declared.fault.AsmKind.AsmKind, redcode_expand.specs.{declared.marked_lines.Edge.Edge, Cut.{cut_walk, with_cut}}}
use Rattle.redcode_expand.specs.{Marks.{edge_of, line_in, IsNextRof}, Walk.{WalkState, Begun, walk, step, begun, closed, copied, copies, until_end, begun_as, IsCopied}}
use Rattle.redcode_expand.specs.Rest.{OpenBlock, open_block, counters_of, more_copies, behind_copy, rest_of, counts, AreOpen, GoesOn}
use Rattle.redcode_expand.proofs.Words.{AsmFault, RawSettings, SourceLine, Blocks, Parsed, parsed, finish, one_line, block, open_for, Counter, counter_of}
use Rattle.redcode_expand.proofs.{Cut.rest-after, Marks.{ends-with, for-here, for-rofs, line-drop, rof-here}}
use Rattle.redcode_text.specs.declared.vocabulary.Word.TheVariants as words

-- ---- the steps that are left

pub one-or-none : (bs : List OpenBlock) (st : WalkState) → counts bs st ≤ 1
one-or-none bs st = grind arith

-- ---- what is left after a line

-- the copies of a block from its first on
abbrev all_copies : RawSettings → List OpenBlock → SourceLine → Blocks → Begun → Result WalkState AsmFault
all_copies s bs line body b = copies (λ number. walk s (counters_of bs ++ counter_of b.counter number ∷ []) body) line.number b.copies 1 b.state

-- of the block of a FOR and its ROF at these indexes, what is left after its first labels and its count
abbrev begun_rest : RawSettings → List SourceLine → List OpenBlock → ℕ → ℕ → Begun → Result WalkState AsmFault
begun_rest s ls bs at rof b =
    all_copies s bs (line_in ls at) (parsed (drop (at + 1) ls)).0 b >>= until_end (closed s (counters_of bs) (line_in ls rof))
    >>= walk s (counters_of bs) (parsed (drop (rof + 1) ls)).0 >>= behind_copy s ls bs (parsed (drop (rof + 1) ls)).1

rest-begun : (s : RawSettings) (ls : List SourceLine) (bs : List OpenBlock) (at rof : ℕ) (st : WalkState) → at < length ls → st.ended ≡ false → (line_in ls at).word ≡ Some words.For
    → IsNextRof ls (at + 1) rof → rof < length ls → rest_of s ls bs (parsed (drop at ls)) st ≡ begun s (counters_of bs) (line_in ls at) st >>= begun_rest s ls bs at rof
rest-begun s ls bs at rof st some going word own there = grind (arith, for-here ls at some word, ends-with ls at rof own there)

-- a copy, and those after it
pub copies-go : (s : RawSettings) (ls : List SourceLine) (bs : List OpenBlock) (name : List ℕ) (number k m body : ℕ) (rof : SourceLine × Blocks) (rofs : List (SourceLine × Blocks)) (st : WalkState)
    → (parsed (drop body ls)).1 ≡ rof ∷ rofs → st.ended ≡ false
    → copies (λ n. walk s (counters_of bs ++ counter_of name n ∷ []) (parsed (drop body ls)).0) number (suc m) k st
    >>= until_end (closed s (counters_of bs) rof.0) >>= walk s (counters_of bs) rof.1 >>= behind_copy s ls bs rofs
    ≡ rest_of s ls (open_block number (counter_of name k) m st.counted body ∷ bs) (parsed (drop body ls)) st
copies-go s ls bs name number k m body rof rofs st h1 h2 = grind arith

-- at a ROF, what is left after the end of the copy
abbrev pub copied_rest : RawSettings → List SourceLine → List OpenBlock → OpenBlock → SourceLine → Parsed → WalkState → Result WalkState AsmFault
copied_rest s ls bs b rof left st =
    more_copies s ls bs b st >>= until_end (closed s (counters_of bs) rof) >>= walk s (counters_of bs) left.0 >>= behind_copy s ls bs left.1

-- after the end of another copy
pub rest-next : (s : RawSettings) (ls : List SourceLine) (bs : List OpenBlock) (b : OpenBlock) (m : ℕ) (rof : SourceLine) (left : Parsed) (st : WalkState) → b.left ≡ suc m
    → (parsed (drop b.body ls)).1 ≡ (rof, left.0) ∷ left.1 → st.ended ≡ false
    → copied_rest s ls bs b rof left st ≡ rest_of s ls (open_block b.number (counter_of b.counter.name (b.counter.number + 1)) m st.counted b.body ∷ bs) (parsed (drop b.body ls)) st
rest-next s ls bs b m rof left st h1 h2 h3 = grind arith

-- after an END nothing is left
walk-ended : (s : RawSettings) (cs : List Counter) (left : Blocks) (st : WalkState) → st.ended ≡ true → walk s cs left st ≡ Ok st
walk-ended s cs finish st over = refl
walk-ended s cs (one_line line rest) st over = grind (arith, walk-ended s cs rest st)
walk-ended s cs (block line body rof rest) st over = grind (arith, walk-ended s cs rest st)
walk-ended s cs (open_for line) st over = grind arith

copies-ended : (body : ℕ → WalkState → Result WalkState AsmFault) (line n k : ℕ) (st : WalkState) → st.ended ≡ true → copies body line n k st ≡ Ok st
copies-ended body line n k st h1 = grind arith

copy-ended : (s : RawSettings) (ls : List SourceLine) (bs : List OpenBlock) (rofs : List (SourceLine × Blocks)) (st : WalkState) → st.ended ≡ true → behind_copy s ls bs rofs st ≡ Ok st
copy-ended s ls [] rofs st over = grind arith
copy-ended s ls (b ∷ bs) [] st over = refl
copy-ended s ls (b ∷ bs) (rof ∷ rofs) st over = grind (arith, copies-ended, walk-ended, copy-ended s ls bs rofs st)

pub rest-ended : (s : RawSettings) (ls : List SourceLine) (bs : List OpenBlock) (left : Parsed) (st : WalkState) → st.ended ≡ true → rest_of s ls bs left st ≡ Ok st
rest-ended s ls bs left st h1 = grind (arith, walk-ended, copy-ended)

-- ---- the lines of the walk

line-rest : (s : RawSettings) (ls : List SourceLine) (bs : List OpenBlock) (at : ℕ) (st : WalkState) → at < length ls → st.ended ≡ false → edge_of (line_in ls at).word ≡ Edge.Neither
    → rest_of s ls bs (parsed (drop at ls)) st ≡ step s (counters_of bs) (line_in ls at) st >>= rest_of s ls bs (parsed (drop (at + 1) ls))
line-rest s ls bs at st some going neither = grind (arith, line-drop ls at some)

pub line-fails : (s : RawSettings) (ls : List SourceLine) (bs : List OpenBlock) (at : ℕ) (st : WalkState) (fault : AsmFault) → at < length ls
    → st.ended ≡ false → edge_of (line_in ls at).word ≡ Edge.Neither
    → Fails fault (with_cut (step s (counters_of bs) (line_in ls at) st)) → Fails fault (rest_of s ls bs (parsed (drop at ls)) st)
line-fails s ls bs at st fault h1 h2 h3 h4 = grind (arith, line-rest)

line-open : (ls : List SourceLine) (bs : List OpenBlock) (at : ℕ) → at < length ls → edge_of (line_in ls at).word ≡ Edge.Neither
    → AreOpen ls bs (parsed (drop at ls)).1 → AreOpen ls bs (parsed (drop (at + 1) ls)).1
line-open ls bs at some h2 h3 = grind (arith, line-drop ls at some)

-- a line that makes no block
pub line-goes-on : (s : RawSettings) (ls : List SourceLine) (bs : List OpenBlock) (at : ℕ) (st new : WalkState) → at < length ls → st.ended ≡ false
    → edge_of (line_in ls at).word ≡ Edge.Neither → AreOpen ls bs (parsed (drop at ls)).1 → with_cut (step s (counters_of bs) (line_in ls at) st) ≡ Ok (cut_walk new)
    → new.counted ≡ st.counted + 1 → st.counted < 4096 → length ls ≤ 65536 → GoesOn s ls bs at st bs (at + 1) new
line-goes-on s ls bs at st new some going neither opened is counts room few = record {
  rest = rest-after s ls bs (parsed (drop (at + 1) ls)) (step s (counters_of bs) (line_in ls at) st) new is ∙ ap with_cut (sym (line-rest s ls bs at st some going neither));
  opened = line-open ls bs at some neither opened;
  less = omega (arith, counts, room, few, some, one-or-none bs new, one-or-none bs st);
}

-- ---- a FOR

fewer-behind : (old new a b m n : ℕ) → new ≡ old → a ≤ b → m < n → (4096 - new) * 131074 + (a * 65537 + m) < (4096 - old) * 131074 + (b * 65537 + n)
fewer-behind old new a b m n same fewer less = rw same (omega arith)

-- without a ROF
pub for-fails : (s : RawSettings) (ls : List SourceLine) (bs : List OpenBlock) (at rof : ℕ) (st : WalkState) → at < length ls → st.ended ≡ false → (line_in ls at).word ≡ Some words.For
    → IsNextRof ls (at + 1) rof → length ls ≤ rof → rest_of s ls bs (parsed (drop at ls)) st ≡ Err (fault_at (line_in ls at).number AsmKind.UnmatchedFor)
for-fails s ls bs at rof st some going word own over = grind (arith, for-here ls at some word, own.rofs, drop_all rof ls over)

pub begun-fails : (s : RawSettings) (ls : List SourceLine) (bs : List OpenBlock) (at rof : ℕ) (st : WalkState) (fault : AsmFault) → at < length ls → st.ended ≡ false
    → (line_in ls at).word ≡ Some words.For → IsNextRof ls (at + 1) rof → rof < length ls → Fails fault (begun s (counters_of bs) (line_in ls at) st)
    → Fails fault (rest_of s ls bs (parsed (drop at ls)) st)
begun-fails s ls bs at rof st fault some going word own there fails =
    subst (Fails fault) (sym (rest-begun s ls bs at rof st some going word own there)) (then-fails (begun s (counters_of bs) (line_in ls at) st) fails)
  where
    then-fails : (m : Result Begun AsmFault) → Fails fault m → Fails fault (m >>= begun_rest s ls bs at rof)
    then-fails m h1 = grind arith

-- of a block without a copy its ROF is left, and what is after it
pub rest-passed : (s : RawSettings) (ls : List SourceLine) (bs : List OpenBlock) (at rof : ℕ) (name : List ℕ) (st new : WalkState) → at < length ls → st.ended ≡ false
    → (line_in ls at).word ≡ Some words.For → IsNextRof ls (at + 1) rof → rof < length ls → begun s (counters_of bs) (line_in ls at) st ≡ Ok (begun_as new name 0) → new.ended ≡ st.ended
    → rest_of s ls bs (parsed (drop at ls)) st ≡ closed s (counters_of bs) (line_in ls rof) new >>= rest_of s ls bs (parsed (drop (rof + 1) ls))
rest-passed s ls bs at rof name st new some going word own there begins same =
    rest-begun s ls bs at rof st some going word own there ∙ ap (λ (m : Result Begun AsmFault). m >>= begun_rest s ls bs at rof) begins
    ∙ ap (λ (b : Bool). (if b then Ok new else closed s (counters_of bs) (line_in ls rof) new) >>= walk s (counters_of bs) behind.0 >>= behind_copy s ls bs behind.1) (same ∙ going)
    ∙ then-walk (closed s (counters_of bs) (line_in ls rof) new)
  where
    behind : Parsed
    behind = parsed (drop (rof + 1) ls)

    then-walk : (m : Result WalkState AsmFault) → m >>= walk s (counters_of bs) behind.0 >>= behind_copy s ls bs behind.1 ≡ m >>= rest_of s ls bs behind
    then-walk m = grind arith

pub passed-goes-on : (s : RawSettings) (ls : List SourceLine) (bs : List OpenBlock) (at rof : ℕ) (name : List ℕ) (st new now : WalkState) → at < length ls → st.ended ≡ false
    → (line_in ls at).word ≡ Some words.For → IsNextRof ls (at + 1) rof → rof < length ls → begun s (counters_of bs) (line_in ls at) st ≡ Ok (begun_as new name 0) → new.ended ≡ st.ended
    → AreOpen ls bs (parsed (drop at ls)).1 → closed s (counters_of bs) (line_in ls rof) new ≡ Ok now → now.counted ≡ st.counted → GoesOn s ls bs at st bs (rof + 1) now
passed-goes-on s ls bs at rof name st new now some going word own there begins same opened closes counted = record {
  rest = ap with_cut (sym (
      rest-passed s ls bs at rof name st new some going word own there begins same
      ∙ ap (λ (m : Result WalkState AsmFault). m >>= rest_of s ls bs (parsed (drop (rof + 1) ls))) closes));
  opened = subst (AreOpen ls bs) (for-rofs ls at rof some word own there) opened;
  less = fewer-behind st.counted now.counted (counts bs now) (counts bs st) (length ls - (rof + 1)) (length ls - at) counted (grind arith) (omega (arith, own.later, there));
}

-- the first copy of a block begins
pub block-goes-on : (s : RawSettings) (ls : List SourceLine) (bs : List OpenBlock) (at rof : ℕ) (name : List ℕ) (st new : WalkState) (n : ℕ) → at < length ls → st.ended ≡ false
    → (line_in ls at).word ≡ Some words.For → IsNextRof ls (at + 1) rof → rof < length ls → begun s (counters_of bs) (line_in ls at) st ≡ Ok (begun_as new name n) → new.ended ≡ st.ended
    → AreOpen ls bs (parsed (drop at ls)).1 → n ≢ 0 → new.counted ≡ st.counted
    → GoesOn s ls bs at st (open_block (line_in ls at).number (counter_of name 1) (n - 1) new.counted (at + 1) ∷ bs) (at + 1) new
block-goes-on s ls bs at rof name st new zero some going word own there begins same opened more counted = absurd (more refl)
block-goes-on s ls bs at rof name st new (suc m) some going word own there begins same opened more counted =
    let less-one : suc m - 1 ≡ m = omega arith in
    let ends = ends-with ls at rof own there in
    let start : counts (open_block (line_in ls at).number (counter_of name 1) m new.counted (at + 1) ∷ bs) new ≡ 0 =
    ap (λ (b : Bool). if b then 0 else 1) (eq-eqb new.counted new.counted refl) in
    rw less-one (record {
      rest = ap with_cut (sym (
          rest-begun s ls bs at rof st some going word own there ∙ ap (λ (x : Result Begun AsmFault). x >>= begun_rest s ls bs at rof) begins
          ∙ copies-go s ls bs name (line_in ls at).number 1 m (at + 1) _ _ new ends (same ∙ going)));
      opened = subst (AreOpen ls (open_block (line_in ls at).number (counter_of name 1) m new.counted (at + 1) ∷ bs)) (sym ends)
          (ends, subst (AreOpen ls bs) (for-rofs ls at rof some word own there) opened);
      less = fewer-behind st.counted new.counted _ (counts bs st) (length ls - (at + 1)) (length ls - at) counted (omega (arith, start)) (omega arith);
    })

-- ---- the end of a copy

at-rof : (s : RawSettings) (ls : List SourceLine) (bs : List OpenBlock) (b : OpenBlock) (at : ℕ) (st : WalkState) → at < length ls → st.ended ≡ false → (line_in ls at).word ≡ Some words.Rof
    → rest_of s ls (b ∷ bs) (parsed (drop at ls)) st ≡ copied b.number b.start st >>= copied_rest s ls bs b (line_in ls at) (parsed (drop (at + 1) ls))
at-rof s ls bs b at st some going word = grind (arith, rof-here ls at some word)

-- on to the next copy
pub next-goes-on : (s : RawSettings) (ls : List SourceLine) (bs : List OpenBlock) (b : OpenBlock) (at : ℕ) (st now : WalkState) → length ls ≤ 65536 → at < length ls
    → st.ended ≡ false → (line_in ls at).word ≡ Some words.Rof → AreOpen ls (b ∷ bs) (parsed (drop at ls)).1
    → copied b.number b.start st ≡ Ok now → now.ended ≡ st.ended → IsCopied b.start st.counted now.counted → b.left ≢ 0
    → GoesOn s ls (b ∷ bs) at st (open_block b.number (counter_of b.counter.name (b.counter.number + 1)) (b.left - 1) now.counted b.body ∷ bs) b.body now
next-goes-on s ls bs b at st now h1 h2 h3 h4 h5 h6 h7 h8 h9 = grind (arith, at-rof, rof-here, eq-eqb, rest-next, one-or-none)

-- the same, after the block was removed and the next copy of it put back
pub next-copied : (s : RawSettings) (ls : List SourceLine) (old bs after : List OpenBlock) (b next : OpenBlock) (at number start left body counted : ℕ) (st now : WalkState)
    → old ≡ b ∷ bs → number ≡ b.number → start ≡ b.start → left ≡ b.left → body ≡ b.body → counted ≡ now.counted
    → next ≡ open_block b.number (counter_of b.counter.name (b.counter.number + 1)) (b.left - 1) counted b.body → after ≡ next ∷ bs
    → length ls ≤ 65536 → at < length ls → st.ended ≡ false → (line_in ls at).word ≡ Some words.Rof → AreOpen ls old (parsed (drop at ls)).1
    → copied number start st ≡ Ok now → now.ended ≡ st.ended → IsCopied start st.counted now.counted → left ≢ 0 → GoesOn s ls old at st after body now
next-copied s ls old bs after b next at number start left body counted st now h1 h2 h3 h4 h5 h6 h7 h8 h9 h10 h11 h12 h13 h14 h15 h16 h17 = grind (arith, next-goes-on)

-- a copy counts one line at most at its end
pub copied-few : (start old new : ℕ) → IsCopied start old new → new ≤ old + 1
copied-few start old new is = elim (cases_Bool (nat_eq old start)) [
  | inl same ↦ omega (arith, (is.counts (eqb-true old start same)).0)
  | inr other ↦ omega (arith, is.stays (eqb-false old start other))
]

-- ---- the end

open-none : (s : RawSettings) (ls : List SourceLine) (bs : List OpenBlock) (st : WalkState) → AreOpen ls bs [] → rest_of s ls bs (parsed []) st ≡ Ok st
open-none s ls [] st opened = cond_both st.ended (Ok st) (Ok st) (λ (r : Result WalkState AsmFault). r ≡ Ok st) (λ e. refl) (λ e. refl)
open-none s ls (b ∷ bs) st opened = refl

pub rest-done : (s : RawSettings) (ls : List SourceLine) (bs : List OpenBlock) (at : ℕ) (st : WalkState) → length ls ≤ at → AreOpen ls bs (parsed (drop at ls)).1
    → rest_of s ls bs (parsed (drop at ls)) st ≡ Ok st
rest-done s ls bs at st past opened = grind (arith, drop_all, open-none)
