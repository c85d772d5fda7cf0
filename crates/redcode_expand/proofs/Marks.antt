-- Lines that are marked: the ROF that belongs to each FOR, found from the last line on.
use Rattle.std.proofs.Common.{◌≡◌, ℕ, ◌+◌, ◌≤◌, ◌<◌, arith, true, false, Bool, not, List, [], ◌∷◌, length, drop, Option, Some, Ok, refl, sym, ap, subst, ◌∙◌, nat_eq}
use Rattle.{std.specs.Prelude.{slice_set}, std.proofs.{lemmas.Bool.{and_parts, eqb-false, eqb-true}, lemmas.List.{drop_all, drop_more, get_or-set_same, get_or-set_other, length-set}}}
use Rattle.redcode_expand.specs.{declared.marked_lines.Mark.Mark, Marks.{edge_of, has_join, is_bare, is_long, line_in, mark_at, no_mark, AreFromRof, AreMarked, IsMarked, IsNextRof, IsSameCount}}
use Rattle.redcode_expand.specs.{Walk.{WalkState, closed}, declared.marked_lines.Edge.Edge}
use Rattle.redcode_expand.proofs.Words.{RawSettings, Piece, SourceLine, Blocks, Parsed, parsed, with_body, behind_by, behind_for, behind_rof, has_tokens, labels_of, Counter, in_copy, in_copies, Word, has_and}
use Rattle.redcode_text.specs.declared.vocabulary.Word.TheVariants as words

-- ---- a line and its edge

pub line-drop : (ls : List SourceLine) (at : ℕ) → at < length ls → drop at ls ≡ line_in ls at ∷ drop (at + 1) ls
line-drop ls at some = drop_more ls at _ some

pub for-here : (ls : List SourceLine) (at : ℕ) → at < length ls → (line_in ls at).word ≡ Some words.For → parsed (drop at ls) ≡ behind_for (line_in ls at) (parsed (drop (at + 1) ls))
for-here ls at some word = grind (arith, line-drop)

pub rof-here : (ls : List SourceLine) (at : ℕ) → at < length ls → (line_in ls at).word ≡ Some words.Rof → parsed (drop at ls) ≡ behind_rof (line_in ls at) (parsed (drop (at + 1) ls))
rof-here ls at some word = grind (arith, line-drop)

pub line-first : (ls : List SourceLine) (at : ℕ) (line : SourceLine) → at < length ls → drop at ls ≡ line ∷ drop (at + 1) ls → line_in ls at ≡ line
line-first ls at line some h = grind (arith, line-drop)

pub word-for : (word : Option Word) → edge_of word ≡ Edge.For → word ≡ Some words.For
word-for (Some words.For) h = refl
word-for _ h = absurd cc

pub word-rof : (word : Option Word) → edge_of word ≡ Edge.Rof → word ≡ Some words.Rof
word-rof (Some words.Rof) h = refl
word-rof _ h = absurd cc

-- what begins and ends no block leaves the ROFs after it as they are
rofs-behind : (word : Option Word) (line : SourceLine) (left : Parsed) → edge_of word ≡ Edge.Neither → (behind_by word line left).1 ≡ left.1
rofs-behind (Some words.For) line left h = absurd cc
rofs-behind (Some words.Rof) line left h = absurd cc
rofs-behind _ line left h = refl

pub rof-word : (ls : List SourceLine) (rof : ℕ) → AreFromRof (drop rof ls) → rof < length ls → (line_in ls rof).word ≡ Some words.Rof
rof-word ls rof from some = subst AreFromRof (line-drop ls rof some) from

-- ---- the first ROF from a line on

pub next-rof : (ls : List SourceLine) (at : ℕ) → at < length ls → (line_in ls at).word ≡ Some words.Rof → IsNextRof ls at at
next-rof ls at some word = record { rofs = refl; from = subst AreFromRof (sym (line-drop ls at some)) word; later = omega arith }

pub next-other : (ls : List SourceLine) (at rof : ℕ) → at < length ls → edge_of (line_in ls at).word ≡ Edge.Neither → IsNextRof ls (at + 1) rof → IsNextRof ls at rof
next-other ls at rof some neither next =
    let here : (parsed (drop at ls)).1 ≡ (parsed (drop (at + 1) ls)).1 =
    ap (λ (xs : List SourceLine). (parsed xs).1) (line-drop ls at some) ∙ rofs-behind (line_in ls at).word (line_in ls at) (parsed (drop (at + 1) ls)) neither in
    record { rofs = next.rofs ∙ sym here; from = next.from; later = omega (arith, next.later) }

-- after a FOR whose ROF is there
with-rof : (line : SourceLine) (body : Blocks) (rofs others : List (SourceLine × Blocks)) (rof : SourceLine × Blocks) → rofs ≡ rof ∷ others → (with_body line body rofs).1 ≡ others
with-rof line body rofs others rof is = ap (λ (rs : List (SourceLine × Blocks)). (with_body line body rs).1) is

-- the ROFs from the ROF of a FOR on
pub ends-with : (ls : List SourceLine) (at rof : ℕ) → IsNextRof ls (at + 1) rof → rof < length ls
    → (parsed (drop (at + 1) ls)).1 ≡ (line_in ls rof, (parsed (drop (rof + 1) ls)).0) ∷ (parsed (drop (rof + 1) ls)).1
ends-with ls at rof own there =
    sym own.rofs ∙ ap (λ (p : Parsed). p.1) (rof-here ls rof there (rof-word ls rof own.from there))

-- from a FOR on there are those after its ROF
pub for-rofs : (ls : List SourceLine) (at rof : ℕ) → at < length ls → (line_in ls at).word ≡ Some words.For → IsNextRof ls (at + 1) rof → rof < length ls
    → (parsed (drop at ls)).1 ≡ (parsed (drop (rof + 1) ls)).1
for-rofs ls at rof some word own there =
    let left : Parsed = parsed (drop (at + 1) ls) in
    let behind : Parsed = parsed (drop (rof + 1) ls) in
    ap (λ (p : Parsed). p.1) (for-here ls at some word)
    ∙ with-rof (line_in ls at) left.0 left.1 behind.1 (line_in ls rof, behind.0) (ends-with ls at rof own there)

pub next-for : (ls : List SourceLine) (at rof next : ℕ) → at < length ls → (line_in ls at).word ≡ Some words.For → IsNextRof ls (at + 1) rof → rof < length ls → IsNextRof ls (rof + 1) next
    → IsNextRof ls at next
next-for ls at rof next some word own there outer =
    record { rofs = outer.rofs ∙ sym (for-rofs ls at rof some word own there); from = outer.from; later = omega (arith, own.later, outer.later) }

-- after a FOR without one
pub next-open : (ls : List SourceLine) (at rof : ℕ) → at < length ls → (line_in ls at).word ≡ Some words.For → IsNextRof ls (at + 1) rof → length ls ≤ rof → IsNextRof ls at rof
next-open ls at rof some word own over =
    let line : SourceLine = line_in ls at in
    let left : Parsed = parsed (drop (at + 1) ls) in
    let none : left.1 ≡ [] = sym own.rofs ∙ ap (λ (xs : List SourceLine). (parsed xs).1) (drop_all rof ls over) in
    let here : (parsed (drop at ls)).1 ≡ [] =
    ap (λ (p : Parsed). p.1) (for-here ls at some word) ∙ ap (λ (rs : List (SourceLine × Blocks)). (with_body line left.0 rs).1) none in
    record { rofs = own.rofs ∙ none ∙ sym here; from = own.from; later = omega (arith, own.later) }

-- ---- all lines

marked-by : (ls : List SourceLine) (marks : List Mark) (from at : ℕ) (mark : Mark) (b : Bool) → nat_eq at from ≡ b → from < length ls → from ≤ at → at < length ls → AreMarked (from + 1) ls marks
    → IsMarked ls from mark → IsMarked ls at (mark_at (slice_set marks from mark) at)
marked-by ls marks from at mark true same there later some are is =
    let here : at ≡ from = eqb-true at from same in
    let set : mark_at (slice_set marks from mark) from ≡ mark = get_or-set_same marks from mark no_mark (omega (arith, are.room, there)) in
    rw here (subst (IsMarked ls from) (sym set) is)
marked-by ls marks from at mark false other there later some are is =
    let past : from + 1 ≤ at = omega (arith, later, eqb-false at from other) in
    subst (IsMarked ls at) (sym (get_or-set_other marks from at mark no_mark (eqb-false at from other))) (are.marked at past some)

-- one more is marked
pub one-marked : (ls : List SourceLine) (marks : List Mark) (from : ℕ) (mark : Mark) → from < length ls → AreMarked (from + 1) ls marks → IsMarked ls from mark
    → AreMarked from ls (slice_set marks from mark)
one-marked ls marks from mark there are is = record {
  room = length-set marks from mark ∙ are.room;
  marked = λ at later some. marked-by ls marks from at mark (nat_eq at from) refl there later some are is;
}

-- ---- what the code asks for

no-tokens : (ts : List Piece) → not (has_tokens ts) ≡ true → ts ≡ []
no-tokens [] h = refl
no-tokens (t ∷ ts) h = absurd cc

pub bare-front : (line : SourceLine) → is_bare line ≡ true → line.front ≡ []
bare-front line is = no-tokens line.front (and_parts (not (has_tokens line.front)) (not (has_and line.tokens)) is).0

pub copies-word : (cs : List Counter) (line : SourceLine) → (in_copies cs line).word ≡ line.word
copies-word [] line = refl
copies-word (c ∷ cs) line = copies-word cs (in_copy c line)

copies-front : (cs : List Counter) (line : SourceLine) → line.front ≡ [] → (in_copies cs line).front ≡ []
copies-front [] line none = none
copies-front (c ∷ cs) line none = copies-front cs (in_copy c line) (grind arith)

pub front-labels : (line : SourceLine) (w : Word) → line.word ≡ Some w → line.front ≡ [] → labels_of line ≡ []
front-labels line w word none = rw (word, none) refl

-- a ROF without labels does nothing
pub closed-none : (s : RawSettings) (cs : List Counter) (line : SourceLine) (st : WalkState) (w : Word) → line.word ≡ Some w → line.front ≡ [] → closed s cs line st ≡ Ok st
closed-none s cs line st w h1 h2 = grind (arith, front-labels, copies-word, copies-front)

pub closed-bare : (s : RawSettings) (cs : List Counter) (line : SourceLine) (st : WalkState) → line.word ≡ Some words.Rof → is_bare line ≡ true → closed s cs line st ≡ Ok st
closed-bare s cs line st word bare = closed-none s cs line st words.Rof word (bare-front line bare)

-- what was marked of a line that was read
pub marked-is : (ls : List SourceLine) (at rof : ℕ) (line read : SourceLine) (mark : Mark) → at < length ls → drop at ls ≡ line ∷ drop (at + 1) ls → read ≡ line
    → mark.edge ≡ edge_of read.word → mark.is_bare ≡ is_bare read → mark.is_long ≡ is_long read → mark.joins ≡ has_join read → mark.rof ≡ rof → IsNextRof ls (at + 1) rof → IsSameCount ls at mark.count → IsMarked ls at mark
marked-is ls at rof line read mark some first is edge bare long joins own next same =
    let here : read ≡ line_in ls at = is ∙ sym (line-first ls at line some first) in
    record {
      edge = edge ∙ ap (λ (l : SourceLine). edge_of l.word) here;
      bare = bare ∙ ap is_bare here;
      long = long ∙ ap is_long here;
      joins = joins ∙ ap has_join here;
      rof = subst (IsNextRof ls (at + 1)) (sym own) next;
      count = same;
    }
