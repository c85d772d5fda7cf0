-- The matches of a field, one pair after the other: for `fighting`.
use Rattle.std.proofs.Common.{◌≡◌, ℕ, ◌+◌, ◌<◌, ◌≤◌, Bool, List, [], ◌∷◌, ◌++◌, length, get_or, Option, refl, sym, ap, subst, ◌∙◌, append-nil, append_assoc, arith}
use Rattle.std.{specs.{Io.KnownBytes.{Appends, Keeps}, List.flat_map}, proofs.{KnownBytes.{Appends-nil, Appends-trans, Keeps-refl, Keeps-trans}, lemmas.List.{get_or-map, length-append, length-map}, lemmas.List.Concat.flat_map-append, lemmas.List.FromFn.length-map-range_with_len}}
use Rattle.{war_types.specs.{declared.settings.RawSettings.RawSettings}, koth_text.specs.{Written.WritesPart, declared.tally.Tally.Tally}, koth_words.specs.declared.requests.View.View}
use Rattle.koth_commands.{specs.{Told.{TellsWord, WritesSome}, Trouble.{Tells, no_memory}, declared.{status.Status.Status, trouble.{Trouble.Trouble}}}, proofs.Told.{behind, in_longer, keeps_some, kept_part, writes_more, writes_nothing}}
use Rattle.koth_contests.specs.{Contest.contest_tally, Lines.Entrant, Met.{EndsLine, Notes, TellsAfter}, declared.meeting.Terms.Terms}
use Rattle.koth_field.specs.{Field.{entrant_of, entrants_of}, declared.field.Member.Member}
use Rattle.koth_standings.specs.{Pairs.IsNext, Parts.part_left, Standings.{AreOf, StandingsParts, most_matches, rounds_of}, declared.{pairs.Pair.Pair, parts.PairsOfPart.PairsOfPart}}
use Rattle.koth_rank.specs.{Matches.{EndsMatches, entrant_at, kept_line, kept_lines, kept_match, pair_line, pair_lines, pair_tally, pairs_fought, told_match}, declared.plan.Plan.Plan}

-- ---- members

module _ {A : Type 0} (members : List (Member A)) where
  pub as_many : length (entrants_of members) ≡ length members
  as_many = length-map members (λ (m : Member A). entrant_of m)

  pub member_at : (i : ℕ) (m : Member A) → i < length members → m ≡ get_or members i m → entrant_at (entrants_of members) i ≡ entrant_of m
  member_at i m below is = get_or-map (λ (x : Member A). entrant_of x) members i m _ below ∙ ap (λ (x : Member A). entrant_of x) (sym is)

-- the standings have as many counts as the field has places
pub many_counts : (match_of : Pair → Tally) (n : ℕ) (ps : List Pair) (standings : StandingsParts) → AreOf match_of n ps standings → length standings.counts ≡ n
many_counts match_of n ps standings are = ap (λ l. length l) are.counts ∙ length-map-range_with_len (rounds_of match_of ps) 0 n

-- the rounds of a pair are those of its two warriors
pub pair_is : (s : RawSettings) (both : Bool) (entrants : List Entrant) (p : Pair) (older younger : Entrant) (t : Tally)
    → entrant_at entrants p.older ≡ older → entrant_at entrants p.younger ≡ younger → t ≡ contest_tally s both older.warrior younger.warrior
    → pair_tally s both entrants p ≡ t
pair_is s both entrants p older younger t first second is =
    ap (λ (e : Entrant). contest_tally s both e.warrior (entrant_at entrants p.younger).warrior) first
    ∙ ap (λ (e : Entrant). contest_tally s both older.warrior e.warrior) second ∙ sym is

-- and so is its line
pub line_is : (s : RawSettings) (terms : Terms) (entrants : List Entrant) (p : Pair) (older younger : Entrant) (t : Tally)
    → entrant_at entrants p.older ≡ older → entrant_at entrants p.younger ≡ younger → t ≡ contest_tally s terms.both older.warrior younger.warrior
    → told_match terms.view older younger t ≡ pair_line s terms entrants p
line_is s terms entrants p older younger t first second is =
    sym (ap (λ (n : Tally). told_match terms.view (entrant_at entrants p.older) (entrant_at entrants p.younger) n) (pair_is s terms.both entrants p older younger t first second is)
    ∙ ap (λ (e : Entrant). told_match terms.view e (entrant_at entrants p.younger) t) first
    ∙ ap (λ (e : Entrant). told_match terms.view older e t) second)

-- and so is the line that is kept
pub kept_is : (s : RawSettings) (plan : Plan) (entrants : List Entrant) (p : Pair) (older younger : Entrant) (t : Tally)
    → entrant_at entrants p.older ≡ older → entrant_at entrants p.younger ≡ younger → t ≡ contest_tally s plan.terms.both older.warrior younger.warrior
    → kept_match plan.matches plan.terms.view older younger t ≡ kept_line s plan entrants p
kept_is s plan entrants p older younger t first second is =
    let told = kept_match plan.matches plan.terms.view in
    sym (ap (λ (n : Tally). told (entrant_at entrants p.older) (entrant_at entrants p.younger) n) (pair_is s plan.terms.both entrants p older younger t first second is)
    ∙ ap (λ (e : Entrant). told e (entrant_at entrants p.younger) t) first
    ∙ ap (λ (e : Entrant). told older e t) second)

-- ---- what standard error gets

pub notes_none : (view : View) (e : Option (List ℕ)) → Notes view e e
notes_none View.Plain e = Keeps-refl e
notes_none View.Table e = writes_nothing e
notes_none View.Json e = Keeps-refl e

pub notes_more : (view : View) (e f g : Option (List ℕ)) → Notes view e f → Notes view f g → Notes view e g
notes_more View.Plain e f g kept still = Keeps-trans e f g kept still
notes_more View.Table e f g some more = writes_more e f g some more
notes_more View.Json e f g kept still = Keeps-trans e f g kept still

pub notes_some : (view : View) (e f : Option (List ℕ)) → Notes view e f → WritesSome e f
notes_some View.Plain e f kept = keeps_some e f kept
notes_some View.Table e f some = some
notes_some View.Json e f kept = keeps_some e f kept

pub notes_kept : (view : View) (e f : Option (List ℕ)) → Keeps e f → Notes view e f
notes_kept View.Plain e f kept = kept
notes_kept View.Table e f kept = keeps_some e f kept
notes_kept View.Json e f kept = kept

-- ---- one pair after the other

-- the matches of the pairs before those that are left were fought, in a field of n
pub record SoFar (s : RawSettings) (plan : Plan) (entrants : List Entrant) (n : ℕ) (left : PairsOfPart) (standings : StandingsParts) (kept : List ℕ) (o p : Option (List ℕ)) : Type 0 where
  pub done : List Pair
  pub split : pairs_fought plan n ≡ done ++ part_left left
  pub counts : AreOf (pair_tally s plan.terms.both entrants) n done standings
  pub lines : kept ≡ kept_lines s plan entrants done
  pub written : Appends o p (pair_lines s plan.terms entrants done)
  pub next : IsNext left.left
  pub places : left.left.places ≡ n
  pub most : length (pairs_fought plan n) ≤ most_matches

module _ (s : RawSettings) (plan : Plan) (entrants : List Entrant) (n : ℕ) where
  pub none_so_far : (left : PairsOfPart) (standings : StandingsParts) (kept : List ℕ) (o : Option (List ℕ)) → part_left left ≡ pairs_fought plan n → IsNext left.left
      → left.left.places ≡ n → length (pairs_fought plan n) ≤ most_matches → AreOf (pair_tally s plan.terms.both entrants) n [] standings → kept ≡ []
      → SoFar s plan entrants n left standings kept o o
  none_so_far left standings kept o all next places most are none =
      record { done = []; split = sym all; counts = are; lines = none; written = Appends-nil o; next = next; places = places; most = most }

  one_line : (f : Pair → List ℕ) (done : List Pair) (p : Pair) → flat_map f done ++ f p ≡ flat_map f (done ++ p ∷ [])
  one_line f done p = ap (λ l. flat_map f done ++ l) (sym (append-nil (f p))) ∙ sym (flat_map-append f done (p ∷ []))

  line_more : (done : List Pair) (p : Pair) → pair_lines s plan.terms entrants done ++ pair_line s plan.terms entrants p ≡ pair_lines s plan.terms entrants (done ++ p ∷ [])
  line_more done p = one_line (pair_line s plan.terms entrants) done p

  module _ (left new : PairsOfPart) (p : Pair) (standings : StandingsParts) (kept : List ℕ) (o q r : Option (List ℕ)) (so_far : SoFar s plan entrants n left standings kept o q)
      (first : part_left left ≡ p ∷ part_left new) where
    split_more : pairs_fought plan n ≡ (so_far.done ++ p ∷ []) ++ part_left new
    split_more = so_far.split ∙ ap (λ l. so_far.done ++ l) first ∙ sym (append_assoc so_far.done (p ∷ []) (part_left new))

    -- there is room for its match
    pub room : standings.matches < most_matches
    room =
        let all : length (pairs_fought plan n) ≡ length so_far.done + length (p ∷ part_left new) = ap (λ l. length l) so_far.split
        ∙ ap (λ l. length (so_far.done ++ l)) first ∙ length-append so_far.done (p ∷ part_left new) in
        omega (arith, so_far.most, so_far.counts.matches, all)

    pub one_more : (after : StandingsParts) (lines : List ℕ) → IsNext new.left → new.left.places ≡ left.left.places
        → ((ps : List Pair) → AreOf (pair_tally s plan.terms.both entrants) n ps standings → AreOf (pair_tally s plan.terms.both entrants) n (ps ++ p ∷ []) after)
        → lines ≡ kept ++ kept_line s plan entrants p → Appends q r (pair_line s plan.terms entrants p) → SoFar s plan entrants n new after lines o r
    one_more after lines next places adds keeps written = record {
      done = so_far.done ++ p ∷ [];
      split = split_more;
      counts = adds so_far.done so_far.counts;
      lines = keeps ∙ ap (λ l. l ++ kept_line s plan entrants p) so_far.lines ∙ one_line (kept_line s plan entrants) so_far.done p;
      written = subst (Appends o r) (line_more so_far.done p) (Appends-trans o q r (pair_lines s plan.terms entrants so_far.done) (pair_line s plan.terms entrants p) so_far.written written);
      next = next;
      places = places ∙ so_far.places;
      most = so_far.most;
    }

    -- a part of its line was written
    pub begun : WritesPart q r (pair_line s plan.terms entrants p) → WritesPart o r (pair_lines s plan.terms entrants (pairs_fought plan n))
    begun part =
        let lines = pair_lines s plan.terms entrants so_far.done in
        let line = pair_line s plan.terms entrants p in
        let rest = pair_lines s plan.terms entrants (part_left new) in
        let all : (lines ++ line) ++ rest ≡ pair_lines s plan.terms entrants (pairs_fought plan n) = ap (λ l. l ++ rest) (line_more so_far.done p)
        ∙ sym (flat_map-append (pair_line s plan.terms entrants) (so_far.done ++ p ∷ []) (part_left new)) ∙ ap (pair_lines s plan.terms entrants) (sym split_more) in
        subst (WritesPart o r) all (in_longer o r (lines ++ line) rest (behind o q r lines line so_far.written part))

-- a word after other text
pub told_behind : (word : List ℕ) (view : View) (b e f : Option (List ℕ)) → Notes view b e → TellsWord word e f → TellsAfter word b f
told_behind word view b e f notes told = (e, notes_some view b e notes, told)

module _ (s : RawSettings) (plan : Plan) (entrants : List Entrant) (n : ℕ) (many : length entrants ≡ n) where
  -- how the matches end after the last one
  pub ends_all : (left : PairsOfPart) (standings : StandingsParts) (kept : List ℕ) (o q e f : Option (List ℕ)) → SoFar s plan entrants n left standings kept o q → part_left left ≡ []
      → Notes plan.terms.view e f → EndsMatches s plan entrants standings kept Status.Done o q e f
  ends_all left standings kept o q e f so_far none notes =
      let all : pairs_fought plan n ≡ so_far.done = so_far.split ∙ ap (λ l. so_far.done ++ l) none ∙ append-nil so_far.done in
      subst (λ m. AreOf (pair_tally s plan.terms.both entrants) m (pairs_fought plan m) standings × (kept ≡ kept_lines s plan entrants (pairs_fought plan m))
      × Appends o q (pair_lines s plan.terms entrants (pairs_fought plan m)) × Notes plan.terms.view e f) (sym many) (
        subst (λ l. AreOf (pair_tally s plan.terms.both entrants) n l standings) (sym all) so_far.counts,
        so_far.lines ∙ ap (kept_lines s plan entrants) (sym all),
        subst (λ l. Appends o q (pair_lines s plan.terms entrants l)) (sym all) so_far.written,
        notes,
      )

  -- and if the match of a pair ended all
  module _ (left new : PairsOfPart) (p : Pair) (standings after : StandingsParts) (kept lines : List ℕ) (o q r b e f : Option (List ℕ)) (so_far : SoFar s plan entrants n left standings kept o q)
      (first : part_left left ≡ p ∷ part_left new) (notes : Notes plan.terms.view b e) where
    part : WritesPart q r (pair_line s plan.terms entrants p) → WritesPart o r (pair_lines s plan.terms entrants (pairs_fought plan (length entrants)))
    part is = subst (λ m. WritesPart o r (pair_lines s plan.terms entrants (pairs_fought plan m))) (sym many) (begun s plan entrants n left new p standings kept o q r so_far first is)

    pub ends_early : (end : Status) → (end ≡ Status.Done → ⊥) → EndsLine (pair_line s plan.terms entrants p) end q r e f → EndsMatches s plan entrants after lines end o r b f
    ends_early Status.Done other ends = absurd (other refl)
    ends_early Status.StreamFault other (written, told) = (part written, told_behind _ plan.terms.view b e f notes told)
    ends_early Status.NoMemory other (same, told) = (part (kept_part q r _ same), told_behind _ plan.terms.view b e f notes told)
    ends_early end other ends = absurd ends

-- memory ran out before the first match
pub no_arena : (s : RawSettings) (plan : Plan) (entrants : List Entrant) (standings : StandingsParts) (kept : List ℕ) (trouble : Trouble) (end : Status) (o e f : Option (List ℕ))
    → trouble ≡ no_memory → Tells trouble end e f → EndsMatches s plan entrants standings kept end o o e f
no_arena s plan entrants standings kept trouble end o e f is told =
    let so = subst (λ t. Tells t end e f) is told in
    subst (λ t. EndsMatches s plan entrants standings kept t o o e f) (sym so.ends) (kept_part o o _ (Keeps-refl o), (e, writes_nothing e, so.word))

-- memory ran out before a line
pub no_line : (text : List ℕ) (trouble : Trouble) (end : Status) (o e f : Option (List ℕ)) → trouble ≡ no_memory → Tells trouble end e f → EndsLine text end o o e f
no_line text trouble end o e f is told =
    let so = subst (λ t. Tells t end e f) is told in
    subst (λ t. EndsLine text t o o e f) (sym so.ends) (Keeps-refl o, so.word)

-- and then not all is done
pub memory_not_done : {X : Type 0} (trouble : Trouble) (end : Status) (e f : Option (List ℕ)) → trouble ≡ no_memory → Tells trouble end e f → end ≡ Status.Done → X
memory_not_done trouble end e f is told done =
    let so = subst (λ t. Tells t end e f) is told in
    let ends : end ≡ Status.NoMemory = so.ends in
    cc
