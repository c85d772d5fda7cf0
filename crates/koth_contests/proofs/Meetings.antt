-- Opponents that were met, one after the other.
use Rattle.std.proofs.Common.{◌≡◌, ℕ, ◌+◌, ◌<◌, ◌≤◌, Bool, true, false, ◌&&◌, List, [], ◌∷◌, ◌++◌, map, length, take, drop, get_or, All, Option, None, Some, refl, sym, ap, ap₂, subst, ◌∙◌, append-nil, append_assoc, arith, string_bytes, take-append-drop}
use Rattle.{std.specs.{Io.KnownBytes.{Appends, Keeps}}, std.proofs.{KnownBytes.{Appends-trans, Keeps-refl, Keeps-trans}, lemmas.{List.{get_or-map, length-map, map_push, take_all, take_more}, List.Sums.sum_by_push}}}
use Rattle.std.proofs.lemmas.List.{Concat.flat_map-append, Elements.{All-nil, All-push}, Folds.list_all-append}
use Rattle.{war_types.specs.{declared.settings.RawSettings.RawSettings}, koth_text.specs.{Written.WritesPart, declared.tally.Tally.Tally}, koth_words.specs.declared.requests.View.View}
use Rattle.koth_commands.specs.{Told.{WritesSome}, Trouble.{Tells, no_memory}, declared.{status.Status.Status, trouble.{Trouble.Trouble}}}
use Rattle.koth_commands.proofs.Told.{behind, in_longer, keeps_some, kept_part, nothing_more, writes_more}
use Rattle.koth_contests.specs.{Contest.{added, contest_tally, no_rounds, tally}, Lines.{Entrant, contender, heading, sum_line}, Opponents.names_of, declared.{meeting.Terms.Terms, opponents.Opponent.Opponent}}
use Rattle.koth_contests.specs.Met.{EndsLine, EndsMeetings, IsBegun, IsContest, IsMet, Meets, Met, Notes, WritesBegun}
use Rattle.koth_contests.specs.Met.{all_fought, contest_text, count_of, is_fought, met, met_count, met_line, met_lines, met_sum, tally_against}

-- how it ends if no opponent comes after those that were met
abbrev pub status_of : Bool → Status
status_of true = Status.Done
status_of false = Status.Refused

abbrev lines_of : RawSettings → Terms → Entrant → List Met → List ℕ
lines_of s terms mine ms = heading terms.view ++ met_lines s terms mine ms

-- the opponents of the first `place` files were met
pub record SoFar (s : RawSettings) (terms : Terms) (mine : Entrant) (files : List (List ℕ)) (place : ℕ) (status : Status) (fought : ℕ) (sum : Tally) (o p : Option (List ℕ)) : Type 0 where
  pub opponents : List Met
  pub named : map (λ (m : Met). m.file) opponents ≡ take place files
  pub come : All (IsMet s) opponents
  pub ends : status ≡ status_of (all_fought opponents)
  pub counts : fought ≡ met_count opponents
  pub sums : sum ≡ met_sum s terms.both mine opponents
  pub written : Appends o p (lines_of s terms mine opponents)

module _ (s : RawSettings) (terms : Terms) (mine : Entrant) where
  pub none_so_far : (files : List (List ℕ)) (o p : Option (List ℕ)) → Appends o p (heading terms.view)
      → SoFar s terms mine files 0 Status.Done 0 (tally 0 0 0) o p
  none_so_far files o p written = record {
    opponents = [];
    named = refl;
    come = All-nil (IsMet s);
    ends = refl;
    counts = refl;
    sums = refl;
    written = subst (Appends o p) (sym (append-nil (heading terms.view))) written;
  }

  -- ---- one opponent more

  more_lines : (ms : List Met) (m : Met) → lines_of s terms mine ms ++ met_line s terms mine m ≡ lines_of s terms mine (ms ++ m ∷ [])
  more_lines ms m =
      append_assoc (heading terms.view) (met_lines s terms mine ms) (met_line s terms mine m)
      ∙ ap (λ l. heading terms.view ++ (met_lines s terms mine ms ++ l)) (sym (append-nil (met_line s terms mine m)))
      ∙ ap (λ l. heading terms.view ++ l) (sym (flat_map-append (met_line s terms mine) ms (m ∷ [])))

  more_count : (ms : List Met) (m : Met) → met_count ms + count_of m.warrior ≡ met_count (ms ++ m ∷ [])
  more_count ms m = sym (sum_by_push (λ (x : Met). count_of x.warrior) ms m)

  none_counted : (ms : List Met) (file : List ℕ) → met_count ms ≡ met_count (ms ++ met file None ∷ [])
  none_counted ms file =
      let same : met_count ms ≡ met_count ms + 0 = omega arith in
      same ∙ more_count ms (met file None)

  more_sum : (ms : List Met) (m : Met) → added (met_sum s terms.both mine ms) (tally_against s terms.both mine m.warrior) ≡ met_sum s terms.both mine (ms ++ m ∷ [])
  more_sum ms m =
      let won = sum_by_push (λ (x : Met). (tally_against s terms.both mine x.warrior).won) ms m in
      let lost = sum_by_push (λ (x : Met). (tally_against s terms.both mine x.warrior).lost) ms m in
      let tied = sum_by_push (λ (x : Met). (tally_against s terms.both mine x.warrior).tied) ms m in
      cc

  more_named : (files : List (List ℕ)) (place : ℕ) (ms : List Met) (m : Met) → place < length files → m.file ≡ get_or files place []
      → map (λ (x : Met). x.file) ms ≡ take place files → map (λ (x : Met). x.file) (ms ++ m ∷ []) ≡ take (place + 1) files
  more_named files place ms m within is named =
      map_push (λ (x : Met). x.file) ms m ∙ ap (λ l. l ++ m.file ∷ []) named ∙ ap (λ f. take place files ++ f ∷ []) is
      ∙ sym (take_more files place [] within)

  and_true : (b : Bool) → (b && (true && true)) ≡ b
  and_true true = refl
  and_true false = refl

  and_false : (b : Bool) → (b && (false && true)) ≡ false
  and_false true = refl
  and_false false = refl

  all_more : (ms : List Met) (m : Met) → all_fought (ms ++ m ∷ []) ≡ (all_fought ms && (is_fought m.warrior && true))
  all_more ms m = list_all-append (λ (x : Met). is_fought x.warrior) ms (m ∷ [])

  zero_added : (won lost tied : ℕ) → added (tally won lost tied) no_rounds ≡ tally won lost tied
  zero_added won lost tied =
      let same_won : won + 0 ≡ won = omega arith in
      let same_lost : lost + 0 ≡ lost = omega arith in
      let same_tied : tied + 0 ≡ tied = omega arith in
      cc

  more_none : (ms : List Met) (file : List ℕ) → met_sum s terms.both mine ms ≡ met_sum s terms.both mine (ms ++ met file None ∷ [])
  more_none ms file = sym (zero_added _ _ _) ∙ more_sum ms (met file None)

  -- ---- it ends early

  begun : (files : List (List ℕ)) (place : ℕ) (ms : List Met) → map (λ (m : Met). m.file) ms ≡ take place files → All (IsMet s) ms
      → IsBegun s terms mine files (contest_text s terms mine ms)
  begun files place ms named come = record {
    opponents = ms;
    rest = drop place files;
    named = ap (λ l. l ++ drop place files) named ∙ take-append-drop place files;
    come = come;
    tells = refl;
  }

  part_of_text : (ms : List Met) (o p : Option (List ℕ)) → WritesPart o p (lines_of s terms mine ms) → WritesPart o p (contest_text s terms mine ms)
  part_of_text ms o p part =
      let sum = sum_line terms.view (contender mine) (met_count ms) (met_sum s terms.both mine ms) in
      subst (WritesPart o p) (append_assoc (heading terms.view) (met_lines s terms mine ms) sum) (in_longer o p (lines_of s terms mine ms) sum part)

  lines_part : (ms : List Met) (o p q : Option (List ℕ)) → Appends o p (lines_of s terms mine ms) → Keeps p q → WritesPart o q (lines_of s terms mine ms)
  lines_part ms o p q written kept =
      subst (WritesPart o q) (append-nil (lines_of s terms mine ms)) (behind o p q (lines_of s terms mine ms) [] written (kept_part p q [] kept))

  module _ (files : List (List ℕ)) (place : ℕ) (status : Status) (fought : ℕ) (sum new : Tally) (o p q e f : Option (List ℕ)) (file : List ℕ)
      (within : place < length files) (is : file ≡ get_or files place []) (so_far : SoFar s terms mine files place status fought sum o p) where
    -- it was fought
    pub one_fought : Meets s terms mine file sum new Status.Done p q e f → SoFar s terms mine files (place + 1) status (fought + 1) new o q
    one_fought (other, comes, adds, written, kept) =
        let ms = so_far.opponents in
        let m = met file (Some other) in
        record {
          opponents = ms ++ m ∷ [];
          named = more_named files place ms m within is so_far.named;
          come = All-push (IsMet s) ms m so_far.come comes;
          ends = so_far.ends ∙ ap status_of (sym (all_more ms m ∙ and_true (all_fought ms)));
          counts = ap (λ n. n + 1) so_far.counts ∙ more_count ms m;
          sums = adds ∙ ap (λ t. added t (contest_tally s terms.both mine.warrior other)) so_far.sums ∙ more_sum ms m;
          written = subst (Appends o q) (more_lines ms m) (Appends-trans o p q (lines_of s terms mine ms) (met_line s terms mine m) so_far.written written);
        }

    -- it has no warrior
    pub one_missing : Meets s terms mine file sum new Status.Refused p q e f → SoFar s terms mine files (place + 1) Status.Refused fought new o q
    one_missing (same, kept, told) =
        let ms = so_far.opponents in
        let m = met file None in
        record {
          opponents = ms ++ m ∷ [];
          named = more_named files place ms m within is so_far.named;
          come = All-push (IsMet s) ms m so_far.come tt;
          ends = ap status_of (sym (all_more ms m ∙ and_false (all_fought ms)));
          counts = so_far.counts ∙ none_counted ms file;
          sums = same ∙ so_far.sums ∙ more_none ms file;
          written = subst (Appends o q) (more_lines ms m) (Appends-trans o p q (lines_of s terms mine ms) [] so_far.written (nothing_more p q kept));
        }

    -- the output failed while its line was written
    pub one_failed : Meets s terms mine file sum new Status.StreamFault p q e f → (g : Option (List ℕ)) → WritesSome g e
        → EndsMeetings s terms mine files Status.StreamFault o q g f
    one_failed (other, comes, part, told) g some =
        let ms = so_far.opponents in
        let m = met file (Some other) in
        let lines = behind o p q (lines_of s terms mine ms) (met_line s terms mine m) so_far.written part in (
          (
            contest_text s terms mine (ms ++ m ∷ []),
            begun files (place + 1) (ms ++ m ∷ []) (more_named files place ms m within is so_far.named) (All-push (IsMet s) ms m so_far.come comes),
            part_of_text (ms ++ m ∷ []) o q (subst (WritesPart o q) (more_lines ms m) lines),
          ),
          (e, some, told),
        )

    -- memory ran out before its line was written
    pub one_lost : Meets s terms mine file sum new Status.NoMemory p q e f → (g : Option (List ℕ)) → WritesSome g e
        → EndsMeetings s terms mine files Status.NoMemory o q g f
    one_lost (kept, told) g some =
        let ms = so_far.opponents in (
          (contest_text s terms mine ms, begun files place ms so_far.named so_far.come, part_of_text ms o q (lines_part ms o p q so_far.written kept)),
          (e, some, told),
        )

-- ---- standard error

-- what standard error got while opponents were met
abbrev pub NotesSo : View → Status → Option (List ℕ) → Option (List ℕ) → Type 0
NotesSo view Status.Done e f = Notes view e f
NotesSo view status e f = WritesSome e f

pub notes_some : (view : View) (e f : Option (List ℕ)) → Notes view e f → WritesSome e f
notes_some View.Plain e f kept = keeps_some e f kept
notes_some View.Table e f some = some
notes_some View.Json e f kept = keeps_some e f kept

notes_more : (view : View) (e f g : Option (List ℕ)) → Notes view e f → Notes view f g → Notes view e g
notes_more View.Plain e f g kept still = Keeps-trans e f g kept still
notes_more View.Table e f g some more = writes_more e f g some more
notes_more View.Json e f g kept still = Keeps-trans e f g kept still

pub kept_notes : (view : View) (e f : Option (List ℕ)) → Keeps e f → Notes view e f
kept_notes View.Plain e f kept = kept
kept_notes View.Table e f kept = keeps_some e f kept
kept_notes View.Json e f kept = kept

pub some_so_far : (view : View) (status : Status) (e f : Option (List ℕ)) → NotesSo view status e f → WritesSome e f
some_so_far view Status.Done e f notes = notes_some view e f notes
some_so_far view status e f some = some

module _ (view : View) (status : Status) (e f g h : Option (List ℕ)) (notes : NotesSo view status e f) (progress : Notes view f g) where
  pub some_before : WritesSome e g
  some_before = writes_more e f g (some_so_far view status e f notes) (notes_some view f g progress)

  pub some_more : WritesSome g h → WritesSome e h
  some_more more = writes_more e g h some_before more

pub notes_kept : (view : View) (status : Status) (e f g h : Option (List ℕ)) → NotesSo view status e f → Notes view f g → Keeps g h → NotesSo view status e h
notes_kept view Status.Done e f g h notes progress kept = notes_more view e f h notes (notes_more view f g h progress (kept_notes view g h kept))
notes_kept view status e f g h some progress kept =
    writes_more e g h (writes_more e f g some (notes_some view f g progress)) (keeps_some g h kept)

-- ---- the end

module _ (s : RawSettings) (terms : Terms) (mine : Entrant) (files : List (List ℕ)) (place : ℕ) (status : Status) (fought : ℕ) (sum : Tally) (o p q e f g : Option (List ℕ))
    (so_far : SoFar s terms mine files place status fought sum o p) (notes : NotesSo terms.view status e f) where
  -- the last line is the line of all that were met
  sum_is : sum_line terms.view (contender mine) fought sum
      ≡ sum_line terms.view (contender mine) (met_count so_far.opponents) (met_sum s terms.both mine so_far.opponents)
  sum_is = ap₂ (sum_line terms.view (contender mine)) so_far.counts so_far.sums

  all_written : Appends p q (sum_line terms.view (contender mine) fought sum) → Appends o q (contest_text s terms mine so_far.opponents)
  all_written written =
      let ms = so_far.opponents in
      let line = sum_line terms.view (contender mine) (met_count ms) (met_sum s terms.both mine ms) in
      subst (Appends o q) (append_assoc (heading terms.view) (met_lines s terms mine ms) line)
      (Appends-trans o p q (lines_of s terms mine ms) line so_far.written (subst (Appends p q) sum_is written))

  contest : length files ≤ place → (whole : Bool) → whole ≡ all_fought so_far.opponents → IsContest s terms mine files whole (contest_text s terms mine so_far.opponents)
  contest past whole is = record {
    opponents = so_far.opponents;
    named = so_far.named ∙ take_all place files past;
    come = so_far.come;
    all = is;
    tells = refl;
  }

  ends_as : length files ≤ place → Appends p q (sum_line terms.view (contender mine) fought sum) → Keeps f g → (whole : Bool) → whole ≡ all_fought so_far.opponents
      → status ≡ status_of whole → EndsMeetings s terms mine files status o q e g
  ends_as past written kept true is ends =
      let so : NotesSo terms.view Status.Done e f = subst (λ t. NotesSo terms.view t e f) ends notes in
      subst (λ t. EndsMeetings s terms mine files t o q e g) (sym ends)
      ((_, contest past true is, all_written written), notes_more terms.view e f g so (kept_notes terms.view f g kept))
  ends_as past written kept false is ends =
      let so : WritesSome e f = some_so_far terms.view status e f notes in
      subst (λ t. EndsMeetings s terms mine files t o q e g) (sym ends)
      ((_, contest past false is, all_written written), writes_more e f g so (keeps_some f g kept))

  -- the last line was written
  pub all_met : length files ≤ place → EndsLine (sum_line terms.view (contender mine) fought sum) Status.Done p q f g → EndsMeetings s terms mine files status o q e g
  all_met past (written, kept) = ends_as past written kept (all_fought so_far.opponents) refl so_far.ends

  sum_part : WritesPart p q (sum_line terms.view (contender mine) fought sum) → WritesBegun s terms mine files o q
  sum_part part =
      let ms = so_far.opponents in
      let line = sum_line terms.view (contender mine) (met_count ms) (met_sum s terms.both mine ms) in (
        contest_text s terms mine ms,
        begun s terms mine files place ms so_far.named so_far.come,
        subst (WritesPart o q) (append_assoc (heading terms.view) (met_lines s terms mine ms) line)
            (behind o p q (lines_of s terms mine ms) line so_far.written (subst (WritesPart p q) sum_is part)),
      )

  -- the last line was not written, or only a part of it
  pub sum_failed : (end : Status) → (end ≡ Status.Done → ⊥) → EndsLine (sum_line terms.view (contender mine) fought sum) end p q f g → EndsMeetings s terms mine files end o q e g
  sum_failed Status.Done other ends = absurd (other refl)
  sum_failed Status.StreamFault other (part, told) = (sum_part part, (f, some_so_far terms.view status e f notes, told))
  sum_failed Status.NoMemory other (kept, told) = (sum_part (kept_part p q _ kept), (f, some_so_far terms.view status e f notes, told))
  sum_failed end other ends = absurd ends

module _ (s : RawSettings) (terms : Terms) (mine : Entrant) (files : List (List ℕ)) where
  heading_part : (o p : Option (List ℕ)) → WritesPart o p (heading terms.view) → WritesBegun s terms mine files o p
  heading_part o p part = (
    contest_text s terms mine [],
    begun s terms mine files 0 [] refl (All-nil (IsMet s)),
    in_longer o p (heading terms.view) (sum_line terms.view (contender mine) 0 (tally 0 0 0)) part,
  )

  -- the heading was not written, or only a part of it
  pub not_begun : (end : Status) (o p e f : Option (List ℕ)) → (end ≡ Status.Done → ⊥) → EndsLine (heading terms.view) end o p e f
      → EndsMeetings s terms mine files end o p e f
  not_begun Status.Done o p e f other ends = absurd (other refl)
  not_begun Status.StreamFault o p e f other (part, told) = (heading_part o p part, (e, keeps_some e e (Keeps-refl e), told))
  not_begun Status.NoMemory o p e f other (kept, told) = (heading_part o p (kept_part o p _ kept), (e, keeps_some e e (Keeps-refl e), told))
  not_begun end o p e f other ends = absurd ends

-- memory ran out before the heading was written
pub no_arena : (s : RawSettings) (terms : Terms) (mine : Entrant) (files : List (List ℕ)) (trouble : Trouble) (end : Status) (o e f : Option (List ℕ))
    → trouble ≡ no_memory → Tells trouble end e f → EndsMeetings s terms mine files end o o e f
no_arena s terms mine files trouble end o e f is told =
    let so = subst (λ t. Tells t end e f) is told in
    let lost : Status.NoMemory ≡ Status.Done → ⊥ = λ same. cc in
    subst (λ t. EndsMeetings s terms mine files t o o e f) (sym so.ends)
    (not_begun s terms mine files Status.NoMemory o o e f lost (Keeps-refl o, so.word))

-- the meeting with the next opponent ended all
pub meeting_failed : (s : RawSettings) (terms : Terms) (mine : Entrant) (files : List (List ℕ)) (place : ℕ) (status end : Status) (fought : ℕ)
    (sum new : Tally) (o p q e f g : Option (List ℕ)) (file : List ℕ) → place < length files → file ≡ get_or files place [] → SoFar s terms mine files place status fought sum o p
    → (end ≡ Status.Done → ⊥) → (end ≡ Status.Refused → ⊥) → Meets s terms mine file sum new end p q e f → WritesSome g e
    → EndsMeetings s terms mine files end o q g f
meeting_failed s terms mine files place status Status.Done fought sum new o p q e f g file within is so_far done refused meets some = absurd (done refl)
meeting_failed s terms mine files place status Status.Refused fought sum new o p q e f g file within is so_far done refused meets some = absurd (refused refl)
meeting_failed s terms mine files place status Status.WordFault fought sum new o p q e f g file within is so_far done refused meets some = absurd meets
meeting_failed s terms mine files place status Status.StreamFault fought sum new o p q e f g file within is so_far done refused meets some =
    one_failed s terms mine files place status fought sum new o p q e f file within is so_far meets g some
meeting_failed s terms mine files place status Status.NoMemory fought sum new o p q e f g file within is so_far done refused meets some =
    one_lost s terms mine files place status fought sum new o p q e f file within is so_far meets g some

-- ---- the names of opponents

module _ {A : Type 0} (opponents : List (Opponent A)) where
  pub as_many : length (names_of opponents) ≡ length opponents
  as_many = length-map opponents (λ (o : Opponent A). string_bytes o.name)

  pub named_here : (place : ℕ) (here : Opponent A) → place < length opponents → here ≡ get_or opponents place here
      → string_bytes here.name ≡ get_or (names_of opponents) place []
  named_here place here within is =
      ap (λ (o : Opponent A). string_bytes o.name) is ∙ sym (get_or-map (λ (o : Opponent A). string_bytes o.name) opponents place here [] within)
