-- The table after the matches, and how the command ends: for `table` and `rank`.
use Rattle.std.proofs.Common.{◌≡◌, inl, inr, ℕ, ◌+◌, ◌<◌, suc, true, false, List, [], ◌++◌, length, take, get_or, All, Option, None, Some, Result, Ok, Err, IfOk, Vec, refl, sym, ap, ap₂, subst, ◌∙◌, append-nil, arith}
use Rattle.std.{specs.{Io.KnownBytes.{Appends}, List.{range_with_len}}, proofs.{KnownBytes.{Appends-trans, Keeps-refl}, lemmas.List.{Elements.All-from_get_or, FromFn.{get_or-range_with_len, length-range_with_len}, Sorted.All-permutation}}}
use Rattle.{war_types.specs.declared.settings.RawSettings.RawSettings, koth_text.{specs.{Written.WritesPart, declared.tally.Tally.Tally}, proofs.Steps.{next_ranked, put_behind}}}
use Rattle.{koth_json.specs.Contest.ContenderParts, koth_words.specs.declared.requests.{Part.Part, Source.Source, View.View}, koth_commands.{specs.{Told.WritesSome, Trouble.{Tells, no_memory}, declared.{status.Status.Status, trouble.{Trouble.Trouble}}}, proofs.Told.{behind, keeps_some, kept_part, writes_more, writes_nothing}}}
use Rattle.koth_contests.specs.{Lines.Entrant, Met.{EndsLine, EndsMade, Notes, TellsAfter}}
use Rattle.{koth_field.specs.Field.{EndsField}, koth_standings.specs.{PartText.part_text, Ranking.IsRanking, Standings.{AreOf, StandingsParts, at_place}}}
use Rattle.koth_rank.specs.{Matches.{EndsMatches, kept_lines, pair_lines, pair_tally, pairs_fought}, Part.field_part, Rank.{EndsRankUnder, EndsSources, refused_after}}
use Rattle.koth_rank.specs.{Table.{EndsTable, IsTableOf, IsText, IsTold, contender_at, contenders_of, heading, line_at, matches_heading, ranked_line, ranked_lines}, declared.plan.Plan.Plan}
use Rattle.koth_rank.proofs.Fought.{notes_kept, notes_more, notes_some, told_behind}

-- ---- the places of a ranking are those of the field

below_range : (n : ℕ) → All (λ (p : ℕ). p < n) (range_with_len 0 n)
below_range n = All-from_get_or (λ (p : ℕ). p < n) (range_with_len 0 n) 0
    (λ i within.
    let below : i < n = omega (arith, within, length-range_with_len 0 n) in
    let is : get_or (range_with_len 0 n) i 0 ≡ 0 + i = get_or-range_with_len 0 n i 0 below in
    omega (arith, below, is))

pub within_field : (counts : List Tally) (ranked : List ℕ) (n : ℕ) → length counts ≡ n → IsRanking counts ranked → All (λ (p : ℕ). p < n) ranked
within_field counts ranked n many is =
    subst (λ m. All (λ (p : ℕ). p < m) ranked) many
    (All-permutation (λ (p : ℕ). p < length counts) (range_with_len 0 (length counts)) ranked is.each (below_range (length counts)))

-- ---- one line more

pub line_more : (view : View) (contenders : List ContenderParts) (counts : List Tally) (ranked : List ℕ) (i place : ℕ) → i < length ranked → place ≡ get_or ranked i place
    → ranked_lines view contenders counts (take (i + 1) ranked) ≡ ranked_lines view contenders counts (take i ranked) ++ line_at view contenders counts (i + 1) place
line_more view contenders counts ranked i place below is =
    let f = λ (p : ℕ × ℕ). line_at view contenders counts p.0 p.1 in
    let same : i + 1 ≡ suc i = omega arith in
    let rank : 1 + i ≡ i + 1 = omega arith in
    ap (λ n. ranked_lines view contenders counts (take n ranked)) same ∙ next_ranked f 1 ranked i place below
    ∙ ap (λ l. ranked_lines view contenders counts (take i ranked) ++ l) (ap₂ (λ n p. line_at view contenders counts n p) rank (sym is))

-- the line of the warrior at the next place was put
pub put_line_more : (view : View) (contenders : List ContenderParts) (counts : List Tally) (ranked : List ℕ) (i place : ℕ) (c : ContenderParts) (t : Tally)
    (start now new : List ℕ) → i < length ranked → place ≡ get_or ranked i place → c ≡ contender_at contenders place
    → t ≡ at_place counts place → now ≡ start ++ ranked_lines view contenders counts (take i ranked) → new ≡ now ++ ranked_line view (i + 1) c t
    → new ≡ start ++ ranked_lines view contenders counts (take (i + 1) ranked)
put_line_more view contenders counts ranked i place c t start now new below is told counted so_far put =
    put_behind start (ranked_lines view contenders counts (take i ranked)) (line_at view contenders counts (i + 1) place) (ranked_lines view contenders counts (take (i + 1) ranked)) now new so_far
    (put ∙ ap (λ l. now ++ l) (ap₂ (λ a b. ranked_line view (i + 1) a b) told counted))
    (line_more view contenders counts ranked i place below is)

-- the table was made of the ranked places
pub tabled : {A E : Type 0} (view : View) (contenders : List ContenderParts) (counts : List Tally) (ranked slice : List ℕ) (r : Result (Vec ℕ A) E) → IsRanking counts ranked
    → slice ≡ ranked → IfOk r (λ text. text.items ≡ heading view ++ ranked_lines view contenders counts slice) → IfOk r (λ text. IsTableOf view contenders counts text.items)
tabled view contenders counts ranked slice (Ok text) ranks same tells =
    record { ranked = ranked; ranks = ranks; tells = tells ∙ ap (λ l. heading view ++ ranked_lines view contenders counts l) same }
tabled view contenders counts ranked slice (Err error) ranks same tells = tt

-- ---- the text of a field

module _ (s : RawSettings) (plan : Plan) (entrants : List Entrant) where
  text_is : (told : List ℕ) → IsTold plan.share s plan entrants told → IsText s plan entrants (pair_lines s plan.terms entrants (pairs_fought plan (length entrants)) ++ told)
  text_is told is = (told, is, refl)

  module _ (o p q b e f : Option (List ℕ)) (fought : Appends o p (pair_lines s plan.terms entrants (pairs_fought plan (length entrants)))) (notes : Notes plan.terms.view b e) where
    ends_text : (told : List ℕ) → IsTold plan.share s plan entrants told → (end : Status) → EndsLine told end p q e f → EndsTable s plan entrants end o q b f
    ends_text told is Status.Done (written, same) = ((_, text_is told is, Appends-trans o p q _ told fought written), notes_more plan.terms.view b e f notes (notes_kept plan.terms.view e f same))
    ends_text told is Status.StreamFault (part, word) = (inr (_, text_is told is, behind o p q _ told fought part), told_behind _ plan.terms.view b e f notes word)
    ends_text told is Status.NoMemory (same, word) =
        (inr (_, text_is told is, behind o p q _ told fought (kept_part p q told same)), told_behind _ plan.terms.view b e f notes word)
    ends_text told is end ends = absurd ends

    -- the table was written after the matches, if there was memory for it
    pub ends_table : {A E : Type 0} (made : Result (Vec ℕ A) E) (end : Status) → IfOk made (λ t. IsTold plan.share s plan entrants t.items)
        → EndsMade made end p q e f → EndsTable s plan entrants end o q b f
    ends_table (Ok t) end is ends = ends_text t.items is end ends
    ends_table (Err error) end is (memory, same, word) =
        subst (λ t. EndsTable s plan entrants t o q b f) (sym memory)
        (inl (subst (WritesPart o q) (append-nil _) (behind o p q _ [] fought (kept_part p q [] same))), told_behind _ plan.terms.view b e f notes word)

  -- the matches ended all
  pub matches_failed : (standings : StandingsParts) (kept : List ℕ) (end : Status) (o p e f : Option (List ℕ)) → (end ≡ Status.Done → ⊥)
      → EndsMatches s plan entrants standings kept end o p e f → EndsTable s plan entrants end o p e f
  matches_failed standings kept Status.Done o p e f other ends = absurd (other refl)
  matches_failed standings kept Status.StreamFault o p e f other (part, told) = (inl part, told)
  matches_failed standings kept Status.NoMemory o p e f other (part, told) = (inl part, told)
  matches_failed standings kept end o p e f other ends = absurd ends

  -- memory ran out before the first match
  pub no_standings : (trouble : Trouble) (end : Status) (o e f : Option (List ℕ)) → trouble ≡ no_memory → Tells trouble end e f → EndsTable s plan entrants end o o e f
  no_standings trouble end o e f is told =
      let so = subst (λ t. Tells t end e f) is told in
      subst (λ t. EndsTable s plan entrants t o o e f) (sym so.ends) (inl (kept_part o o _ (Keeps-refl o)), (e, writes_nothing e, so.word))

-- what is told when all have fought

module _ {A E : Type 0} (s : RawSettings) (plan : Plan) (entrants : List Entrant) (standings : StandingsParts)
    (are : AreOf (pair_tally s plan.terms.both entrants) (length entrants) (pairs_fought plan (length entrants)) standings) where
  pub told_part : (r : Result (Vec ℕ A) E) (shared : Option Part) (share : Part) → shared ≡ Some share
      → IfOk r (λ t. t.items ≡ part_text (field_part s plan.terms.both share.number share.count entrants standings.counts standings.matches))
      → IfOk r (λ t. IsTold shared s plan entrants t.items)
  told_part (Ok t) shared share is tells =
      subst (λ x. IsTold x s plan entrants t.items) (sym is)
      (tells ∙ ap₂ (λ c m. part_text (field_part s plan.terms.both share.number share.count entrants c m)) are.counts are.matches)
  told_part (Err error) shared share is tells = tt

  pub told_table : (r : Result (Vec ℕ A) E) (shared : Option Part) (kept : List ℕ) → shared ≡ None
      → kept ≡ kept_lines s plan entrants (pairs_fought plan (length entrants))
      → IfOk r (λ t. (table : List ℕ) × IsTableOf plan.terms.view (contenders_of entrants) standings.counts table
      × (t.items ≡ table ++ (matches_heading plan.matches plan.terms.view ++ kept)))
      → IfOk r (λ t. IsTold shared s plan entrants t.items)
  told_table (Ok t) shared kept is keeps (table, ranks, tells) =
      subst (λ x. IsTold x s plan entrants t.items) (sym is)
      (record {
        table = table;
        ranks = subst (λ c. IsTableOf plan.terms.view (contenders_of entrants) c table) are.counts ranks;
        tells = tells ∙ ap (λ k. table ++ (matches_heading plan.matches plan.terms.view ++ k)) keeps;
      })
  told_table (Err error) shared kept is keeps tells = tt

-- ---- the field and its table

module _ (s : RawSettings) (plan : Plan) (files : List (List ℕ)) (entrants : List Entrant) (o p e f g : Option (List ℕ)) where
  after : (word : List ℕ) → WritesSome e f → TellsAfter word f g → TellsAfter word e g
  after word some (mid, more, told) = (mid, writes_more e f mid some more, told)

  -- each file has a warrior
  pub all_there : (end : Status) → EndsField s files entrants Status.Done e f → EndsTable s plan entrants end o p f g → EndsSources s plan files end o p e g
  all_there Status.Done (field, kept) (written, still) = ((entrants, field, written), notes_more plan.terms.view e f g (notes_kept plan.terms.view e f kept) still)
  all_there Status.StreamFault (field, kept) (begins, told) = ((entrants, (true, field), begins), after _ (keeps_some e f kept) told)
  all_there Status.NoMemory (field, kept) (begins, told) = (inl (entrants, (true, field), begins), after _ (keeps_some e f kept) told)
  all_there end read ends = absurd ends

  -- some have none
  some_there : (end : Status) → EndsField s files entrants Status.Refused e f → EndsTable s plan entrants end o p f g
      → EndsSources s plan files (refused_after end) o p e g
  some_there Status.Done (field, some) (written, still) = ((entrants, field, written), writes_more e f g some (notes_some plan.terms.view f g still))
  some_there Status.StreamFault (field, some) (begins, told) = ((entrants, (false, field), begins), after _ some told)
  some_there Status.NoMemory (field, some) (begins, told) = (inl (entrants, (false, field), begins), after _ some told)
  some_there end read ends = absurd ends

  pub some_missing : (end all : Status) → all ≡ refused_after end → EndsField s files entrants Status.Refused e f → EndsTable s plan entrants end o p f g
      → EndsSources s plan files all o p e g
  some_missing end all is read ends = subst (λ t. EndsSources s plan files t o p e g) (sym is) (some_there end read ends)

-- reading ended all
pub read_failed : (s : RawSettings) (plan : Plan) (files : List (List ℕ)) (entrants : List Entrant) (end : Status) (o e f : Option (List ℕ))
    → (end ≡ Status.Done → ⊥) → (end ≡ Status.Refused → ⊥) → EndsField s files entrants end e f → EndsSources s plan files end o o e f
read_failed s plan files entrants Status.Done o e f done refused ends = absurd (done refl)
read_failed s plan files entrants Status.Refused o e f done refused ends = absurd (refused refl)
read_failed s plan files entrants Status.NoMemory o e f done refused ends = (inr (Keeps-refl o), ends)
read_failed s plan files entrants end o e f done refused ends = absurd ends

-- memory ran out before the sources were found
pub none_found : (s : RawSettings) (plan : Plan) (words : List Source) (trouble : Trouble) (end : Status) (o e f : Option (List ℕ)) → trouble ≡ no_memory
    → Tells trouble end e f → EndsRankUnder s plan words end o o e f
none_found s plan words trouble end o e f is told =
    let so = subst (λ t. Tells t end e f) is told in
    inr (so.ends, Keeps-refl o, so.word)
