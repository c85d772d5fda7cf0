-- Sources that are checked, one after another.
use Rattle.std.proofs.Common.{◌≡◌, ◌∙◌, ◌<◌, ◌+◌, ◌++◌, ℕ, Bool, true, false, true≢false, ◌||◌, List, [], ◌∷◌, Option, None, Some, Result, Ok, Err, MatchResult, inl, inr, ap, append-nil, get_or, length, map, refl, subst, sym, take, drop, ap₂}
use Rattle.std.proofs.{lemmas.List.{take_more, drop_more, get_or-map, map-append, length-map}, lemmas.List.Concat.flat_map-append, lemmas.List.Folds.list_any-append, KnownBytes.{Appends-nil, Appends-trans}}
use Rattle.{std.specs.{Io.KnownBytes.Appends, List.flat_map, Prelude.is_ok}, war_types.specs.declared.settings.RawSettings.RawSettings, koth_words.specs.Sources.Place}
use Rattle.koth_commands.specs.{Answer.{AnswerParts, Delivers}, Check.{AreParts, Breaks, Checks, EndsCheckUnder, IsChecked, IsFaultAt, IsPart, Part, Reading, is_over, is_refused_as, is_unread, status_over}, Define.{fault_by, fault_of}, Report.{Manner, is_refused, status_by}, Status.worse, Streams.Streams}
use Rattle.koth_commands.specs.{Told.{TellsWord, apart_text}, Trouble.{fault_status, fault_word}, declared.{status.Status.Status, trouble.Trouble.Trouble}}
use Rattle.{koth_commands.proofs.Told.{nothing_more}, redcode_define.specs.Definition.definition_of}

-- ---- one source more

worse_by : (a b c d : Bool) → worse (status_by a b) (status_by c d) ≡ status_by (a || (c || false)) (b || (d || false))
worse_by true true true true = refl
worse_by true true true false = refl
worse_by true true false true = refl
worse_by true true false false = refl
worse_by true false true true = refl
worse_by true false true false = refl
worse_by true false false true = refl
worse_by true false false false = refl
worse_by false true true true = refl
worse_by false true true false = refl
worse_by false true false true = refl
worse_by false true false false = refl
worse_by false false true true = refl
worse_by false false true false = refl
worse_by false false false true = refl
worse_by false false false false = refl

goes_on : (b : Bool) → is_over true (status_by false b) ≡ false
goes_on true = refl
goes_on false = refl

-- a source is refused for which nothing is assembled
fault_of_refuses : (definition : Option (List ℕ × List ℕ)) → fault_status (fault_of definition) ≡ Status.Refused
fault_of_refuses None = refl
fault_of_refuses (Some definition) = refl

fault_refuses : (define : Option (List ℕ)) → fault_status (fault_by define) ≡ Status.Refused
fault_refuses None = refl
fault_refuses (Some words) = fault_of_refuses (definition_of words)

pub none_checked : (s : RawSettings) (how : Manner) (start : Streams) → Checks s how [] Status.Done start start
none_checked s how start =
    record { parts = []; placed = refl; each = refl; ends = refl; written = Appends-nil start.output; told = Appends-nil start.errors }

-- one part more, of what the others left of the input
parts_more : (s : RawSettings) (how : Manner) (parts : List Part) (part : Part) (i j k : Option (List ℕ)) → AreParts s how parts i j → IsPart s how part j k
    → AreParts s how (parts ++ part ∷ []) i k
parts_more s how [] part i j k same is = (k, subst (λ u. IsPart s how part u k) (sym same) is, refl)
parts_more s how (first ∷ parts) part i j k (left, one, others) is = (left, one, parts_more s how parts part left j k others is)

module _ (s : RawSettings) (how : Manner) (at : Place) (end : Status) (between after : Streams) where
  -- what is written of a source
  record Adds : Type 0 where
    part : Part
    placed : part.at ≡ at
    is : IsPart s how part between.input after.input
    ends : end ≡ status_by (is_unread part.source) (is_refused_as s how part.source)
    written : Appends between.output after.output part.text
    told : Appends between.errors after.errors part.told

  -- what was done to it
  abbrev IsDoneTo : Result AnswerParts Trouble → Type 0
  IsDoneTo done = MatchResult done (IsChecked s how at between.input after.input) (IsFaultAt how at between.input after.input)

  abbrev IsSent : Result AnswerParts Trouble → Type 0
  IsSent done = Delivers done end between.output after.output between.errors after.errors

  adds : (done : Result AnswerParts Trouble) → IsDoneTo done → IsSent done → is_over (is_ok done) end ≡ false → Adds
  adds (Ok answer) checked (inl (ends, written, noted)) going = record {
    part = record { at = at; source = Reading.Text checked.text; text = answer.text; told = noted.part };
    placed = refl;
    is = (checked.source, checked.taken, checked.defined, checked.answers.report, (answer.note, checked.answers.note, (noted.rest, noted.split)));
    ends = ends ∙ checked.answers.status;
    written = written;
    told = noted.written;
  }
  adds (Ok answer) checked (inr (ends, part, told)) going = absurd (true≢false (sym (ap (is_over true) ends) ∙ going))
  adds (Err trouble) (inr (source, taken, (none, is))) (kept, tells) going = record {
    part = record { at = at; source = Reading.Undefined; text = []; told = tells.word.written.part };
    placed = refl;
    is = (
      source,
      taken,
      none,
      refl,
      (
        tells.word.apart,
        tells.word.text,
        (tells.word.written.rest, ap (λ f. fault_word f ++ (apart_text tells.word.apart ++ tells.word.text)) (sym is) ∙ tells.word.written.split),
      ),
    );
    ends = tells.ends ∙ ap fault_status is ∙ fault_refuses how.define;
    written = nothing_more between.output after.output kept;
    told = tells.word.written.written;
  }
  adds (Err trouble) (inl (fault, taken)) (kept, tells) going = elim fault [
    | inl stream ↦ record {
      part = record { at = at; source = Reading.Unread; text = []; told = tells.word.written.part };
      placed = refl;
      is = (
        taken,
        refl,
        (
          tells.word.apart,
          tells.word.text,
          (tells.word.written.rest, ap (λ f. fault_word f ++ (apart_text tells.word.apart ++ tells.word.text)) (sym stream) ∙ tells.word.written.split),
        ),
      );
      ends = tells.ends ∙ ap fault_status stream;
      written = nothing_more between.output after.output kept;
      told = tells.word.written.written;
    }
    | inr memory ↦ absurd (true≢false (sym (ap (is_over false) (tells.ends ∙ ap (λ (t : Trouble). fault_status t.fault) memory)) ∙ going))
  ]

  one_more : (places : List Place) (status : Status) (before : Streams) (done : Result AnswerParts Trouble) → Checks s how places status before between
      → IsDoneTo done → IsSent done → is_over (is_ok done) end ≡ false → Checks s how (places ++ at ∷ []) (worse status end) before after
  one_more places status before done so_far checked delivered going =
      let new = adds done checked delivered going in
      let parts = so_far.parts ++ new.part ∷ [] in
      let unread = list_any-append (λ (part : Part). is_unread part.source) so_far.parts (new.part ∷ []) in
      let refused = list_any-append (λ (part : Part). is_refused_as s how part.source) so_far.parts (new.part ∷ []) in
      record {
        parts = parts;
        placed = map-append (λ (part : Part). part.at) so_far.parts (new.part ∷ []) ∙ ap (λ l. l ++ new.part.at ∷ []) so_far.placed
            ∙ ap (λ n. places ++ n ∷ []) new.placed;
        each = parts_more s how so_far.parts new.part before.input between.input after.input so_far.each new.is;
        ends = ap (λ t. worse t end) so_far.ends ∙ ap (worse (status_over s how so_far.parts)) new.ends ∙ worse_by _ _ _ _ ∙ sym (ap₂ status_by unread refused);
        written = subst (Appends before.output after.output)
            (sym (flat_map-append (λ (part : Part). part.text) so_far.parts (new.part ∷ []) ∙ ap (λ t. flat_map (λ (part : Part). part.text) so_far.parts ++ t) (append-nil new.part.text)))
            (Appends-trans before.output between.output after.output _ _ so_far.written new.written);
        told = subst (Appends before.errors after.errors)
            (sym (flat_map-append (λ (part : Part). part.told) so_far.parts (new.part ∷ []) ∙ ap (λ t. flat_map (λ (part : Part). part.told) so_far.parts ++ t) (append-nil new.part.told)))
            (Appends-trans before.errors between.errors after.errors _ _ so_far.told new.told);
      }

  pub one_next : (places places_next : List Place) (status next : Status) (before : Streams) (done : Result AnswerParts Trouble)
      → Checks s how places status before between → IsDoneTo done → IsSent done → is_over (is_ok done) end ≡ false → next ≡ worse status end
      → places_next ≡ places ++ at ∷ [] → Checks s how places_next next before after
  one_next places places_next status next before done so_far checked delivered going is placed =
      subst (λ l. Checks s how l next before after) (sym placed)
      (subst (λ t. Checks s how (places ++ at ∷ []) t before after) (sym is) (one_more places status before done so_far checked delivered going))

  breaks : (rest : List Place) (done : Result AnswerParts Trouble) → IsDoneTo done → IsSent done → is_over (is_ok done) end ≡ true
      → Breaks s how (at ∷ rest) end between after
  breaks rest (Ok answer) checked (inl (ends, written, noted)) over =
      absurd (true≢false (sym over ∙ ap (is_over true) (ends ∙ checked.answers.status) ∙ goes_on (is_refused s how (Some checked.text))))
  breaks rest (Ok answer) checked (inr (ends, part, told)) over = inl (ends, (checked.source, checked.text, answer.text, checked.taken, checked.defined, checked.answers.report, part), told)
  breaks rest (Err trouble) (inr (source, taken, (none, is))) (kept, tells) over =
      absurd (true≢false (sym over ∙ ap (is_over false) (tells.ends ∙ ap fault_status is ∙ fault_refuses how.define)))
  breaks rest (Err trouble) (inl (fault, taken)) (kept, tells) over = elim fault [
    | inl stream ↦ absurd (true≢false (sym over ∙ ap (is_over false) (tells.ends ∙ ap fault_status stream)))
    | inr memory ↦ inr (
      tells.ends ∙ ap (λ (t : Trouble). fault_status t.fault) memory,
      taken,
      kept,
      subst (λ (t : Trouble). TellsWord (fault_word t.fault) between.errors after.errors) memory tells.word,
    )
  ]

  pub stopped : (places rest : List Place) (count : ℕ) (status : Status) (before : Streams) (done : Result AnswerParts Trouble)
      → Checks s how (take count places) status before between → IsDoneTo done → IsSent done → is_over (is_ok done) end ≡ true
      → drop count places ≡ at ∷ rest → EndsCheckUnder s how places end before after
  stopped places rest count status before done so_far checked delivered over next = inr (record {
    count = count;
    begun = status;
    between = between;
    checked = so_far;
    breaks = subst (λ l. Breaks s how l end between after) (sym next) (breaks rest done checked delivered over);
  })

-- the next place, of a list that is read from a slice
module _ {A B : Type 0} (f : A → B) (xs ys : List A) (i : ℕ) (d : A) (same : ys ≡ xs) (within : i < length ys) where
  inside : i < length xs
  inside = subst (λ l. i < length l) same within

  mapped : i < length (map f xs)
  mapped = subst (λ n. i < n) (sym (length-map xs f)) inside

  here : get_or (map f xs) i (f d) ≡ f (get_or ys i d)
  here = get_or-map f xs i d (f d) inside ∙ ap (λ l. f (get_or l i d)) (sym same)

  pub next_taken : take (i + 1) (map f xs) ≡ take i (map f xs) ++ f (get_or ys i d) ∷ []
  next_taken = take_more (map f xs) i (f d) mapped ∙ ap (λ n. take i (map f xs) ++ n ∷ []) here

  pub next_left : drop i (map f xs) ≡ f (get_or ys i d) ∷ drop (i + 1) (map f xs)
  next_left = drop_more (map f xs) i (f d) mapped ∙ ap (λ n. n ∷ drop (i + 1) (map f xs)) here
