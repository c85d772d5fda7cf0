-- What a run promises for its arguments, from how its request ended, or from why there is none.
use Rattle.std.proofs.Common.{◌≡◌, ◌≢◌, ◌⊎◌, ℕ, Bool, Bor, true, false, true≢false, if◌then◌else◌, is_some, ap, List, [], IfOk, Option, None, Some, Result, Ok, Err, inl, inr, length, ◌∙◌, refl, sym, subst, codes, option_map}
use Rattle.{std.specs.{Prelude.{⊤, unwrap_or}, Str.bytes_eq}, std.proofs.{KnownBytes.{Consumes-nil, Keeps-refl}}, std.specs.Io.KnownBytes.Keeps, clap.specs.Walk.{Row, Text}}
use Rattle.{clap.specs.Words.{first_of, one_of}, war_types.specs.{declared.settings.RawSettings.RawSettings, declared.settings.SettingsFault.SettingsFault, Settings.settings_of}}
use Rattle.koth_words.specs.{Settings.{IsGiven, base_in, chosen_in, over, settings_in}, Sources.{Place, input_name, is_input as is_dash, place, place_named, places_named}, Words.{AsksBy, IsHelp, IsRefusal, draws_seed, given_in, has_flag, text_or_none, view_in}}
use Rattle.{koth_words.specs.{declared.settings.{Chosen.Chosen, Given.Given}, declared.requests.NoRequest.NoRequest}}
use Rattle.koth_words.specs.{declared.requests.Request.Request, declared.requests.Request.TheVariants.{Asm, Check, Fight, Create, Submit, SubmitTo, Show, ShowTo, Serve, Session, Audit, Migrate, Page, Replay, Trace, Try, Copy, Reseed, Rank, Many, Join, Explain}}
use Rattle.{koth_words.specs.{declared.requests.Source.Source, declared.requests.View.View}, koth_commands.specs.{Answer.{AnswerParts, EndsGiven}, Asm.{EndsAsmFrom, IsDoneFrom, Wanted, status_of, wanted_of}, Kinds.EndsExplain}}
use Rattle.koth_commands.specs.{Check.{EndsCheck, EndsCheckUnder, input_next}, Report.{Manner, manner_of, status_by}}
use Rattle.{war_types.specs.{Warrior.WarriorParts, declared.fault.AsmFault.AsmFault}, redcode_asm.specs.Assembly.assembly, koth_commands.proofs.Checks.none_checked, koth_server.proofs.Statuses.{IsNone, delivered, explained}}
use Rattle.koth_commands.specs.{Streams.{From, Streams, TakesSome, at_input, is_input, streams, unread}, Trouble.{Tells, no_memory}, declared.status.Status.{Status, TheVariants.{NoMemory, WordFault}}}
use Rattle.koth_commands.proofs.Told.{kept_part, writes_nothing}
use Rattle.koth_keeping.specs.{Answers.{Answers, AnswersGiven, Ends, Outcome, SaysLine}, Created.{MayCreate, SaysCreated}, Audit.SaysAudit, Copies.{MayReseed, SaysCopied}, Migration.migrated_line, Seed.seed_hint}
use Rattle.koth_hills.specs.{Hills.{AfterNote, EndsSource, SaysReply, SaysShown, TellsNote, sight_of}, Page.SaysPage, Trials.EndsTrial}
use Rattle.koth_server.specs.{Serving.{EndsMade, EndsServe, EndsService, TellsServeFault, listening_line}, Session.EndsOnFile, Run.{CommandEnds, SessionEnds, EndsRequest, EndsRequestUnder, EndsHelp, EndsWithout, AreTraced, AreWatched, FoughtEnds, RankEnds, RankedEnds, ReplayEnds, ShowEnds, SubmitEnds, TraceEnds, manner_in, sight_in, viewed, wanted_in}, Settled.{AreSettled, EndsBy, EndsSettled, EndsUnderGiven, TellsNoHill, names_hill}}
use Rattle.koth_words.specs.declared.requests.{Fighters.Fighters, Form.Form, Ranking.Ranking, Round.Round}
use Rattle.{koth_contests.specs.Fight.{EndsFight, EndsFightUnder}, koth_candidates.specs.Candidates.{EndsCandidates, EndsCandidatesUnder}, koth_rank.specs.{Join.{EndsJoin, Fails}, Rank.{EndsRank, EndsRankUnder, plan_of}, declared.plan.Plan.Plan}, koth_remote.specs.Remote.MayShowTo}
use Rattle.koth_rounds.specs.{Asked.with_round, Replay.{EndsReplay, EndsReplayUnder}, Trace.{EndsTrace, EndsTraceUnder}}

-- one fact or the other
abbrev Either : Bool → Type 0 → Type 0 → Type 0
Either true one other = one
Either false one other = other

either : (b : Bool) (one other : Type 0) → one → other → Either b one other
either true one other this that = this
either false one other this that = that

-- whether the words of a source are `-`
abbrev reads_in : List Row → Bool
reads_in rows = is_dash (text_or_none (first_of (codes "SOURCE") rows))

-- How the command of this name ends, with what the arguments give it: nothing is said of any other name.
abbrev pub EndsNamed : Text → View → List Row → Status → Streams → Streams → Type 0
EndsNamed name view given status before after =
    let shown = viewed (view_in given) view in
    let u = unread before in
    let v = unread after in
    Either (bytes_eq name (codes "asm")) (EndsBy given (λ s. EndsAsmFrom (reads_in given) (wanted_in given) (settings_of s) status before after) status before after)
    (Either (bytes_eq name (codes "check")) (EndsBy given (λ s. EndsCheck (manner_in given) (places_named (codes "SOURCE") given) (settings_of s) status before after) status before after)
    (Either (bytes_eq name (codes "fight")) (EndsBy given (λ s. FoughtEnds given shown (settings_of s) status u v) status before after)
    (Either (bytes_eq name (codes "create")) (EndsBy given (λ s. Ends (MayCreate (has_flag (codes "draw-seed") given) s) status u v) status before after)
    (Either (bytes_eq name (codes "submit")) (SubmitEnds view given (reads_in given) status before after)
    (Either (bytes_eq name (codes "show")) (ShowEnds view given status u v)
    (Either (bytes_eq name (codes "audit")) (AfterNote (Ends (Answers (SaysAudit shown)) status) u v)
    (Either (bytes_eq name (codes "migrate")) (Ends (Answers (SaysLine migrated_line)) status u v)
    (Either (bytes_eq name (codes "page")) (AfterNote (Ends (Answers SaysPage) status) u v)
    (Either (bytes_eq name (codes "serve")) (AfterNote (EndsServe (draws_seed given) (settings_in given) status) u v)
    (Either (bytes_eq name (codes "session")) (AfterNote (SessionEnds given status) before after)
    (Either (bytes_eq name (codes "replay")) (EndsBy given (λ s. ReplayEnds given (settings_of s) status u v) status before after)
    (Either (bytes_eq name (codes "trace")) (EndsBy given (λ s. TraceEnds given (settings_of s) status u v) status before after)
    (Either (bytes_eq name (codes "try")) (AfterNote (EndsTrial (reads_in given) (first_of (codes "define") given) shown status) before after)
    (Either (bytes_eq name (codes "copy")) (AfterNote (Ends (Answers (SaysCopied (has_flag (codes "audit") given))) status) u v)
    (Either (bytes_eq name (codes "reseed")) (AfterNote (Ends MayReseed status) u v)
    (Either (bytes_eq name (codes "rank")) (RankedEnds given shown status before after)
    (Either (bytes_eq name (codes "explain")) (EndsExplain (first_of (codes "KIND") given) status u v) ⊤)))))))))))))))))

-- ---- a request: the command that the arguments name ended so, under the settings that they give

of_place : (source : Source) → at_input (place source) ≡ is_input source
of_place (Source.Input name) = refl
of_place (Source.File file) = refl

at_word : (b : Bool) (called word : Text) → at_input (if b then Place.Input called else Place.File word) ≡ b
at_word true called word = refl
at_word false called word = refl

-- a source is the input if the words say so
same_source : (source : Source) (rows : List Row) → place source ≡ place_named (codes "SOURCE") rows → is_input source ≡ reads_in rows
same_source source rows is = sym (of_place source) ∙ ap at_input is ∙ at_word (reads_in rows) (input_name rows) (text_or_none (first_of (codes "SOURCE") rows))

-- how a command ends under settings that are given, one way or another
under_map : (like : Bool) (base : RawSettings) (chosen : Chosen) (ends other : RawSettings → Type 0) (status : Status) (before after : Streams)
    → ((s : RawSettings) → ends s → other s) → EndsUnderGiven like base chosen ends status before after → EndsUnderGiven like base chosen other status before after
under_map like base chosen ends other status before after holds (inl (s, are, ended)) = inl (s, are, holds s ended)
under_map like base chosen ends other status before after holds (inr tells) = inr tells

-- a hill is named if the words name one
same_given : (r : Option (Bor Text)) (text : Option Text) → option_map (λ s. s.now) r ≡ text → is_some r ≡ is_some text
same_given None text named = ap (λ (t : Option Text). is_some t) named
same_given (Some s) text named = ap (λ (t : Option Text). is_some t) named

-- the same by the words that give the settings
by_words : (rows : List Row) (given : Given) (ends other : RawSettings → Type 0) (status : Status) (before after : Streams) → IsGiven rows given
    → ((s : RawSettings) → ends s → other s) → EndsSettled (Some given) ends status before after → EndsBy rows other status before after
by_words rows given ends other status before after is holds ended =
    let like = same_given given.like (first_of (codes "like") rows) is.like in
    under_map (is_some (first_of (codes "like") rows)) (base_in rows) (chosen_in rows) ends other status before after holds
    (subst (λ l. EndsUnderGiven l (base_in rows) (chosen_in rows) ends status before after) like
    (subst (λ b. EndsUnderGiven (is_some given.like) b (chosen_in rows) ends status before after) is.base
    (subst (λ c. EndsUnderGiven (is_some given.like) given.base c ends status before after) is.chosen ended)))

-- a command that was carried out under settings that are given
pub settled_ends : (given : Option Given) (ends : RawSettings → Type 0) (status : Status) (before after : Streams) (s : RawSettings)
    → AreSettled given s → ends s → EndsSettled given ends status before after
settled_ends None ends status before after s are ended = (s, ended)
settled_ends (Some given) ends status before after s are ended = inl (s, are, ended)

-- or the hill that is named can't be read
pub unsettled_ends : (given : Option Given) (ends : RawSettings → Type 0) (status : Status) (before after : Streams) → names_hill given ≡ true
    → TellsNoHill status before after → EndsSettled given ends status before after
unsettled_ends None ends status before after names tells = absurd (true≢false (sym names))
unsettled_ends (Some given) ends status before after names tells = inr (names, tells)

module _ (view : View) (e : Text × List Row) (status : Status) (before after : Streams) where
  abbrev Carries : Text → Type 0
  Carries name = EndsNamed name view e.1 status before after

  -- how this request's command ends under these settings
  abbrev Under : Request → RawSettings → Type 0
  Under request s = CommandEnds s view request status before after

  named : (request : Request) → AsksBy (Some e) request → EndsRequest view request status before after → Carries e.0
  named (Asm given wanted) asks ends =
      let same : wanted_of wanted ≡ wanted_in e.1 = λ i. record { define = asks.3 i; listing = asks.4 i } in
      subst Carries (sym asks.0)
      (by_words e.1 given (Under (Asm given wanted)) (λ s. EndsAsmFrom (reads_in e.1) (wanted_in e.1) (settings_of s) status before after) status before after asks.1
      (λ s ended. subst (λ b. EndsAsmFrom b (wanted_in e.1) (settings_of s) status before after) (same_source wanted.source e.1 asks.2)
      (subst (λ w. EndsAsmFrom (is_input wanted.source) w (settings_of s) status before after) same ended)) ends.0)
  named (Check given checked) asks ends =
      let manner : manner_of checked ≡ manner_in e.1 = λ i. record { form = asks.2.form i; warnings = asks.2.warnings i; deny = asks.2.deny i; define = asks.2.define i } in
      let places = places_named (codes "SOURCE") e.1 in
      subst Carries (sym asks.0)
      (by_words e.1 given (Under (Check given checked))
      (λ s. EndsCheck (manner_in e.1) places (settings_of s) status before after) status before after asks.1
      (λ s ended. subst (λ m. EndsCheck m places (settings_of s) status before after) manner
      (subst (λ l. EndsCheck (manner_of checked) l (settings_of s) status before after) asks.2.files ended)) ends.0)
  named (Fight given files) asks ends = subst Carries (sym asks.0)
      (by_words e.1 given (Under (Fight given files)) (λ s. FoughtEnds e.1 (viewed (view_in e.1) view) (settings_of s) status (unread before) (unread after)) status before after asks.1
      (λ s ended. (
        (λ one. inl (files, asks.2, subst (λ v. EndsFight files (viewed v view) (settings_of s) status (unread before) (unread after)) asks.2.view ended)),
        (λ many. absurd (true≢false (sym many ∙ asks.3))),
      )) ends.0)
  named (Many given candidates) asks ends = subst Carries (sym asks.0)
      (by_words e.1 given (Under (Many given candidates)) (λ s. FoughtEnds e.1 (viewed (view_in e.1) view) (settings_of s) status (unread before) (unread after)) status before after asks.1
      (λ s ended. ((λ one. absurd (true≢false (sym asks.3 ∙ one))), (λ many. inl (candidates, asks.2, ended)))) ends.0)
  named (Create given creation) asks ends = subst Carries (sym asks.0)
      (by_words e.1 given (Under (Create given creation)) (λ s. Ends (MayCreate (has_flag (codes "draw-seed") e.1) s) status (unread before) (unread after)) status before after asks.1
      (λ s ended. subst (λ d. Ends (MayCreate d s) status (unread before) (unread after)) asks.4 ended) ends.0)
  named (Submit files) asks ends = subst Carries (sym asks.0)
      (λ here. subst (λ b. AfterNote (EndsSource b (SaysReply (viewed (view_in e.1) view)) status) before after) (same_source files.source e.1 asks.3)
      (subst (λ v. AfterNote (EndsSource (is_input files.source) (SaysReply (viewed v view)) status) before after) asks.4 ends.0.1))
  named (SubmitTo given sent) asks ends = subst Carries (sym asks.0)
      (λ here. absurd (true≢false (sym asks.1 ∙ here)))
  named (Show shown) asks ends =
      let same : sight_of shown ≡ sight_in e.1 = λ i. record { matches = asks.3 i; settings = asks.4 i; with_seed = asks.5 i; entry = asks.6 i } in
      subst Carries (sym asks.0) (
        (λ here. subst (λ v. AfterNote (Ends (Answers (SaysShown (viewed v view) (sight_in e.1))) status) (unread before) (unread after)) asks.7
            (subst (λ m. AfterNote (Ends (Answers (SaysShown (viewed shown.view view) m)) status) (unread before) (unread after)) same ends.0.1)),
        (λ there. absurd (true≢false (sym there ∙ asks.1))),
      )
  named (ShowTo shown) asks ends = subst Carries (sym asks.0)
      ((λ here. absurd (true≢false (sym asks.1 ∙ here))), (λ there. ends.0.1))
  named (Serve given service) asks ends =
      subst Carries (sym asks.0) (subst (λ d. AfterNote (EndsServe d (settings_in e.1) status) (unread before) (unread after)) asks.17
      (subst (λ s. AfterNote (EndsServe service.draw_seed s status) (unread before) (unread after)) asks.1 ends.0.1))
  named (Session session) asks ends = subst Carries (sym asks.0)
      (subst (λ h. AfterNote (EndsOnFile h status) before after) asks.1 ends.0.1)
  named (Audit audited) asks ends = subst Carries (sym asks.0)
      (subst (λ v. AfterNote (Ends (Answers (SaysAudit (viewed v view))) status) (unread before) (unread after)) asks.2 ends.0.1)
  named (Migrate files) asks ends = subst Carries (sym asks.0) ends.0.1
  named (Page file) asks ends = subst Carries (sym asks.0) ends.0.1
  named (Replay given watched) asks ends =
      let are : AreWatched e.1 watched = record { older = asks.2; younger = asks.3; round = asks.4; page = asks.5; define = asks.6 } in
      subst Carries (sym asks.0)
      (by_words e.1 given (Under (Replay given watched)) (λ s. ReplayEnds e.1 (settings_of s) status (unread before) (unread after)) status before after asks.1
      (λ s ended. inl (watched, are, ended)) ends.0)
  named (Trace given traced) asks ends =
      let are : AreTraced e.1 traced = record { older = asks.2; younger = asks.3; round = asks.4; last = asks.5; form = asks.6; define = asks.7 } in
      subst Carries (sym asks.0)
      (by_words e.1 given (Under (Trace given traced)) (λ s. TraceEnds e.1 (settings_of s) status (unread before) (unread after)) status before after asks.1
      (λ s ended. inl (traced, are, ended)) ends.0)
  named (Try files define) asks ends =
      let given = first_of (codes "define") e.1 in
      subst Carries (sym asks.0)
      (subst (λ b. AfterNote (EndsTrial b given (viewed (view_in e.1) view) status) before after) (same_source files.source e.1 asks.2)
      (subst (λ v. AfterNote (EndsTrial (is_input files.source) given (viewed v view) status) before after) asks.3
      (subst (λ d. AfterNote (EndsTrial (is_input files.source) d (viewed files.view view) status) before after) asks.4 ends.0.1)))
  named (Copy files) asks ends = subst Carries (sym asks.0) (subst (λ a. AfterNote (Ends (Answers (SaysCopied a)) status) (unread before) (unread after)) asks.3 ends.0.1)
  named (Reseed files) asks ends = subst Carries (sym asks.0) ends.0.1
  named (Rank given ranking) asks ends = subst Carries (sym asks.0) (
    (λ field. by_words e.1 given (Under (Rank given ranking)) (λ s. RankEnds e.1 (viewed (view_in e.1) view) (settings_of s) status (unread before) (unread after)) status before after asks.1
        (λ s ended. inl (ranking, asks.2, subst (λ v. EndsRank ranking (viewed v view) (settings_of s) status (unread before) (unread after)) asks.2.view ended)) ends.0),
    (λ parts. absurd (true≢false (sym parts ∙ asks.3))),
  )
  named (Join joined) asks ends = subst Carries (sym asks.0) (
    (λ field. absurd (true≢false (sym asks.2 ∙ field))),
    (λ parts. inl (
      joined,
      asks.1,
      subst (λ v. EndsJoin (viewed v view) (length joined.parts.items) status before.output after.output before.errors after.errors) asks.1.view ends.0.1,
    )),
  )
  named (Explain kind) asks ends = subst Carries (sym asks.0) (subst (λ k. EndsExplain k status (unread before) (unread after)) asks.1 ends.0.1)

pub carried : (view : View) (entered : Option (Text × List Row)) (request : Request) (status : Status) (before after : Streams) (name : Text)
    → AsksBy entered request → EndsRequest view request status before after → option_map (λ e. e.0) entered ≡ Some name
    → EndsNamed name view (given_in entered) status before after
carried view None request status before after name asks ends names = absurd asks
carried view (Some e) request status before after name asks ends names =
    subst (λ t. EndsNamed t view e.1 status before after) (ap (λ o. unwrap_or o []) names) (named view e status before after request asks ends)

status_none : (outcome : Result WarriorParts AsmFault) (status : Status) → status ≡ status_of outcome → status ≢ WordFault
status_none (Ok warrior) status is word = absurd (cc)
status_none (Err fault) status is word = absurd (cc)

assembled_none : (of_input : Bool) (wanted : Wanted) (r : Result RawSettings SettingsFault) (i j : Option (List ℕ)) (done : Outcome) → IsDoneFrom of_input wanted r i j done → IfOk done IsNone
assembled_none true wanted (Ok s) i j (Ok answer) is = status_none (assembly s is.text) answer.status is.comes.status
assembled_none false wanted (Ok s) i j (Ok answer) is = status_none (assembly s is.0.text) answer.status is.0.comes.status
assembled_none of_input wanted (Err fault) i j (Ok answer) is = absurd is
assembled_none of_input wanted r i j (Err trouble) is = tt

-- `asm` never ends as at a fault of the arguments
pub asm_no_word : (of_input : Bool) (wanted : Wanted) (r : Result RawSettings SettingsFault) (status : Status) (before after : Streams)
    → EndsAsmFrom of_input wanted r status before after → status ≢ WordFault
asm_no_word of_input wanted r status before after (done, is, sent) =
    delivered done status before.output after.output before.errors after.errors (assembled_none of_input wanted r before.input after.input done is) sent

given_word : (ends : RawSettings → Status → Streams → Streams → Type 0) (r : Result RawSettings SettingsFault) (before after : Streams)
    → ((s : RawSettings) → ends s WordFault before after → ⊥) → EndsGiven ends r WordFault before after → ⊥
given_word ends (Ok s) before after never ended = never s ended
given_word ends (Err fault) before after never ended = ended

by_none : (unread refused : Bool) → status_by unread refused ≢ WordFault
by_none true refused is = absurd (cc)
by_none false true is = absurd (cc)
by_none false false is = absurd (cc)

check_word : (s : RawSettings) (how : Manner) (places : List Place) (status : Status) (before after : Streams) → EndsCheckUnder s how places status before after
    → status ≢ WordFault
check_word s how places status before after (inl checked) is = by_none _ _ (sym checked.ends ∙ is)
check_word s how places status before after (inr stopped) is = elim stopped.breaks [ inl failed ↦ absurd (cc) | inr memory ↦ absurd (cc) ]

-- nor do `check`, `fight`, `rank`, `replay` and `trace`
pub check_no_word : (how : Manner) (places : List Place) (r : Result RawSettings SettingsFault) (status : Status) (before after : Streams)
    → EndsCheck how places r status before after → status ≢ WordFault
check_no_word how places r status before after ends is =
    given_word (λ s. EndsCheckUnder s how places) r before after (λ s ended. check_word s how places WordFault before after ended refl)
    (subst (λ t. EndsCheck how places r t before after) is ends)

fight_word : (s : RawSettings) (fighters : Fighters) (view : View) (o p e f : Option (List ℕ)) → EndsFightUnder s fighters view WordFault o p e f → ⊥
fight_word s fighters view o p e f (inl alone) = alone.2
fight_word s fighters view o p e f (inr many) = elim many.1 [ inl met ↦ met.2.2 | inr none ↦ none ]

pub fight_no_word : (fighters : Fighters) (view : View) (r : Result RawSettings SettingsFault) (status : Status) (before after : Streams)
    → EndsFight fighters view r status before after → status ≢ WordFault
fight_no_word fighters view r status before after ends is =
    given_word (λ s end u v. EndsFightUnder s fighters view end u.output v.output u.errors v.errors) r before after
    (λ s ended. fight_word s fighters view before.output after.output before.errors after.errors ended)
    (subst (λ t. EndsFight fighters view r t before after) is ends)

never_refused : WordFault ≡ Status.Refused → ⊥
never_refused is = absurd (cc)

never_lost : WordFault ≡ NoMemory → ⊥
never_lost is = absurd (cc)

rank_word : (s : RawSettings) (plan : Plan) (words : List Source) (o p e f : Option (List ℕ)) → EndsRankUnder s plan words WordFault o p e f → ⊥
rank_word s plan words o p e f (inl ranked) = elim ranked.2 [ inl ends ↦ ends | inr many ↦ never_refused many.1 ]
rank_word s plan words o p e f (inr memory) = never_lost memory.0

pub rank_no_word : (ranking : Ranking) (view : View) (r : Result RawSettings SettingsFault) (status : Status) (before after : Streams)
    → EndsRank ranking view r status before after → status ≢ WordFault
rank_no_word ranking view r status before after ends is =
    given_word (λ s end u v. EndsRankUnder s (plan_of ranking view) ranking.field.items end u.output v.output u.errors v.errors) r before after
    (λ s ended. rank_word s (plan_of ranking view) ranking.field.items before.output after.output before.errors after.errors ended)
    (subst (λ t. EndsRank ranking view r t before after) is ends)

candidates_word : (s : RawSettings) (words : List Source) (o p e f : Option (List ℕ)) → EndsCandidatesUnder s words WordFault o p e f → ⊥
candidates_word s words o p e f (inl (files, are, inl (opponents, field, (d, keeps, (i, (j, ends)))))) = ends
candidates_word s words o p e f (inl (files, are, inr none)) = elim none.0 [ inl refused ↦ never_refused refused | inr lost ↦ never_lost lost ]
candidates_word s words o p e f (inr none) = elim none.0 [ inl refused ↦ never_refused refused | inr lost ↦ never_lost lost ]

pub candidates_no_word : (words : List Source) (r : Result RawSettings SettingsFault) (status : Status) (before after : Streams)
    → EndsCandidates words r status before after → status ≢ WordFault
candidates_no_word words r status before after ends is =
    given_word (λ s end u v. EndsCandidatesUnder s words end u.output v.output u.errors v.errors) r before after
    (λ s ended. candidates_word s words before.output after.output before.errors after.errors ended)
    (subst (λ t. EndsCandidates words r t before after) is ends)

pub join_no_word : (view : View) (count : ℕ) (status : Status) (o p e f : Option (List ℕ)) → EndsJoin view count status o p e f → status ≢ WordFault
join_no_word view count status o p e f (inl joined) is = absurd (cc)
join_no_word view count status o p e f (inr (inl part)) is = absurd (subst (λ t. Fails t e f) is part.1)
join_no_word view count status o p e f (inr (inr none)) is = absurd (subst (λ t. Fails t e f) is none.1)

pub explain_no_word : (name : Option (List ℕ)) (status : Status) (before after : Streams) → EndsExplain name status before after → status ≢ WordFault
explain_no_word name status before after (done, is, sent) =
    delivered done status before.output after.output before.errors after.errors (explained name done is) sent

pub replay_no_word : (round : Round) (defines named : Bool) (r : Result RawSettings SettingsFault) (status : Status) (before after : Streams)
    → EndsReplay round defines named r status before after → status ≢ WordFault
replay_no_word round defines named r status before after ends is =
    given_word (λ s end u v. EndsReplayUnder s round defines named end u.output v.output u.errors v.errors) (with_round round r) before after (λ s ended. ended)
    (subst (λ t. EndsReplay round defines named r t before after) is ends)

pub trace_no_word : (round : Round) (defines : Bool) (last : Option ℕ) (form : Form) (r : Result RawSettings SettingsFault) (status : Status) (before after : Streams)
    → EndsTrace round defines last form r status before after → status ≢ WordFault
trace_no_word round defines last form r status before after ends is =
    given_word (λ s end u v. EndsTraceUnder s round defines last form end u.output v.output u.errors v.errors) (with_round round r) before after (λ s ended. ended)
    (subst (λ t. EndsTrace round defines last form r t before after) is ends)

-- a request that is asked for ends as its command does
pub request_ends : (settings : RawSettings) (view : View) (request asked : Request) (status : Status) (before after : Streams) → request ≡ asked
    → CommandEnds settings view asked status before after → status ≢ WordFault → EndsRequestUnder settings view request status before after
request_ends settings view request asked status before after is ends words = subst (λ r. EndsRequestUnder settings view r status before after) (sym is) (ends, words)

-- ---- no request: lack of memory keeps a command whose arguments are taken from its beginning

memory_is_no_fault : (status : Status) → status ≡ NoMemory → status ≡ WordFault → ⊥
memory_is_no_fault status memory word = absurd (cc)

module _ (i o p e f : Option (List ℕ)) (kept : Keeps o p) (told : Tells no_memory NoMemory e f) where
  given_no_memory : (ends : RawSettings → Status → Streams → Streams → Type 0) (r : Result RawSettings SettingsFault)
      → ((s : RawSettings) → ends s NoMemory (streams i o e) (streams i p f)) → EndsGiven ends r NoMemory (streams i o e) (streams i p f)
  given_no_memory ends (Ok s) holds = holds s
  given_no_memory ends (Err fault) holds = (record { input = Keeps-refl i; output = kept }, told.word)

  may_no_memory : (May : Outcome → Type 0) → May (Err no_memory) → Ends May NoMemory (streams i o e) (streams i p f)
  may_no_memory May may = record { outcome = Err no_memory; may = may; delivered = (kept, told) }

  source_no_memory : (of_input : Bool) (Says : List ℕ → AnswerParts → Type 0) → EndsSource of_input Says NoMemory (streams i o e) (streams i p f)
  source_no_memory true Says = record { outcome = Err no_memory; may = (refl, ([], Consumes-nil i)); delivered = (kept, told) }
  source_no_memory false Says = record { outcome = Err no_memory; may = ((refl, ([], tt)), Keeps-refl i); delivered = (kept, told) }

  trial_no_memory : (of_input : Bool) (define : Option (List ℕ)) (shown : View) → EndsTrial of_input define shown NoMemory (streams i o e) (streams i p f)
  trial_no_memory true define shown = record { outcome = Err no_memory; may = (refl, ([], Consumes-nil i)); delivered = (kept, told) }
  trial_no_memory false define shown = record { outcome = Err no_memory; may = ((refl, ([], tt)), Keeps-refl i); delivered = (kept, told) }

  explain_no_memory : (name : Option (List ℕ)) → EndsExplain name NoMemory (streams i o e) (streams i p f)
  explain_no_memory name = (Err no_memory, inl refl, (kept, told))

  fault_no_memory : TellsServeFault NoMemory (streams i o e) (streams i p f)
  fault_no_memory = record {
    trouble = no_memory;
    of_hill = refl;
    port = 0;
    output = kept_part o p (listening_line 0) kept;
    logged = e;
    log = writes_nothing e;
    told = told;
  }

make_no_memory : (hint : List ℕ) (given : RawSettings) (r : Result RawSettings SettingsFault) → AnswersGiven (λ s. Answers (SaysCreated hint)) r (Err no_memory)
make_no_memory hint given (Ok s) = refl
make_no_memory hint given (Err fault) = inr refl

create_no_memory : (drawn : Bool) (given : RawSettings) → MayCreate drawn given (Err no_memory)
create_no_memory false given = make_no_memory (seed_hint given.seed) given (settings_of given)
create_no_memory true given = inr refl

module _ (i o p e f : Option (List ℕ)) (kept : Keeps o p) (told : Tells no_memory NoMemory e f) where
  asm_no_memory : (of_input : Bool) (wanted : Wanted) (r : Result RawSettings SettingsFault) → EndsAsmFrom of_input wanted r NoMemory (streams i o e) (streams i p f)
  asm_no_memory true wanted (Ok s) = (Err no_memory, inl (inr refl, ([], Consumes-nil i)), (kept, told))
  asm_no_memory false wanted (Ok s) = (Err no_memory, (inl (inr refl, ([], tt)), Keeps-refl i), (kept, told))
  asm_no_memory of_input wanted (Err fault) = (Err no_memory, (Keeps-refl i, inr refl), (kept, told))

  none_taken : (of_input : Bool) → From of_input TakesSome i i
  none_taken true = ([], Consumes-nil i)
  none_taken false = (([], tt), Keeps-refl i)

  check_no_memory : (how : Manner) (places : List Place) (r : Result RawSettings SettingsFault) → EndsCheck how places r NoMemory (streams i o e) (streams i p f)
  check_no_memory how places r = given_no_memory i o p e f kept told (λ s. EndsCheckUnder s how places) r
      (λ s. inr (record {
        count = 0;
        begun = Status.Done;
        between = streams i o e;
        checked = none_checked s how (streams i o e);
        breaks = inr (refl, none_taken (input_next places), kept, told.word);
      }))

  made_no_memory : (r : Result RawSettings SettingsFault) → EndsMade r NoMemory (streams None o e) (streams None p f)
  made_no_memory r = given_no_memory None o p e f kept told (λ s. EndsService) r (λ s. inr (fault_no_memory None o p e f kept told))

  serve_no_memory : (drawn : Bool) (given : RawSettings) → EndsServe drawn given NoMemory (streams None o e) (streams None p f)
  serve_no_memory false given = inl (given, refl, made_no_memory (settings_of given))
  serve_no_memory true given = inr (refl, fault_no_memory None o p e f kept told)

  session_no_memory : (path : Text) → EndsOnFile path NoMemory (streams i o e) (streams i p f)
  session_no_memory path = inr (record { trouble = no_memory; of_hill = refl; input = Keeps-refl i; output = kept; told = told })

  under_no_memory : (like : Bool) (base : RawSettings) (chosen : Chosen) (ends : RawSettings → Type 0) → ((s : RawSettings) → ends s)
      → EndsUnderGiven like base chosen ends NoMemory (streams i o e) (streams i p f)
  under_no_memory false base chosen ends holds = inl (over base chosen, refl, holds (over base chosen))
  under_no_memory true base chosen ends holds =
      inr (refl, record { trouble = no_memory; of_hill = refl; input = Keeps-refl i; output = kept; told = told })

  by_no_memory : (rows : List Row) (ends : RawSettings → Type 0) → ((s : RawSettings) → ends s) → EndsBy rows ends NoMemory (streams i o e) (streams i p f)
  by_no_memory rows ends holds = under_no_memory (is_some (first_of (codes "like") rows)) (base_in rows) (chosen_in rows) ends holds

  named_no_memory : (name : Text) (view : View) (given : List Row) → EndsNamed name view given NoMemory (streams i o e) (streams i p f)
  named_no_memory name view given =
      let shown = viewed (view_in given) view in
      let drawn = has_flag (codes "draw-seed") given in
      let of_input = reads_in given in
      let how = manner_in given in
      let places = places_named (codes "SOURCE") given in
      let u = streams None o e in
      let v = streams None p f in
      let none : TellsNote e e = inl (Keeps-refl e) in
      let may = may_no_memory None o p e f kept told in
      either (bytes_eq name (codes "asm")) _ _ (by_no_memory given (λ s. EndsAsmFrom of_input (wanted_in given) (settings_of s) NoMemory (streams i o e) (streams i p f)) (λ s. asm_no_memory of_input (wanted_in given) (settings_of s)))
      (either (bytes_eq name (codes "check")) _ _ (by_no_memory given (λ s. EndsCheck how places (settings_of s) NoMemory (streams i o e) (streams i p f)) (λ s. check_no_memory how places (settings_of s)))
      (either (bytes_eq name (codes "fight")) _ _ (by_no_memory given (λ s. FoughtEnds given shown (settings_of s) NoMemory u v) (λ s. ((λ one. inr (kept, told)), (λ many. inr (kept, told)))))
      (either (bytes_eq name (codes "create")) _ _ (by_no_memory given (λ s. Ends (MayCreate drawn s) NoMemory u v) (λ s. may (MayCreate drawn s) (create_no_memory drawn s)))
      (either (bytes_eq name (codes "submit")) _ _ (λ here. (e, none, source_no_memory i o p e f kept told of_input (SaysReply shown)))
      (either (bytes_eq name (codes "show")) _ _ ((λ here. (e, none, may (Answers (SaysShown shown (sight_in given))) refl)), (λ there. may MayShowTo tt))
      (either (bytes_eq name (codes "audit")) _ _ (e, none, may (Answers (SaysAudit shown)) refl)
      (either (bytes_eq name (codes "migrate")) _ _ (may (Answers (SaysLine migrated_line)) refl)
      (either (bytes_eq name (codes "page")) _ _ (e, none, may (Answers SaysPage) refl)
      (either (bytes_eq name (codes "serve")) _ _ (e, none, serve_no_memory (draws_seed given) (settings_in given))
      (either (bytes_eq name (codes "session")) _ _ (e, none, session_no_memory (text_or_none (first_of (codes "FILE") given)))
      (either (bytes_eq name (codes "replay")) _ _ (by_no_memory given (λ s. ReplayEnds given (settings_of s) NoMemory u v) (λ s. inr (kept, told)))
      (either (bytes_eq name (codes "trace")) _ _ (by_no_memory given (λ s. TraceEnds given (settings_of s) NoMemory u v) (λ s. inr (kept, told)))
      (either (bytes_eq name (codes "try")) _ _ (e, none, trial_no_memory i o p e f kept told of_input (first_of (codes "define") given) shown)
      (either (bytes_eq name (codes "copy")) _ _ (e, none, may (Answers (SaysCopied (has_flag (codes "audit") given))) refl)
      (either (bytes_eq name (codes "reseed")) _ _ (e, none, may MayReseed tt)
      (either (bytes_eq name (codes "rank")) _ _
      ((λ field. by_no_memory given (λ s. RankEnds given shown (settings_of s) NoMemory u v) (λ s. inr (kept, told))), (λ parts. inr (kept, told)))
      (either (bytes_eq name (codes "explain")) _ ⊤ (explain_no_memory None o p e f kept told (first_of (codes "KIND") given)) tt)))))))))))))))))

module _ (i o p e f : Option (List ℕ)) (status : Status) where
  pub without : (name : Text) (view : View) (given : List Row) (none : NoRequest) → none ≡ NoRequest.Memory
      → EndsWithout none status (streams None o e) (streams None p f) → EndsNamed name view given status (streams i o e) (streams i p f)
  without name view given none is ends =
      let memory : EndsWithout NoRequest.Memory status (streams None o e) (streams None p f) =
      subst (λ n. EndsWithout n status (streams None o e) (streams None p f)) is ends in
      let ends_so : status ≡ NoMemory = memory.1.ends in
      subst (λ t. EndsNamed name view given t (streams i o e) (streams i p f)) (sym ends_so)
      (named_no_memory i o p e f memory.0 (subst (λ t. Tells no_memory t e f) ends_so memory.1) name view given)

  -- such a run doesn't end as at a fault of the arguments
  pub words_without : (none : NoRequest) → none ≡ NoRequest.Memory → EndsWithout none status (streams None o e) (streams None p f) → status ≢ WordFault
  words_without NoRequest.Memory is ends word = memory_is_no_fault status ends.1.ends word
  words_without (NoRequest.Help text) is ends word = absurd (cc)
  words_without (NoRequest.WordFault text) is ends word = absurd (cc)

  -- wrong arguments end so, or out of memory
  pub wrong_without : (none : NoRequest) → IsRefusal none → EndsWithout none status (streams None o e) (streams None p f) → (status ≡ WordFault) ⊎ (status ≡ NoMemory)
  wrong_without NoRequest.Memory is ends = inr ends.1.ends
  wrong_without (NoRequest.Help text) is ends = absurd is
  wrong_without (NoRequest.WordFault text) is ends = inl ends.0

  -- help and the version end so, or out of memory
  pub help_without : (none : NoRequest) → IsHelp none → EndsWithout none status (streams None o e) (streams None p f) → EndsHelp status
  help_without NoRequest.Memory is ends = subst EndsHelp (sym ends.1.ends) tt
  help_without (NoRequest.Help text) is ends = ends
  help_without (NoRequest.WordFault text) is ends = absurd is

  -- at a fault of the arguments nothing is read, and nothing is written on the output
  pub fault_without : (none : NoRequest) → EndsWithout none status (streams None o e) (streams None p f) → status ≡ WordFault → Keeps i i × Keeps o p
  fault_without NoRequest.Memory ends is = absurd (memory_is_no_fault status ends.1.ends is)
  fault_without (NoRequest.Help text) ends is = absurd (subst EndsHelp is ends)
  fault_without (NoRequest.WordFault text) ends is = (Keeps-refl i, ends.1)
