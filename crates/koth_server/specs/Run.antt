-- How a run ends.
use Rattle.std.specs.{Prelude.{◌≡◌, ◌≢◌, ◌⊎◌, ◌||◌, ⊤, ℕ, Bool, false, true, List, ◌∷◌, Option, Result, codes, is_some, length, map, option_map, unwrap_or}, Io.KnownBytes.Keeps}
use Rattle.{clap.specs.Words.{Row, first_of, one_of}, war_types.specs.{Settings.settings_of, declared.settings.{RawSettings.RawSettings, SettingsFault.SettingsFault}}, koth_words.specs.{Options.number_given, Sources.{place, place_named, places_named}}}
use Rattle.{koth_words.specs.declared.requests.{Candidates.Candidates, Fighters.Fighters, Joined.Joined, Ranking.Ranking, Traced.Traced, Watched.Watched}, koth_contests.specs.Fight.EndsFight, koth_rounds.specs.{Replay.EndsReplay, Trace.EndsTrace}, koth_candidates.specs.Candidates.EndsCandidates, koth_rank.specs.{Join.EndsJoin, Rank.EndsRank}, koth_remote.specs.Remote.MayShowTo}
use Rattle.koth_words.specs.{Words.{text_or_none, draw_seed_named, draws_seed, form_in, given_by, given_of, has_flag, has_option, is_remote, matches_in, reads_input, round_in, settings_named, view_in, view_named, AreFighters, AreJoined, AreTaken, AreWrong, AskForHelp, AsksFor, NamesField}, declared.requests.NoRequest.NoRequest}
use Rattle.koth_words.specs.{declared.requests.Request.Request, declared.requests.Request.TheVariants.{Asm, Check, Fight, Create, Submit, SubmitTo, Show, ShowTo, Serve, Session, Audit, Migrate, Page, Replay, Trace, Try, Copy, Reseed, Rank, Many, Join, Explain}}
use Rattle.{koth_words.specs.declared.requests.View.View, koth_commands.specs.{Asm.{EndsAsmFrom, Wanted, wanted_of}, Check.{EndsCheck, places_of}, Kinds.EndsExplain, Report.{Manner, manner_of}}}
use Rattle.koth_commands.specs.{Status.status_code, Streams.{Streams, is_input, unread}, Trouble.{Tells, no_memory}, declared.status.Status.Status}
use Rattle.koth_keeping.specs.{Answers.{Answers, Ends, SaysLine}, Created.MayCreate, Audit.SaysAudit, Copies.{MayReseed, SaysCopied}, Migration.migrated_line}
use Rattle.koth_hills.specs.{Hills.{AfterNote, EndsSource, SaysReply, SaysShown, Sight, sight_of}, Trials.EndsTrial, Page.SaysPage}
use Rattle.koth_server.specs.{Serving.EndsServe, Session.EndsOnFile, Settled.{EndsBy, EndsSettled}}

-- the code is that of a status of which this holds
abbrev pub Leaves : ℕ → (Status → Type 0) → Type 0
Leaves code holds = (status : Status) × (code ≡ status_code status) × holds status

-- the view that the arguments ask for, and else the usual one
abbrev pub viewed : Option View → View → View
viewed asked usual = unwrap_or asked usual

-- what of a hill these words ask for
abbrev pub sight_in : List Row → Sight
sight_in rows = record {
  matches = matches_in rows;
  settings = has_flag (codes "settings") rows;
  with_seed = has_flag (codes "with-seed") rows;
  entry = number_given 4294967296 (one_of (codes "entry") rows);
}

-- how these words ask for a source to be assembled
abbrev pub wanted_in : List Row → Wanted
wanted_in rows = record { define = first_of (codes "define") rows; listing = has_flag (codes "listing") rows }

-- how a request's command ends under these settings, if it takes any, and if tables are in this view unless it asks for
-- one
abbrev pub CommandEnds : RawSettings → View → Request → Status → Streams → Streams → Type 0
CommandEnds settings view (Asm given wanted) status before after =
    EndsAsmFrom (is_input wanted.source) (wanted_of wanted) (settings_of settings) status before after
CommandEnds settings view (Check given checked) status before after =
    EndsCheck (manner_of checked) (places_of checked) (settings_of settings) status before after
CommandEnds settings view (Fight given files) status before after =
    EndsFight files (viewed files.view view) (settings_of settings) status (unread before) (unread after)
CommandEnds settings view (Create given creation) status before after = Ends (MayCreate creation.draw_seed settings) status (unread before) (unread after)
CommandEnds settings view (Submit files) status before after = AfterNote (EndsSource (is_input files.source) (SaysReply (viewed files.view view)) status) before after
CommandEnds settings view (SubmitTo given sent) status before after = ⊤
CommandEnds settings view (ShowTo shown) status before after = Ends MayShowTo status (unread before) (unread after)
CommandEnds settings view (Show shown) status before after =
    AfterNote (Ends (Answers (SaysShown (viewed shown.view view) (sight_of shown))) status) (unread before) (unread after)
CommandEnds settings view (Audit audited) status before after =
    AfterNote (Ends (Answers (SaysAudit (viewed audited.view view))) status) (unread before) (unread after)
CommandEnds settings view (Migrate files) status before after = Ends (Answers (SaysLine migrated_line)) status (unread before) (unread after)
CommandEnds settings view (Page file) status before after = AfterNote (Ends (Answers SaysPage) status) (unread before) (unread after)
CommandEnds settings view (Serve given service) status before after = AfterNote (EndsServe service.draw_seed given status) (unread before) (unread after)
CommandEnds settings view (Session session) status before after = AfterNote (EndsOnFile session.hill.now status) before after
CommandEnds settings view (Replay given watched) status before after =
    EndsReplay watched.round (is_some watched.define) (is_some watched.page) (settings_of settings) status (unread before) (unread after)
CommandEnds settings view (Trace given traced) status before after =
    EndsTrace traced.round (is_some traced.define) traced.last traced.form (settings_of settings) status (unread before) (unread after)
CommandEnds settings view (Try files define) status before after =
    AfterNote (EndsTrial (is_input files.source) (option_map (λ words. words.now) define) (viewed files.view view) status) before after
CommandEnds settings view (Copy files) status before after = AfterNote (Ends (Answers (SaysCopied files.audit)) status) (unread before) (unread after)
CommandEnds settings view (Reseed files) status before after = AfterNote (Ends MayReseed status) (unread before) (unread after)
CommandEnds settings view (Rank given ranking) status before after =
    EndsRank ranking (viewed ranking.view view) (settings_of settings) status (unread before) (unread after)
CommandEnds settings view (Many given candidates) status before after =
    EndsCandidates candidates.opponents.items (settings_of settings) status (unread before) (unread after)
CommandEnds settings view (Join joined) status before after =
    EndsJoin (viewed joined.view view) (length joined.parts.items) status before.output after.output before.errors after.errors
CommandEnds settings view (Explain kind) status before after = EndsExplain (option_map (λ name. name.now) kind) status (unread before) (unread after)

-- the same, and never as at a fault of the arguments
abbrev pub EndsRequestUnder : RawSettings → View → Request → Status → Streams → Streams → Type 0
EndsRequestUnder settings view request status before after = CommandEnds settings view request status before after × (status ≢ Status.WordFault)

-- how a run ends that carried a request out: as its command does under the settings that it gives, and never as at a
-- fault of the arguments
abbrev pub EndsRequest : View → Request → Status → Streams → Streams → Type 0
EndsRequest view request status before after =
    EndsSettled (given_of request) (λ settings. CommandEnds settings view request status before after) status before after × (status ≢ Status.WordFault)

-- how `session` of what these words name ends
abbrev pub SessionEnds : List Row → Status → Streams → Streams → Type 0
SessionEnds rows status before after =
    EndsOnFile (text_or_none (first_of (codes "FILE") rows)) status before after

-- how a run ends that was asked for help or for the version: that is written, or the output failed, or memory ran out
abbrev pub EndsHelp : Status → Type 0
EndsHelp Status.Done = ⊤
EndsHelp Status.Refused = ⊥
EndsHelp Status.WordFault = ⊥
EndsHelp Status.StreamFault = ⊤
EndsHelp Status.NoMemory = ⊤

-- how a run ends at arguments that ask for no command; the input is not read
abbrev pub EndsWithout : NoRequest → Status → Streams → Streams → Type 0
EndsWithout (NoRequest.Help text) status before after = EndsHelp status
EndsWithout (NoRequest.WordFault text) status before after = (status ≡ Status.WordFault) × Keeps before.output after.output
EndsWithout NoRequest.Memory status before after = Keeps before.output after.output × Tells no_memory status before.errors after.errors

-- how the words ask for sources to be reported
abbrev pub manner_in : List Row → Manner
manner_in rows = record {
  form = form_in rows;
  warnings = has_flag (codes "warnings") rows || has_option (codes "deny") rows;
  deny = has_option (codes "deny") rows;
  define = first_of (codes "define") rows;
}

-- memory ran out, and nothing is on the output
abbrev pub LacksMemory : Status → Streams → Streams → Type 0
LacksMemory status before after = Keeps before.output after.output × Tells no_memory status before.errors after.errors

-- how `fight` of what these words name ends
abbrev pub FightEnds : List Row → View → Result RawSettings SettingsFault → Status → Streams → Streams → Type 0
FightEnds rows view settings status before after =
    ((fighters : Fighters) × AreFighters rows fighters × EndsFight fighters view settings status before after) ⊎ LacksMemory status before after

-- how `fight --many` against the opponents that these words name ends
abbrev pub CandidatesEnd : List Row → Result RawSettings SettingsFault → Status → Streams → Streams → Type 0
CandidatesEnd rows settings status before after =
    ((candidates : Candidates) × (map place candidates.opponents.items ≡ place_named (codes "MINE") rows ∷ places_named (codes "OTHER") rows)
    × EndsCandidates candidates.opponents.items settings status before after) ⊎ LacksMemory status before after

-- how `fight` of what these words name ends: of one older warrior, or of many that come by standard input
abbrev pub FoughtEnds : List Row → View → Result RawSettings SettingsFault → Status → Streams → Streams → Type 0
FoughtEnds rows view settings status before after =
    (has_flag (codes "many") rows ≡ false → FightEnds rows view settings status before after)
    × (has_flag (codes "many") rows ≡ true → CandidatesEnd rows settings status before after)

-- how `rank` of the field that these words name ends
abbrev pub RankEnds : List Row → View → Result RawSettings SettingsFault → Status → Streams → Streams → Type 0
RankEnds rows view settings status before after =
    ((ranking : Ranking) × NamesField rows ranking × EndsRank ranking view settings status before after) ⊎ LacksMemory status before after

-- how `rank --join` of the parts that these words name ends
abbrev pub JoinEnds : List Row → View → Status → Streams → Streams → Type 0
JoinEnds rows view status before after =
    ((joined : Joined) × AreJoined rows joined × EndsJoin view (length joined.parts.items) status before.output after.output before.errors after.errors)
    ⊎ LacksMemory status before after

-- how `rank` of what these words name ends: of a field, under settings, or of parts that were written before
abbrev pub RankedEnds : List Row → View → Status → Streams → Streams → Type 0
RankedEnds rows view status before after =
    (has_flag (codes "join") rows ≡ false
    → EndsBy rows (λ s. RankEnds rows view (settings_of s) status (unread before) (unread after)) status before after)
    × (has_flag (codes "join") rows ≡ true → JoinEnds rows view status before after)

-- the sources, the round and the file for the page are those of these words
pub record AreWatched (rows : List Row) (watched : Watched) : Type 0 where
  pub older : place watched.older ≡ place_named (codes "MINE") rows
  pub younger : place watched.younger ≡ place_named (codes "OTHER") rows
  pub round : watched.round ≡ round_in rows
  pub page : option_map (λ file. file.now) watched.page ≡ first_of (codes "output") rows
  pub define : option_map (λ words. words.now) watched.define ≡ first_of (codes "define") rows

-- how `replay` of what these words name ends
abbrev pub ReplayEnds : List Row → Result RawSettings SettingsFault → Status → Streams → Streams → Type 0
ReplayEnds rows settings status before after =
    ((watched : Watched) × AreWatched rows watched × EndsReplay watched.round (is_some watched.define) (is_some watched.page) settings status before after) ⊎ LacksMemory status before after

-- the sources, the round, how many of its turns, and their form are those of these words
pub record AreTraced (rows : List Row) (traced : Traced) : Type 0 where
  pub older : place traced.older ≡ place_named (codes "MINE") rows
  pub younger : place traced.younger ≡ place_named (codes "OTHER") rows
  pub round : traced.round ≡ round_in rows
  pub last : traced.last ≡ number_given 4294967296 (one_of (codes "last") rows)
  pub form : traced.form ≡ form_in rows
  pub define : option_map (λ words. words.now) traced.define ≡ first_of (codes "define") rows

-- how `trace` of what these words name ends
abbrev pub TraceEnds : List Row → Result RawSettings SettingsFault → Status → Streams → Streams → Type 0
TraceEnds rows settings status before after =
    ((traced : Traced) × AreTraced rows traced × EndsTrace traced.round (is_some traced.define) traced.last traced.form settings status before after) ⊎ LacksMemory status before after

-- how `submit` of what these words name ends on a hill in a file; what is told of one elsewhere is `koth_remote`'s
abbrev pub SubmitEnds : View → List Row → Bool → Status → Streams → Streams → Type 0
SubmitEnds view rows of_input status before after =
    is_remote rows ≡ false → AfterNote (EndsSource of_input (SaysReply (viewed (view_in rows) view)) status) before after

-- how `show` of what these words name ends: of a hill in a file, or of one elsewhere
abbrev pub ShowEnds : View → List Row → Status → Streams → Streams → Type 0
ShowEnds view rows status before after =
    (has_option (codes "to") rows ≡ false → AfterNote (Ends (Answers (SaysShown (viewed (view_in rows) view) (sight_in rows))) status) before after)
    × (has_option (codes "to") rows ≡ true → Ends MayShowTo status before after)

-- How a run with these arguments ends, if tables are in this view unless the arguments ask for one: as the command that
-- they name does, under the settings that they give. Only wrong arguments end as a fault of the arguments, and then
-- nothing is read, and nothing is written on the output.
pub record EndsRun (view : View) (given : List (List ℕ)) (status : Status) (before after : Streams) : Type 0 where
  pub asm : AsksFor view (codes "asm") given
      → EndsBy (given_by given) (λ s. EndsAsmFrom (reads_input given) (wanted_in (given_by given)) (settings_of s) status before after) status before after
  pub check : AsksFor view (codes "check") given
      → EndsBy (given_by given) (λ s. EndsCheck (manner_in (given_by given)) (places_named (codes "SOURCE") (given_by given)) (settings_of s) status before after) status before after
  pub fight : AsksFor view (codes "fight") given
      → EndsBy (given_by given) (λ s. FoughtEnds (given_by given) (viewed (view_named given) view) (settings_of s) status (unread before) (unread after)) status before after
  pub create : AsksFor view (codes "create") given
      → EndsBy (given_by given) (λ s. Ends (MayCreate (draw_seed_named given) s) status (unread before) (unread after)) status before after
  pub submit : AsksFor view (codes "submit") given → SubmitEnds view (given_by given) (reads_input given) status before after
  pub show : AsksFor view (codes "show") given → ShowEnds view (given_by given) status (unread before) (unread after)
  pub audit : AsksFor view (codes "audit") given
      → AfterNote (Ends (Answers (SaysAudit (viewed (view_named given) view))) status) (unread before) (unread after)
  pub migrate : AsksFor view (codes "migrate") given → Ends (Answers (SaysLine migrated_line)) status (unread before) (unread after)
  pub page : AsksFor view (codes "page") given → AfterNote (Ends (Answers SaysPage) status) (unread before) (unread after)
  pub serve : AsksFor view (codes "serve") given
      → AfterNote (EndsServe (draws_seed (given_by given)) (settings_named given) status) (unread before) (unread after)
  pub session : AsksFor view (codes "session") given → AfterNote (SessionEnds (given_by given) status) before after
  pub replay : AsksFor view (codes "replay") given
      → EndsBy (given_by given) (λ s. ReplayEnds (given_by given) (settings_of s) status (unread before) (unread after)) status before after
  pub trace : AsksFor view (codes "trace") given
      → EndsBy (given_by given) (λ s. TraceEnds (given_by given) (settings_of s) status (unread before) (unread after)) status before after
  pub trial : AsksFor view (codes "try") given
      → AfterNote (EndsTrial (reads_input given) (first_of (codes "define") (given_by given)) (viewed (view_named given) view) status) before after
  pub copy : AsksFor view (codes "copy") given
      → AfterNote (Ends (Answers (SaysCopied (has_flag (codes "audit") (given_by given)))) status) (unread before) (unread after)
  pub reseed : AsksFor view (codes "reseed") given → AfterNote (Ends MayReseed status) (unread before) (unread after)
  pub rank : AsksFor view (codes "rank") given → RankedEnds (given_by given) (viewed (view_named given) view) status before after
  pub explain : AsksFor view (codes "explain") given → EndsExplain (first_of (codes "KIND") (given_by given)) status (unread before) (unread after)
  pub words : AreTaken view given → status ≢ Status.WordFault
  pub wrong : AreWrong view given → (status ≡ Status.WordFault) ⊎ (status ≡ Status.NoMemory)
  pub help : AskForHelp given → EndsHelp status
  pub word_fault : status ≡ Status.WordFault → Keeps before.input after.input × Keeps before.output after.output
