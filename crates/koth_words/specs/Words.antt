-- What a command line asks for. `words` are its arguments, of which the first is the program's name.
use Rattle.std.specs.Prelude.{◌≡◌, ◌≢◌, ◌⊎◌, ◌==◌, ◌&&◌, ◌||◌, ⊤, ℕ, Bool, true, false, not, nat_le, nat_lt, List, [], ◌∷◌, length, codes, count_by, map, Option, None, Some, IfSome, is_some, option_map, unwrap_or, if◌then◌else◌}
use Rattle.std.specs.{Option.option_map_or, Net.{Addr.{IsIpv4Mapped, IsMulticastV6, IsWithinAt, MatchIp, ipv4_octets, ipv6_segments, low_octets}, Grammar.IsIpText}, Str.bytes_eq, List.list_any, declared.net.ip_addr.IpAddr.IpAddr}
use Rattle.clap.specs.{Words.{IsAmong, Row, Text, all_of, fault_of, first_of, one_of, subcommand_of, takes}, declared.error.kind.ErrorKind.ErrorKind}
use Rattle.war_types.specs.declared.settings.RawSettings.{RawSettings}
use Rattle.koth_words.specs.{Fraction.part_in, Options.{number_below, number_given, number_or}, Place.writes_place, Settings.{IsGiven, settings_in}, Sources.{inputs_in, is_input, place, place_named, places_named, words_in}, declared.settings.Given.Given}
use Rattle.koth_words.specs.{declared.serving.TheConstants.STEPS, declared.requests.Checked.Checked, declared.requests.Fighters.Fighters, declared.requests.Form.Form, declared.requests.Joined.Joined, declared.requests.NoRequest.NoRequest, declared.requests.Ranking.Ranking, declared.requests.Request.Request}
use Rattle.koth_words.specs.{declared.requests.Request.TheVariants.{Asm, Check, Fight, Create, Submit, SubmitTo, Show, ShowTo, Serve, Session, Audit, Migrate, Page, Replay, Trace, Try, Copy, Reseed, Rank, Many, Join, Explain}, declared.requests.Round.Round, declared.hills.Sent.Sent, declared.requests.View.View, declared.hills.Way.Way}
unfoldable pub use Rattle.koth_options.specs.Commands.{koth_app}

-- what a command is given, if one is entered
abbrev pub given_in : Option (Text × List Row) → List Row
given_in entered = option_map_or (λ e. e.1) entered []

-- what these words give their command
abbrev pub given_by : List (List ℕ) → List Row
given_by words = given_in (subcommand_of koth_app words)

abbrev pub text_or_none : Option Text → Text
text_or_none text = unwrap_or text []

-- the settings that these words give, if they name no hill
abbrev pub settings_named : List (List ℕ) → RawSettings
settings_named words = settings_in (given_by words)

-- ---- flags

-- a flag is given: `clap` then has the text `true` for it, else `false`
abbrev pub is_true : Option Text → Bool
is_true None = false
is_true (Some text) = bytes_eq text (codes "true")

abbrev pub has_flag : Text → List Row → Bool
has_flag name given = is_true (one_of name given)

abbrev pub matches_in : List Row → Bool
matches_in given = has_flag (codes "matches") given

-- whether `--matches` is given, of `show`
abbrev pub matches_named : List (List ℕ) → Bool
matches_named words = matches_in (given_by words)

-- whether `--overwrite` is given, of `create`
abbrev pub overwrite_named : List (List ℕ) → Bool
overwrite_named words = has_flag (codes "overwrite") (given_by words)

-- whether `--draw-seed` is given, of `create`
abbrev pub draw_seed_named : List (List ℕ) → Bool
draw_seed_named words = has_flag (codes "draw-seed") (given_by words)

-- whether `--replays` is given, of `serve`
abbrev pub replays_named : List (List ℕ) → Bool
replays_named words = has_flag (codes "replays") (given_by words)

-- whether `--create` is given, of `serve`
abbrev pub create_named : List (List ℕ) → Bool
create_named words = has_flag (codes "create") (given_by words)

-- ---- formats and layouts

abbrev pub is_json : Option Text → Bool
is_json name = option_map_or (λ text. bytes_eq text (codes "json")) name false

-- `--format` is `json`
abbrev pub asks_json : List Row → Bool
asks_json given = is_json (first_of (codes "format") given)

-- the form that the option of this name asks for
abbrev pub form_under : Text → List Row → Form
form_under name given = if is_json (first_of name given) then Form.Json else Form.Text

abbrev pub form_in : List Row → Form
form_in given = form_under (codes "format") given

-- the form of the report of `check`
abbrev pub form_named : List (List ℕ) → Form
form_named words = form_in (given_by words)

abbrev pub view_in : List Row → Option View
view_in given =
    if has_flag (codes "plain") given then Some View.Plain
    else (if has_flag (codes "table") given then Some View.Table
    else (if asks_json given then Some View.Json else None))

-- the layout that is asked for, if one is
abbrev pub view_named : List (List ℕ) → Option View
view_named words = view_in (given_by words)

abbrev pub is_table : View → Bool
is_table View.Table = true
is_table _ = false

-- whether `asm` reads standard input, and no file
abbrev pub reads_input : List (List ℕ) → Bool
reads_input words = is_input (text_or_none (first_of (codes "SOURCE") (given_by words)))

-- the round that is asked for, and else the first
abbrev pub round_in : List Row → Round
round_in given =
    if has_flag (codes "lost") given then Round.Lost
    else (if has_flag (codes "won") given then Round.Won
    else (if has_flag (codes "tied") given then Round.Tied
    else Round.Number (number_or 1 (one_of (codes "round") given))))

-- ---- addresses

-- the address is the one that the text writes, or 127.0.0.1 if the option is left out
abbrev pub IsAddress : Option Text → IpAddr → Type 0
IsAddress text address = IsIpText (unwrap_or text (codes "127.0.0.1")) address

-- the octets of an IPv4 address of many machines at once: of a group, or of all in a network
abbrev pub AreOfMany : List ℕ → Type 0
AreOfMany octets = IsWithinAt octets 0 224 239 ⊎ (octets ≡ 255 ∷ 255 ∷ 255 ∷ 255 ∷ [])

-- an address of many machines at once; an IPv4 address may be written as an IPv6 one
abbrev pub IsOfMany : IpAddr → Type 0
IsOfMany address = MatchIp address (λ a. AreOfMany (ipv4_octets a)) (λ a. IsMulticastV6 a ⊎ (IsIpv4Mapped (ipv6_segments a) × AreOfMany (low_octets a)))

-- the text, if it is given, writes an address of one machine, without a port
abbrev pub WritesAddress : Option Text → Type 0
WritesAddress text = IfSome text (λ text. (address : IpAddr) × IsIpText text address × ¬ IsOfMany address)

abbrev pub HasAddress : List Row → Type 0
HasAddress given = WritesAddress (first_of (codes "listen") given)

-- ---- settings

abbrev pub has_option : Text → List Row → Bool
has_option name given = is_some (first_of name given)

-- an option that gives a setting is given
abbrev pub has_setting : List Row → Bool
has_setting given = has_option (codes "core") given || has_option (codes "cycles") given || has_option (codes "processes") given
    || has_option (codes "length") given || has_option (codes "distance") given || has_option (codes "rounds") given
    || has_option (codes "seed") given || has_option (codes "capacity") given || has_option (codes "read-limit") given
    || has_option (codes "write-limit") given || has_option (codes "preset") given

-- `serve` draws the seed of a hill that it creates, unless one is given
abbrev pub draws_seed : List Row → Bool
draws_seed given = has_flag (codes "create") given && not (has_option (codes "seed") given)

-- ---- words that are clear

-- at most one of these is given
abbrev pub at_most_one : List Bool → Bool
at_most_one given = nat_le (count_by (λ is_given. is_given) given) 1

-- of layouts, of a seed that is drawn and one that is given, of a hill and a preset, of settings and matches to be
-- shown, of a warrior and what else is shown of a hill, and of rounds
abbrev pub has_one_choice : List Row → Bool
has_one_choice given = at_most_one (has_flag (codes "plain") given ∷ has_flag (codes "table") given ∷ asks_json given ∷ [])
    && at_most_one (has_flag (codes "draw-seed") given ∷ has_option (codes "seed") given ∷ [])
    && at_most_one (has_option (codes "like") given ∷ has_option (codes "preset") given ∷ [])
    && at_most_one (has_flag (codes "settings") given ∷ has_flag (codes "matches") given ∷ [])
    && not (has_option (codes "entry") given && (has_flag (codes "settings") given || has_flag (codes "matches") given || is_some (view_in given)))
    && at_most_one (has_option (codes "round") given ∷ has_flag (codes "lost") given ∷ has_flag (codes "won") given ∷ has_flag (codes "tied") given ∷ [])

-- no option, or one with one of these texts
abbrev pub is_left_out_or : List Text → Option Text → Bool
is_left_out_or known text = option_map_or (λ text. list_any (λ one. bytes_eq text one) known) text true

-- the format is `text` or `json`, the preset is known, and what is denied is `warnings`, if they are given
abbrev pub has_known_words : List Row → Bool
has_known_words given = is_left_out_or (codes "text" ∷ codes "json" ∷ []) (first_of (codes "format") given)
    && is_left_out_or (codes "94nop" ∷ codes "tiny" ∷ codes "nano" ∷ []) (first_of (codes "preset") given)
    && is_left_out_or (codes "warnings" ∷ []) (first_of (codes "deny") given)

-- the lines of a service are `text` or `json`, and a part is one, if they are given
abbrev pub has_known_forms : List Row → Bool
has_known_forms given = is_left_out_or (codes "text" ∷ codes "json" ∷ []) (first_of (codes "log-format") given)
    && not (has_option (codes "part") given && not (is_some (part_in given)))

abbrev pub has_known_texts : List Row → Bool
has_known_texts given = has_known_words given && has_known_forms given

-- the hill is elsewhere: at an address, or behind standard input and output
abbrev pub is_remote : List Row → Bool
is_remote given = has_option (codes "to") given || has_flag (codes "pipe") given

-- the source that is sent there is the input
abbrev pub sends_input : List Row → Bool
sends_input given = is_remote given && is_input (text_or_none (first_of (codes "FILE") given))

-- at most one source is the input, and messages have a name for it only if there is one; each round is told of one
-- match alone
abbrev pub has_clear_inputs : List Row → Bool
has_clear_inputs given = nat_le (inputs_in given) 1
    && not (has_option (codes "name") given && inputs_in given == 0 && not (sends_input given))
    && not (has_flag (codes "each") given && (has_flag (codes "both") given || nat_lt 1 (length (words_in (codes "OTHER") given))))

-- a warrior has an opponent: `fight`, which alone has `--many`, names another one, or opponents of many
abbrev pub has_opponents : List Row → Bool
has_opponents given = not (has_option (codes "many") given && not (has_flag (codes "many") given) && not (has_option (codes "OTHER") given))

-- warriors that come by standard input are each answered by one line, and no opponent comes there too
abbrev pub fits_many : List Row → Bool
fits_many given = not (has_flag (codes "many") given && (has_flag (codes "both") given || has_flag (codes "each") given || has_option (codes "define") given
    || is_some (view_in given) || nat_lt 0 (inputs_in given)))

-- of a part of the matches there is no table
abbrev pub fits_part : List Row → Bool
fits_part given = not (has_option (codes "part") given && (has_flag (codes "matches") given || is_some (view_in given)))

-- parts that are joined have their settings and matches
abbrev pub fits_join : List Row → Bool
fits_join given = not (has_flag (codes "join") given && (has_flag (codes "both") given || has_flag (codes "matches") given
    || has_option (codes "part") given || has_setting given || has_option (codes "like") given))

-- a contest has its warriors, and what is given fits it
abbrev pub has_clear_contest : List Row → Bool
has_clear_contest given = has_opponents given && fits_many given && fits_part given && fits_join given

-- the sources are clear, and so is their contest
abbrev pub has_clear_sources : List Row → Bool
has_clear_sources given = has_clear_inputs given && has_clear_contest given

-- settings are given to a hill that has none: `serve`, which alone takes a port, uses them with `--create` alone
abbrev pub uses_settings : List Row → Bool
uses_settings given = not (has_option (codes "port") given && has_setting given && not (has_flag (codes "create") given))

-- `replay`, which alone shows a round and has no format
abbrev pub shows_page : List Row → Bool
shows_page given = has_option (codes "lost") given && not (has_option (codes "format") given)

-- a page goes into a file or past the terminal: `replay` has `--output` if tables are for people
abbrev pub has_place : View → List Row → Bool
has_place view given = not (shows_page given && is_table view && not (has_option (codes "output") given))

-- what only pages use: what browsers are shown, and the names that they ask for
abbrev pub is_of_pages : List Row → Bool
is_of_pages given = has_flag (codes "replays") given || has_option (codes "host") given || has_option (codes "title") given || has_option (codes "peers-at") given

-- it is given only where there are pages
abbrev pub has_pages : List Row → Bool
has_pages given = not (is_of_pages given && not (has_option (codes "http") given))

-- a hill is named, in a file or elsewhere: `submit`, which alone has `--pipe`, names a hill file and a source, or a
-- source for a hill elsewhere; `show`, which alone has `--with-seed`, names a hill file or a hill elsewhere
abbrev pub names_hill : List Row → Bool
names_hill given = not (has_option (codes "pipe") given && not (is_remote given) && not (has_option (codes "SOURCE") given))
    && not (is_remote given && has_option (codes "SOURCE") given)
    && not (has_option (codes "with-seed") given && not (has_option (codes "to") given) && not (has_option (codes "FILE") given))
    && not (has_option (codes "with-seed") given && has_option (codes "to") given && has_option (codes "FILE") given)

-- a hill elsewhere is at one place and has no lock, of it there is the table alone, its settings are given and not read
-- from it, and through a pipe come its answers and not the source; it alone has a limit of time
abbrev pub fits_elsewhere : List Row → Bool
fits_elsewhere given = at_most_one (has_option (codes "wait") given ∷ has_option (codes "to") given ∷ has_flag (codes "pipe") given ∷ [])
    && not (has_option (codes "to") given && (has_flag (codes "settings") given || has_flag (codes "matches") given))
    && not (has_option (codes "to") given && has_option (codes "entry") given)
    && not (has_option (codes "timeout") given && not (has_option (codes "to") given))
    && not (has_option (codes "pipe") given && not (is_remote given) && (has_setting given || has_option (codes "like") given))
    && not (has_flag (codes "pipe") given && sends_input given)
    && writes_place given

-- settings, pages and names are given where they are of use
abbrev pub has_use : View → List Row → Bool
has_use view given = uses_settings given && has_place view given
    && not (has_flag (codes "with-seed") given && not (has_flag (codes "settings") given)) && has_pages given

-- the hill is named, and what is given fits it
abbrev pub has_clear_hill : List Row → Bool
has_clear_hill given = names_hill given && fits_elsewhere given

-- what is given has what it needs
abbrev pub has_needs : View → List Row → Bool
has_needs view given = has_use view given && has_clear_hill given

-- nothing that the program refuses beside `clap`, where tables are in this view
abbrev pub AreClear : View → List Row → Type 0
AreClear view given = (has_one_choice given ≡ true) × (has_known_texts given ≡ true) × (has_clear_sources given ≡ true)
    × (has_needs view given ≡ true) × HasAddress given

-- ---- words that are taken, and words that are wrong

-- the words are taken, by `clap`'s own definition and by `AreClear`
abbrev pub AreTaken : View → List (List ℕ) → Type 0
AreTaken view words = (takes koth_app words ≡ true) × AreClear view (given_by words)

-- the words are taken, and name this command
abbrev pub AsksFor : View → List ℕ → List (List ℕ) → Type 0
AsksFor view verb words = AreTaken view words
    × (option_map (λ entered. entered.0) (subcommand_of koth_app words) ≡ Some verb)

-- `clap` finds a fault in the words, and they ask for neither help nor the version
abbrev pub HaveFault : List (List ℕ) → Type 0
HaveFault words = (fault_of koth_app words ≢ [])
    × ¬ IsAmong ErrorKind.DisplayHelp (fault_of koth_app words)
    × ¬ IsAmong ErrorKind.DisplayVersion (fault_of koth_app words)

-- `clap` finds no fault in the words, but they are not clear
abbrev pub AreUnclear : View → List (List ℕ) → Type 0
AreUnclear view words = (fault_of koth_app words ≡ []) × ¬ AreClear view (given_by words)

-- the words are refused
abbrev pub AreWrong : View → List (List ℕ) → Type 0
AreWrong view words = HaveFault words ⊎ AreUnclear view words

-- the words ask for help, or for the version
abbrev pub AskForHelp : List (List ℕ) → Type 0
AskForHelp words = (fault_of koth_app words ≡ ErrorKind.DisplayHelp ∷ []) ⊎ (fault_of koth_app words ≡ ErrorKind.DisplayVersion ∷ [])

-- ---- requests

-- the sources to check, and how, are those that these rows give
pub record IsChecked (given : List Row) (checked : Checked) : Type 0 where
  pub files : map place checked.files.items ≡ places_named (codes "SOURCE") given
  pub form : checked.form ≡ form_in given
  pub warnings : checked.warnings ≡ (has_flag (codes "warnings") given || has_option (codes "deny") given)
  pub deny : checked.deny ≡ has_option (codes "deny") given
  pub define : option_map (λ text. text.now) checked.define ≡ first_of (codes "define") given

-- the warriors, and how they fight
pub record AreFighters (given : List Row) (fighters : Fighters) : Type 0 where
  pub older : place fighters.older ≡ place_named (codes "MINE") given
  pub opponents : map place fighters.opponents.items ≡ places_named (codes "OTHER") given
  pub both : fighters.both ≡ has_flag (codes "both") given
  pub each : fighters.each ≡ has_flag (codes "each") given
  pub view : fighters.view ≡ view_in given
  pub define : option_map (λ text. text.now) fighters.define ≡ first_of (codes "define") given

-- the field, and how its warriors fight each other
pub record NamesField (given : List Row) (ranking : Ranking) : Type 0 where
  pub field : map place ranking.field.items ≡ places_named (codes "FOLDER") given
  pub both : ranking.both ≡ has_flag (codes "both") given
  pub view : ranking.view ≡ view_in given
  pub matches : ranking.matches ≡ matches_in given
  pub part : ranking.part ≡ part_in given

-- the parts, and how their table is laid out
pub record AreJoined (given : List Row) (joined : Joined) : Type 0 where
  pub parts : map place joined.parts.items ≡ places_named (codes "FOLDER") given
  pub view : joined.view ≡ view_in given

-- the way to a hill elsewhere is the one that these rows give
abbrev pub IsWay : List Row → Way → Type 0
IsWay given (Way.To place timeout) = (has_flag (codes "pipe") given ≡ false)
    × (place.now ≡ text_or_none (first_of (codes "to") given)) × (timeout ≡ number_or 600 (one_of (codes "timeout") given))
IsWay given Way.Pipe = has_flag (codes "pipe") given ≡ true

-- a source for a hill elsewhere, and the way to it
pub record IsSent (given : List Row) (sent : Sent) : Type 0 where
  pub way : IsWay given sent.way
  pub source : place sent.source ≡ place_named (codes "FILE") given
  pub view : sent.view ≡ view_in given

-- the request is that of the command that was entered, by its name and what it was given
abbrev pub Asks : Text × List Row → Request → Type 0
Asks entered (Asm given assembled) = (entered.0 ≡ codes "asm") × IsGiven entered.1 given
    × (place assembled.source ≡ place_named (codes "SOURCE") entered.1)
    × (option_map (λ text. text.now) assembled.define ≡ first_of (codes "define") entered.1)
    × (assembled.listing ≡ has_flag (codes "listing") entered.1)
Asks entered (Check given checked) = (entered.0 ≡ codes "check") × IsGiven entered.1 given × IsChecked entered.1 checked
Asks entered (Fight given fighters) = (entered.0 ≡ codes "fight") × IsGiven entered.1 given × AreFighters entered.1 fighters
    × (has_flag (codes "many") entered.1 ≡ false)
Asks entered (Many given candidates) = (entered.0 ≡ codes "fight") × IsGiven entered.1 given
    × (map place candidates.opponents.items ≡ place_named (codes "MINE") entered.1 ∷ places_named (codes "OTHER") entered.1)
    × (has_flag (codes "many") entered.1 ≡ true)
Asks entered (Create given creation) = (entered.0 ≡ codes "create") × IsGiven entered.1 given
    × (creation.hill.now ≡ text_or_none (first_of (codes "FILE") entered.1))
    × (creation.overwrite ≡ has_flag (codes "overwrite") entered.1)
    × (creation.draw_seed ≡ has_flag (codes "draw-seed") entered.1)
Asks entered (SubmitTo given sent) = (entered.0 ≡ codes "submit") × (is_remote entered.1 ≡ true) × IsGiven entered.1 given
    × IsSent entered.1 sent
Asks entered (ShowTo shown) = (entered.0 ≡ codes "show") × (has_option (codes "to") entered.1 ≡ true)
    × (shown.to.now ≡ text_or_none (first_of (codes "to") entered.1))
    × (shown.timeout ≡ number_or 600 (one_of (codes "timeout") entered.1))
    × (shown.view ≡ view_in entered.1)
Asks entered (Submit files) = (entered.0 ≡ codes "submit") × (is_remote entered.1 ≡ false)
    × (files.hill.now ≡ text_or_none (first_of (codes "FILE") entered.1))
    × (place files.source ≡ place_named (codes "SOURCE") entered.1)
    × (files.view ≡ view_in entered.1)
    × (files.wait ≡ number_or 0 (one_of (codes "wait") entered.1))
Asks entered (Show shown) = (entered.0 ≡ codes "show") × (has_option (codes "to") entered.1 ≡ false)
    × (shown.hill.now ≡ text_or_none (first_of (codes "FILE") entered.1))
    × (shown.matches ≡ matches_in entered.1)
    × (shown.settings ≡ has_flag (codes "settings") entered.1)
    × (shown.with_seed ≡ has_flag (codes "with-seed") entered.1)
    × (shown.entry ≡ number_given 4294967296 (one_of (codes "entry") entered.1))
    × (shown.view ≡ view_in entered.1)
Asks entered (Serve settings service) = (entered.0 ≡ codes "serve") × (settings ≡ settings_in entered.1)
    × (service.hill.now ≡ text_or_none (first_of (codes "FILE") entered.1))
    × (service.port ≡ number_below 65536 0 (one_of (codes "port") entered.1))
    × (service.peers ≡ number_or 64 (one_of (codes "peers") entered.1))
    × (service.peers_per_address ≡ number_given 4294967296 (one_of (codes "peers-per-address") entered.1))
    × (service.steps ≡ number_or STEPS (one_of (codes "steps") entered.1))
    × IsAddress (first_of (codes "listen") entered.1) service.listen
    × (service.connections ≡ number_given 4294967296 (one_of (codes "connections") entered.1))
    × (service.http ≡ number_given 4294967296 (one_of (codes "http") entered.1))
    × (map (λ host. host.now) service.hosts.items ≡ unwrap_or (all_of (codes "host") entered.1) [])
    × (service.replays ≡ has_flag (codes "replays") entered.1)
    × (option_map (λ text. text.now) service.title ≡ first_of (codes "title") entered.1)
    × (option_map (λ text. text.now) service.peers_at ≡ first_of (codes "peers-at") entered.1)
    × (service.quiet ≡ has_flag (codes "quiet") entered.1)
    × (service.log_format ≡ form_under (codes "log-format") entered.1)
    × (service.create ≡ has_flag (codes "create") entered.1)
    × (service.draw_seed ≡ draws_seed entered.1)
Asks entered (Session session) = (entered.0 ≡ codes "session")
    × (session.hill.now ≡ text_or_none (first_of (codes "FILE") entered.1))
    × (session.wait ≡ number_or 0 (one_of (codes "wait") entered.1))
    × (session.steps ≡ number_or STEPS (one_of (codes "steps") entered.1))
Asks entered (Audit audited) = (entered.0 ≡ codes "audit")
    × (audited.hill.now ≡ text_or_none (first_of (codes "FILE") entered.1))
    × (audited.view ≡ view_in entered.1)
Asks entered (Migrate files) = (entered.0 ≡ codes "migrate")
    × (files.old.now ≡ text_or_none (first_of (codes "FILE") entered.1))
    × (files.new.now ≡ text_or_none (first_of (codes "NEW") entered.1))
Asks entered (Page file) = (entered.0 ≡ codes "page")
    × (file.now ≡ text_or_none (first_of (codes "FILE") entered.1))
Asks entered (Replay given watched) = (entered.0 ≡ codes "replay") × IsGiven entered.1 given
    × (place watched.older ≡ place_named (codes "MINE") entered.1)
    × (place watched.younger ≡ place_named (codes "OTHER") entered.1)
    × (watched.round ≡ round_in entered.1)
    × (option_map (λ file. file.now) watched.page ≡ first_of (codes "output") entered.1)
    × (option_map (λ text. text.now) watched.define ≡ first_of (codes "define") entered.1)
Asks entered (Trace given traced) = (entered.0 ≡ codes "trace") × IsGiven entered.1 given
    × (place traced.older ≡ place_named (codes "MINE") entered.1)
    × (place traced.younger ≡ place_named (codes "OTHER") entered.1)
    × (traced.round ≡ round_in entered.1)
    × (traced.last ≡ number_given 4294967296 (one_of (codes "last") entered.1))
    × (traced.form ≡ form_in entered.1)
    × (option_map (λ text. text.now) traced.define ≡ first_of (codes "define") entered.1)
Asks entered (Try files define) = (entered.0 ≡ codes "try")
    × (files.hill.now ≡ text_or_none (first_of (codes "FILE") entered.1))
    × (place files.source ≡ place_named (codes "SOURCE") entered.1)
    × (files.view ≡ view_in entered.1)
    × (option_map (λ text. text.now) define ≡ first_of (codes "define") entered.1)
Asks entered (Copy files) = (entered.0 ≡ codes "copy")
    × (files.hill.now ≡ text_or_none (first_of (codes "FILE") entered.1))
    × (files.new.now ≡ text_or_none (first_of (codes "NEW") entered.1))
    × (files.audit ≡ has_flag (codes "audit") entered.1)
Asks entered (Reseed files) = (entered.0 ≡ codes "reseed")
    × (files.hill.now ≡ text_or_none (first_of (codes "FILE") entered.1))
    × (files.new.now ≡ text_or_none (first_of (codes "NEW") entered.1))
    × (files.seed ≡ number_given 4294967296 (one_of (codes "seed") entered.1))
Asks entered (Rank given ranking) = (entered.0 ≡ codes "rank") × IsGiven entered.1 given × NamesField entered.1 ranking
    × (has_flag (codes "join") entered.1 ≡ false)
Asks entered (Join joined) = (entered.0 ≡ codes "rank") × AreJoined entered.1 joined × (has_flag (codes "join") entered.1 ≡ true)
Asks entered (Explain kind) = (entered.0 ≡ codes "explain") × (option_map (λ name. name.now) kind ≡ first_of (codes "KIND") entered.1)

-- the same, if a command was entered
abbrev pub AsksBy : Option (Text × List Row) → Request → Type 0
AsksBy None request = ⊥
AsksBy (Some entered) request = Asks entered request

-- the settings that a request gives, if its command takes any but `serve`, whose hill keeps its own
abbrev pub given_of : Request → Option Given
given_of (Asm given assembled) = Some given
given_of (Check given checked) = Some given
given_of (Fight given files) = Some given
given_of (Many given candidates) = Some given
given_of (Create given creation) = Some given
given_of (Submit files) = None
given_of (SubmitTo given sent) = Some given
given_of (Show shown) = None
given_of (ShowTo shown) = None
given_of (Serve settings service) = None
given_of (Session session) = None
given_of (Audit audited) = None
given_of (Migrate files) = None
given_of (Page file) = None
given_of (Replay given watched) = Some given
given_of (Trace given traced) = Some given
given_of (Try files define) = None
given_of (Copy files) = None
given_of (Reseed files) = None
given_of (Rank given ranking) = Some given
given_of (Join joined) = None
given_of (Explain kind) = None

-- the name of a command
abbrev pub IsCommandName : Text → Type 0
IsCommandName name = (name ≡ codes "asm") ⊎ (name ≡ codes "check") ⊎ (name ≡ codes "fight")
    ⊎ (name ≡ codes "create") ⊎ (name ≡ codes "submit") ⊎ (name ≡ codes "show")
    ⊎ (name ≡ codes "serve") ⊎ (name ≡ codes "session") ⊎ (name ≡ codes "audit") ⊎ (name ≡ codes "migrate") ⊎ (name ≡ codes "page")
    ⊎ (name ≡ codes "replay") ⊎ (name ≡ codes "trace") ⊎ (name ≡ codes "try") ⊎ (name ≡ codes "copy")
    ⊎ (name ≡ codes "reseed") ⊎ (name ≡ codes "rank") ⊎ (name ≡ codes "explain")

-- a command is named
abbrev pub NamesCommand : Option Text → Type 0
NamesCommand None = ⊥
NamesCommand (Some name) = IsCommandName name

-- there is no request, and none for help or the version either
abbrev pub IsRefusal : NoRequest → Type 0
IsRefusal (NoRequest.Help text) = ⊥
IsRefusal (NoRequest.WordFault text) = ⊤
IsRefusal NoRequest.Memory = ⊤

-- there is no request, and the words are not wrong
abbrev pub IsHelp : NoRequest → Type 0
IsHelp (NoRequest.Help text) = ⊤
IsHelp (NoRequest.WordFault text) = ⊥
IsHelp NoRequest.Memory = ⊤
