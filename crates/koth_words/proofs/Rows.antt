-- Rows of the definitions, computed.
use Rattle.{std.proofs.Common.{◌≡◌, true, false, true≢false, List, [], ◌∷◌, Some, None, Ok, codes, refl, sym, inl, inr}, clap.specs.Words.{Row, all_of, fault_of, first_of, one_of, subcommand_of, takes}}
use Rattle.{clap.proofs.OnLiterals.clap_on_literals, clap.specs.declared.error.kind.ErrorKind.ErrorKind, war_types.specs.Settings.settings_of}
use Rattle.koth_words.specs.{Fraction.{part_at, part_in}, Options.{default_settings, number_given, number_or}, Settings.{chosen_in, given_as, over, preset_settings}}
use Rattle.koth_words.specs.{declared.serving.TheConstants.STEPS, Words.{AreTaken, AreWrong, AskForHelp, AsksFor, IsAddress}}
use Rattle.koth_words.specs.Words.{create_named, draw_seed_named, draws_seed, form_named, form_under, given_by, given_in, is_remote, koth_app, matches_named, overwrite_named, reads_input, replays_named, round_in, settings_named}
use Rattle.{koth_words.specs.{Words.view_named, Place.names_port, Sources.{Place, place_named, places_named}, declared.requests.{Form.Form, Round.Round, View.View}}, koth_words.proofs.Addresses.{any_address, every_address, every_address_is_one, every_long_address, every_long_address_is_one, four, not_here, not_to_a_group, not_to_a_mapped_group, not_to_all, not_with_port, this_machine}}

-- the premise of `asm` is met by these words
asm_asks : AsksFor View.Plain (codes "asm") (codes "koth" ∷ codes "asm" ∷ [])
unfolding clap_on_literals koth_app
asm_asks = ((refl, (refl, refl, refl, refl, tt)), refl)

fight_asks : AsksFor View.Plain (codes "fight") (codes "koth" ∷ codes "fight" ∷ codes "a.red" ∷ codes "b.red" ∷ codes "--rounds=3" ∷ [])
unfolding clap_on_literals koth_app
fight_asks = ((refl, (refl, refl, refl, refl, tt)), refl)

hills_ask : AsksFor View.Plain (codes "create") (codes "koth" ∷ codes "create" ∷ codes "a.hill" ∷ codes "--seed=7" ∷ [])
    × AsksFor View.Plain (codes "submit") (codes "koth" ∷ codes "submit" ∷ codes "a.hill" ∷ codes "a.red" ∷ [])
    × AsksFor View.Plain (codes "show") (codes "koth" ∷ codes "show" ∷ codes "a.hill" ∷ [])
    × AsksFor View.Plain (codes "serve") (codes "koth" ∷ codes "serve" ∷ codes "a.hill" ∷ codes "--port=0" ∷ codes "--connections" ∷ codes "4294967295" ∷ [])
    × AsksFor View.Plain (codes "show") (codes "koth" ∷ codes "show" ∷ codes "h.hill" ∷ codes "--matches" ∷ [])
    × AsksFor View.Plain (codes "audit") (codes "koth" ∷ codes "audit" ∷ codes "h.hill" ∷ [])
    × AsksFor View.Plain (codes "migrate") (codes "koth" ∷ codes "migrate" ∷ codes "a.hill" ∷ codes "b.hill" ∷ [])
    × AsksFor View.Plain (codes "page") (codes "koth" ∷ codes "page" ∷ codes "a.hill" ∷ [])
    × AsksFor View.Plain (codes "replay") (codes "koth" ∷ codes "replay" ∷ codes "a.red" ∷ codes "b.red" ∷ codes "--round=1000" ∷ codes "-r5" ∷ [])
unfolding clap_on_literals koth_app
hills_ask = (((refl, (refl, refl, refl, refl, tt)), refl), ((refl, (refl, refl, refl, refl, tt)), refl), ((refl, (refl, refl, refl, refl, tt)), refl), ((refl, (refl, refl, refl, refl, tt)), refl), ((refl, (refl, refl, refl, refl, tt)), refl), ((refl, (refl, refl, refl, refl, tt)), refl), ((refl, (refl, refl, refl, refl, tt)), refl), ((refl, (refl, refl, refl, refl, tt)), refl), ((refl, (refl, refl, refl, refl, tt)), refl))

-- the flag is given if the words have it, after the file or before it, and else not
matches_given : (matches_named (codes "koth" ∷ codes "show" ∷ codes "h.hill" ∷ codes "--matches" ∷ []) ≡ true)
    × (matches_named (codes "koth" ∷ codes "show" ∷ codes "--matches" ∷ codes "h.hill" ∷ []) ≡ true)
    × (matches_named (codes "koth" ∷ codes "show" ∷ codes "h.hill" ∷ []) ≡ false)
unfolding clap_on_literals koth_app
matches_given = (refl, refl, refl)

-- what the words of a migration give it: the first file is that of the hill, and the second that of the new one
abbrev migration_given : List Row
migration_given = given_in (subcommand_of koth_app (codes "koth" ∷ codes "migrate" ∷ codes "a.hill" ∷ codes "b.hill" ∷ []))

migration_files : (first_of (codes "FILE") migration_given ≡ Some (codes "a.hill"))
    × (first_of (codes "NEW") migration_given ≡ Some (codes "b.hill"))
unfolding clap_on_literals koth_app
migration_files = (refl, refl)

-- a flag with a value, a flag that is given twice, a flag of another command and an audit without a file are not taken
flags_not_taken : (takes koth_app (codes "koth" ∷ codes "show" ∷ codes "h.hill" ∷ codes "--matches=true" ∷ []) ≡ false)
    × (takes koth_app (codes "koth" ∷ codes "show" ∷ codes "h.hill" ∷ codes "--matches" ∷ codes "--matches" ∷ []) ≡ false)
    × (takes koth_app (codes "koth" ∷ codes "audit" ∷ codes "h.hill" ∷ codes "--matches" ∷ []) ≡ false)
    × (takes koth_app (codes "koth" ∷ codes "audit" ∷ []) ≡ false)
unfolding clap_on_literals koth_app
flags_not_taken = (refl, refl, refl, refl)

-- a port or a new file too few, a file too many, and a port past 16 bits are not taken
hills_not_taken : (takes koth_app (codes "koth" ∷ codes "serve" ∷ codes "a.hill" ∷ codes "--connections=1" ∷ []) ≡ false)
    × (takes koth_app (codes "koth" ∷ codes "serve" ∷ codes "a.hill" ∷ codes "--port=65536" ∷ codes "--connections=1" ∷ []) ≡ false)
    × (takes koth_app (codes "koth" ∷ codes "migrate" ∷ codes "a.hill" ∷ []) ≡ false)
    × (takes koth_app (codes "koth" ∷ codes "migrate" ∷ codes "a.hill" ∷ codes "b.hill" ∷ codes "c.hill" ∷ []) ≡ false)
unfolding clap_on_literals koth_app
hills_not_taken = (refl, refl, refl, refl)

-- the settings that words give, by one word or by two, with a plus sign or without
given_settings : (settings_named (codes "koth" ∷ codes "asm" ∷ []) ≡ default_settings)
    × (settings_named (codes "koth" ∷ codes "asm" ∷ codes "--core" ∷ codes "64" ∷ codes "--seed=+7" ∷ []) ≡ record default_settings { core = 64; seed = 7 })
unfolding clap_on_literals koth_app
given_settings = (refl, refl)

-- no words, help, a word too many, a file too few, a command or an option that isn't there, no number, a number past 32
-- bits and a setting that is given twice are not taken
not_taken : (takes koth_app (codes "koth" ∷ []) ≡ false)
    × (takes koth_app (codes "koth" ∷ codes "help" ∷ []) ≡ false)
    × (takes koth_app (codes "koth" ∷ codes "asm" ∷ codes "--help" ∷ []) ≡ false)
    × (takes koth_app (codes "koth" ∷ codes "asm" ∷ codes "a.red" ∷ codes "extra" ∷ []) ≡ false)
    × (takes koth_app (codes "koth" ∷ codes "replay" ∷ codes "a.red" ∷ []) ≡ false)
    × (takes koth_app (codes "koth" ∷ codes "asm" ∷ codes "--size=64" ∷ []) ≡ false)
    × (takes koth_app (codes "koth" ∷ codes "asm" ∷ codes "--core=x" ∷ []) ≡ false)
    × (takes koth_app (codes "koth" ∷ codes "asm" ∷ codes "--core=4294967296" ∷ []) ≡ false)
    × (takes koth_app (codes "koth" ∷ codes "asm" ∷ codes "--core=64" ∷ codes "--core=64" ∷ []) ≡ false)
unfolding clap_on_literals koth_app
not_taken = (refl, refl, refl, refl, refl, refl, refl, refl, refl)

-- what clap finds wrong in them
faults : (fault_of koth_app (codes "koth" ∷ []) ≡ ErrorKind.MissingSubcommand ∷ [])
    × (fault_of koth_app (codes "koth" ∷ codes "fly" ∷ []) ≡ ErrorKind.UnknownArgument ∷ ErrorKind.InvalidSubcommand ∷ [])
    × (fault_of koth_app (codes "koth" ∷ codes "fight" ∷ []) ≡ ErrorKind.MissingRequiredArgument ∷ [])
    × (fault_of koth_app (codes "koth" ∷ codes "asm" ∷ codes "a.red" ∷ codes "extra" ∷ []) ≡ ErrorKind.UnknownArgument ∷ [])
    × (fault_of koth_app (codes "koth" ∷ codes "asm" ∷ codes "--core=x" ∷ []) ≡ ErrorKind.ValueValidation ∷ [])
    × (fault_of koth_app (codes "koth" ∷ codes "asm" ∷ codes "--help" ∷ []) ≡ ErrorKind.DisplayHelp ∷ [])
unfolding clap_on_literals koth_app
faults = (refl, refl, refl, refl, refl, refl)

-- no limit is one of the core size
defaults_are_settings : settings_of default_settings ≡ Ok (record default_settings { read_limit = 8000; write_limit = 8000 })
defaults_are_settings = refl

-- the settings of the presets, and numbers that options give in their place
presets : (settings_named (codes "koth" ∷ codes "asm" ∷ codes "--preset" ∷ codes "94nop" ∷ []) ≡ default_settings)
    × (settings_named (codes "koth" ∷ codes "asm" ∷ codes "--preset=tiny" ∷ [])
    ≡ record default_settings { core = 800; cycles = 8000; processes = 800; length = 20; distance = 20 })
    × (settings_named (codes "koth" ∷ codes "fight" ∷ codes "a" ∷ codes "b" ∷ codes "-r5" ∷ codes "--preset=nano" ∷ codes "--cycles=900" ∷ [])
    ≡ record default_settings { core = 80; cycles = 900; processes = 80; length = 5; distance = 5; rounds = 5 })
unfolding clap_on_literals koth_app
presets = (refl, refl, refl)

presets_are_settings : (settings_of (preset_settings (codes "94nop")) ≡ Ok (record default_settings { read_limit = 8000; write_limit = 8000 }))
    × (settings_of (preset_settings (codes "tiny")) ≡ Ok (record (preset_settings (codes "tiny")) { read_limit = 800; write_limit = 800 }))
    × (settings_of (preset_settings (codes "nano")) ≡ Ok (record (preset_settings (codes "nano")) { read_limit = 80; write_limit = 80 }))
presets_are_settings = (refl, refl, refl)

-- the settings of a hill as one gives them, and numbers that options give in their place
likes : AsksFor View.Plain (codes "fight") (codes "koth" ∷ codes "fight" ∷ codes "a" ∷ codes "b" ∷ codes "--like" ∷ codes "h.hill" ∷ codes "--core=900" ∷ [])
    × (first_of (codes "like") (given_by (codes "koth" ∷ codes "fight" ∷ codes "a" ∷ codes "b" ∷ codes "--like" ∷ codes "h.hill" ∷ codes "--core=900" ∷ [])) ≡ Some (codes "h.hill"))
    × (over (given_as (record default_settings { core = 800; seed = 7; read_limit = 800; write_limit = 100 }))
    (chosen_in (given_by (codes "koth" ∷ codes "fight" ∷ codes "a" ∷ codes "b" ∷ codes "--like" ∷ codes "h.hill" ∷ codes "--core=900" ∷ [])))
    ≡ record default_settings { core = 900; seed = 7; write_limit = 100 })
    × (takes koth_app (codes "koth" ∷ codes "serve" ∷ codes "h.hill" ∷ codes "--port=0" ∷ codes "--create" ∷ codes "--like=b.hill" ∷ []) ≡ false)
unfolding clap_on_literals koth_app
likes = (((refl, (refl, refl, refl, refl, tt)), refl), refl, refl, refl)

-- no other preset, no preset beside a hill, and none for a hill that is there
no_presets : AreWrong View.Plain (codes "koth" ∷ codes "asm" ∷ codes "--preset=big" ∷ [])
    × AreWrong View.Plain (codes "koth" ∷ codes "check" ∷ codes "a.red" ∷ codes "--preset=nano" ∷ codes "--like=h.hill" ∷ [])
    × AreWrong View.Plain (codes "koth" ∷ codes "serve" ∷ codes "a.hill" ∷ codes "--port=0" ∷ codes "--preset=94nop" ∷ [])
unfolding clap_on_literals koth_app
no_presets = (inr (refl, λ clear. true≢false (sym clear.1)), inr (refl, λ clear. true≢false (sym clear.0)), inr (refl, λ clear. true≢false (sym clear.3)))

-- the settings of a hill, with its seed or without, and not beside its matches
settings_shown : AsksFor View.Plain (codes "show") (codes "koth" ∷ codes "show" ∷ codes "h.hill" ∷ codes "--settings" ∷ [])
    × AsksFor View.Plain (codes "show") (codes "koth" ∷ codes "show" ∷ codes "h.hill" ∷ codes "--with-seed" ∷ codes "--settings" ∷ [])
    × AreWrong View.Plain (codes "koth" ∷ codes "show" ∷ codes "h.hill" ∷ codes "--settings" ∷ codes "--matches" ∷ [])
    × AreWrong View.Plain (codes "koth" ∷ codes "show" ∷ codes "h.hill" ∷ codes "--with-seed" ∷ [])
unfolding clap_on_literals koth_app
settings_shown = (
  ((refl, (refl, refl, refl, refl, tt)), refl),
  ((refl, (refl, refl, refl, refl, tt)), refl),
  inr (refl, λ clear. true≢false (sym clear.0)),
  inr (refl, λ clear. true≢false (sym clear.3)),
)

-- ---- sources, layouts, formats, and words that `clap` takes and the program refuses

checks_ask : AsksFor View.Plain (codes "check") (codes "koth" ∷ codes "check" ∷ codes "a.red" ∷ codes "-s64" ∷ codes "b.red" ∷ codes "--format" ∷ codes "json" ∷ [])
    × AsksFor View.Plain (codes "asm") (codes "koth" ∷ codes "asm" ∷ codes "a.red" ∷ [])
    × AsksFor View.Plain (codes "create") (codes "koth" ∷ codes "create" ∷ codes "a.hill" ∷ codes "--overwrite" ∷ [])
    × AsksFor View.Plain (codes "serve") (codes "koth" ∷ codes "serve" ∷ codes "a.hill" ∷ codes "--port=0" ∷ codes "--quiet" ∷ [])
unfolding clap_on_literals koth_app
checks_ask = (((refl, (refl, refl, refl, refl, tt)), refl), ((refl, (refl, refl, refl, refl, tt)), refl), ((refl, (refl, refl, refl, refl, tt)), refl), ((refl, (refl, refl, refl, refl, tt)), refl))

-- the files in their order, and the form and the setting among them
checked_files : (all_of (codes "SOURCE") (given_by (codes "koth" ∷ codes "check" ∷ codes "a.red" ∷ codes "-s64" ∷ codes "b.red" ∷ codes "--format=json" ∷ [])) ≡ Some (codes "a.red" ∷ codes "b.red" ∷ []))
    × (form_named (codes "koth" ∷ codes "check" ∷ codes "a.red" ∷ codes "--format=json" ∷ []) ≡ Form.Json)
    × (form_named (codes "koth" ∷ codes "check" ∷ codes "a.red" ∷ []) ≡ Form.Text)
    × (settings_named (codes "koth" ∷ codes "check" ∷ codes "a.red" ∷ codes "-s64" ∷ codes "b.red" ∷ []) ≡ record default_settings { core = 64 })
unfolding clap_on_literals koth_app
checked_files = (refl, refl, refl, refl)

-- the letters that pMARS has for the settings
letters : settings_named (codes "koth" ∷ codes "fight" ∷ codes "a" ∷ codes "b" ∷ codes "-s" ∷ codes "80" ∷ codes "-c" ∷ codes "5" ∷ codes "-p" ∷ codes "4" ∷ codes "-l" ∷ codes "3" ∷ codes "-d" ∷ codes "20" ∷ codes "-r1" ∷ [])
    ≡ record default_settings { core = 80; cycles = 5; processes = 4; length = 3; distance = 20; rounds = 1 }
unfolding clap_on_literals koth_app
letters = refl

inputs : (reads_input (codes "koth" ∷ codes "asm" ∷ []) ≡ true) × (reads_input (codes "koth" ∷ codes "asm" ∷ codes "-" ∷ []) ≡ true)
    × (reads_input (codes "koth" ∷ codes "asm" ∷ codes "a.red" ∷ []) ≡ false)
unfolding clap_on_literals koth_app
inputs = (refl, refl, refl)

layouts : (view_named (codes "koth" ∷ codes "show" ∷ codes "h.hill" ∷ codes "--plain" ∷ []) ≡ Some View.Plain)
    × (view_named (codes "koth" ∷ codes "fight" ∷ codes "a" ∷ codes "--table" ∷ codes "b" ∷ []) ≡ Some View.Table)
    × (view_named (codes "koth" ∷ codes "audit" ∷ codes "h.hill" ∷ codes "--format=json" ∷ []) ≡ Some View.Json)
    × (view_named (codes "koth" ∷ codes "submit" ∷ codes "h.hill" ∷ codes "a.red" ∷ []) ≡ None)
unfolding clap_on_literals koth_app
layouts = (refl, refl, refl, refl)

flags : (overwrite_named (codes "koth" ∷ codes "create" ∷ codes "h.hill" ∷ codes "--overwrite" ∷ []) ≡ true)
    × (overwrite_named (codes "koth" ∷ codes "create" ∷ codes "h.hill" ∷ []) ≡ false)
    × (draw_seed_named (codes "koth" ∷ codes "create" ∷ codes "h.hill" ∷ codes "--draw-seed" ∷ []) ≡ true)
    × (draw_seed_named (codes "koth" ∷ codes "create" ∷ codes "h.hill" ∷ codes "--overwrite" ∷ []) ≡ false)
    × (number_given 4294967296 (one_of (codes "connections") (given_by (codes "koth" ∷ codes "serve" ∷ codes "h.hill" ∷ codes "--port=0" ∷ []))) ≡ None)
unfolding clap_on_literals koth_app
flags = (refl, refl, refl, refl, refl)

-- two layouts, an unknown format and no file to check are not taken
unclear : ¬ AreTaken View.Plain (codes "koth" ∷ codes "show" ∷ codes "h.hill" ∷ codes "--plain" ∷ codes "--table" ∷ [])
    × ¬ AreTaken View.Plain (codes "koth" ∷ codes "check" ∷ codes "a.red" ∷ codes "--format=xml" ∷ [])
    × ¬ AreTaken View.Plain (codes "koth" ∷ codes "check" ∷ [])
unfolding clap_on_literals koth_app
unclear = (λ taken. true≢false (sym taken.1.0), λ taken. true≢false (sym taken.1.1), λ taken. true≢false (sym taken.0))

-- and the first two are wrong
two_layouts_wrong : AreWrong View.Plain (codes "koth" ∷ codes "show" ∷ codes "h.hill" ∷ codes "--plain" ∷ codes "--table" ∷ [])
    × AreWrong View.Plain (codes "koth" ∷ codes "fight" ∷ codes "a" ∷ codes "b" ∷ codes "--table" ∷ codes "--format=json" ∷ [])
    × AreWrong View.Plain (codes "koth" ∷ codes "check" ∷ codes "a.red" ∷ codes "--format=xml" ∷ [])
unfolding clap_on_literals koth_app
two_layouts_wrong = (inr (refl, λ clear. true≢false (sym clear.0)), inr (refl, λ clear. true≢false (sym clear.0)), inr (refl, λ clear. true≢false (sym clear.1)))

-- the version is asked for by a word or a letter, and of the program alone
versions : (fault_of koth_app (codes "koth" ∷ codes "--version" ∷ []) ≡ ErrorKind.DisplayVersion ∷ [])
    × (fault_of koth_app (codes "koth" ∷ codes "-V" ∷ []) ≡ ErrorKind.DisplayVersion ∷ [])
    × (fault_of koth_app (codes "koth" ∷ codes "asm" ∷ codes "--version" ∷ []) ≡ ErrorKind.UnknownArgument ∷ [])
unfolding clap_on_literals koth_app
versions = (refl, refl, refl)

-- help and the version are asked for
helps : AskForHelp (codes "koth" ∷ codes "--help" ∷ []) × AskForHelp (codes "koth" ∷ codes "fight" ∷ codes "-h" ∷ [])
    × AskForHelp (codes "koth" ∷ codes "--version" ∷ [])
unfolding clap_on_literals koth_app
helps = (inl refl, inl refl, inr refl)

-- ---- a service of many, and a round that is shown

-- what the words of a service give it, and what they give it if the options are left out
abbrev many_given : List Row
many_given = given_by (codes "koth" ∷ codes "serve" ∷ codes "a.hill" ∷ codes "--port=0" ∷ codes "--peers" ∷ codes "1024" ∷ codes "--peers-per-address=4" ∷ codes "--steps=5" ∷ codes "--listen=0.0.0.0" ∷ codes "--http=8080" ∷ [])

abbrev plain_given : List Row
plain_given = given_by (codes "koth" ∷ codes "serve" ∷ codes "a.hill" ∷ codes "--port=0" ∷ [])

services : (number_or 64 (one_of (codes "peers") many_given) ≡ 1024)
    × (number_given 4294967296 (one_of (codes "peers-per-address") many_given) ≡ Some 4)
    × (number_or STEPS (one_of (codes "steps") many_given) ≡ 5)
    × (first_of (codes "listen") many_given ≡ Some (codes "0.0.0.0"))
    × (number_given 4294967296 (one_of (codes "http") many_given) ≡ Some 8080)
    × (number_or 64 (one_of (codes "peers") plain_given) ≡ 64)
    × (number_given 4294967296 (one_of (codes "peers-per-address") plain_given) ≡ None)
    × (number_or STEPS (one_of (codes "steps") plain_given) ≡ 25000)
    × (first_of (codes "listen") plain_given ≡ None)
    × (number_given 4294967296 (one_of (codes "http") plain_given) ≡ None)
    × (replays_named (codes "koth" ∷ codes "serve" ∷ codes "a.hill" ∷ codes "--port=0" ∷ codes "--http=8080" ∷ codes "--replays" ∷ []) ≡ true)
    × (replays_named (codes "koth" ∷ codes "serve" ∷ codes "a.hill" ∷ codes "--port=0" ∷ codes "--http=8080" ∷ []) ≡ false)
unfolding clap_on_literals koth_app
services = (refl, refl, refl, refl, refl, refl, refl, refl, refl, refl, refl, refl)

-- an address of either kind is given, and 127.0.0.1 is the one if the option is left out
addresses_ask : AsksFor View.Plain (codes "serve") (codes "koth" ∷ codes "serve" ∷ codes "a.hill" ∷ codes "--port=0" ∷ codes "--listen=0.0.0.0" ∷ [])
    × AsksFor View.Plain (codes "serve") (codes "koth" ∷ codes "serve" ∷ codes "a.hill" ∷ codes "--port=0" ∷ codes "--listen" ∷ codes "::" ∷ [])
    × IsAddress None (four (127 ∷ 0 ∷ 0 ∷ 1 ∷ []))
unfolding clap_on_literals koth_app
addresses_ask = (((refl, (refl, refl, refl, refl, (four (0 ∷ 0 ∷ 0 ∷ 0 ∷ []), every_address, every_address_is_one))), refl), ((refl, (refl, refl, refl, refl, (any_address, every_long_address, every_long_address_is_one))), refl), this_machine)

-- no name of a machine, and no address with a port
names_wrong : AreWrong View.Plain (codes "koth" ∷ codes "serve" ∷ codes "a.hill" ∷ codes "--port=0" ∷ codes "--listen=here" ∷ [])
    × AreWrong View.Plain (codes "koth" ∷ codes "serve" ∷ codes "a.hill" ∷ codes "--port=0" ∷ codes "--listen=0.0.0.0:80" ∷ [])
unfolding clap_on_literals koth_app
names_wrong = (inr (refl, λ clear. not_here _ clear.4.1), inr (refl, λ clear. not_with_port _ clear.4.1))

-- no address of all machines in a network, and none of a group of them, as an IPv6 address neither
groups_wrong : AreWrong View.Plain (codes "koth" ∷ codes "serve" ∷ codes "a.hill" ∷ codes "--port=0" ∷ codes "--listen=255.255.255.255" ∷ [])
    × AreWrong View.Plain (codes "koth" ∷ codes "serve" ∷ codes "a.hill" ∷ codes "--port=0" ∷ codes "--listen=224.0.0.1" ∷ [])
    × AreWrong View.Plain (codes "koth" ∷ codes "serve" ∷ codes "a.hill" ∷ codes "--port=0" ∷ codes "--listen=::ffff:224.0.0.1" ∷ [])
unfolding clap_on_literals koth_app
groups_wrong = (inr (refl, λ clear. not_to_all clear.4), inr (refl, λ clear. not_to_a_group clear.4), inr (refl, λ clear. not_to_a_mapped_group clear.4))

-- what browsers are shown, and the names that they ask for, need pages
without_pages : AreWrong View.Plain (codes "koth" ∷ codes "serve" ∷ codes "a.hill" ∷ codes "--port=0" ∷ codes "--replays" ∷ [])
    × AreWrong View.Plain (codes "koth" ∷ codes "serve" ∷ codes "a.hill" ∷ codes "--port=0" ∷ codes "--host=hill.example" ∷ [])
    × AreWrong View.Plain (codes "koth" ∷ codes "serve" ∷ codes "a.hill" ∷ codes "--port=0" ∷ codes "--peers-at=hill.example:80" ∷ [])
    × AsksFor View.Plain (codes "serve") (codes "koth" ∷ codes "serve" ∷ codes "a.hill" ∷ codes "--port=0" ∷ codes "--http=0" ∷ codes "--host=hill.example" ∷ codes "--replays" ∷ codes "--title=A hill" ∷ [])
unfolding clap_on_literals koth_app
without_pages = (
  inr (refl, λ clear. true≢false (sym clear.3)),
  inr (refl, λ clear. true≢false (sym clear.3)),
  inr (refl, λ clear. true≢false (sym clear.3)),
  ((refl, (refl, refl, refl, refl, tt)), refl),
)

-- the round that is shown, and the rounds of its match
rounds : (round_in (given_by (codes "koth" ∷ codes "replay" ∷ codes "a" ∷ codes "b" ∷ codes "--round" ∷ codes "7" ∷ [])) ≡ Round.Number 7)
    × (round_in (given_by (codes "koth" ∷ codes "replay" ∷ codes "a" ∷ codes "b" ∷ codes "--rounds=7" ∷ [])) ≡ Round.Number 1)
    × (round_in (given_by (codes "koth" ∷ codes "replay" ∷ codes "a" ∷ codes "b" ∷ codes "--lost" ∷ [])) ≡ Round.Lost)
    × (round_in (given_by (codes "koth" ∷ codes "replay" ∷ codes "--won" ∷ codes "a" ∷ codes "b" ∷ [])) ≡ Round.Won)
    × (round_in (given_by (codes "koth" ∷ codes "replay" ∷ codes "a" ∷ codes "b" ∷ codes "--tied" ∷ [])) ≡ Round.Tied)
    × (settings_named (codes "koth" ∷ codes "replay" ∷ codes "a" ∷ codes "b" ∷ codes "--round=2" ∷ codes "--rounds=7" ∷ []) ≡ record default_settings { rounds = 7 })
unfolding clap_on_literals koth_app
rounds = (refl, refl, refl, refl, refl, refl)

-- one round of those that are asked for
no_rounds : AreWrong View.Plain (codes "koth" ∷ codes "replay" ∷ codes "a" ∷ codes "b" ∷ codes "--lost" ∷ codes "--won" ∷ [])
    × AreWrong View.Plain (codes "koth" ∷ codes "replay" ∷ codes "a" ∷ codes "b" ∷ codes "--round=2" ∷ codes "--tied" ∷ [])
unfolding clap_on_literals koth_app
no_rounds = (inr (refl, λ clear. true≢false (sym clear.0)), inr (refl, λ clear. true≢false (sym clear.0)))

-- where tables are for people, a page needs a file
pages : AsksFor View.Table (codes "replay") (codes "koth" ∷ codes "replay" ∷ codes "a" ∷ codes "b" ∷ codes "-o" ∷ codes "page.html" ∷ [])
    × (first_of (codes "output") (given_by (codes "koth" ∷ codes "replay" ∷ codes "a" ∷ codes "b" ∷ codes "-o" ∷ codes "page.html" ∷ [])) ≡ Some (codes "page.html"))
    × AreWrong View.Table (codes "koth" ∷ codes "replay" ∷ codes "a" ∷ codes "b" ∷ [])
    × AsksFor View.Plain (codes "replay") (codes "koth" ∷ codes "replay" ∷ codes "a" ∷ codes "b" ∷ [])
    × AsksFor View.Table (codes "fight") (codes "koth" ∷ codes "fight" ∷ codes "a" ∷ codes "b" ∷ [])
unfolding clap_on_literals koth_app
pages = (((refl, (refl, refl, refl, refl, tt)), refl), refl, inr (refl, λ clear. true≢false (sym clear.3)), ((refl, (refl, refl, refl, refl, tt)), refl), ((refl, (refl, refl, refl, refl, tt)), refl))

-- the turns of a round that are written, on a terminal too
traces : AsksFor View.Table (codes "trace") (codes "koth" ∷ codes "trace" ∷ codes "a" ∷ codes "b" ∷ codes "--lost" ∷ [])
    × (round_in (given_by (codes "koth" ∷ codes "trace" ∷ codes "a" ∷ codes "b" ∷ codes "--round=7" ∷ codes "--last=20" ∷ [])) ≡ Round.Number 7)
    × (number_given 4294967296 (one_of (codes "last") (given_by (codes "koth" ∷ codes "trace" ∷ codes "a" ∷ codes "b" ∷ codes "--round=7" ∷ codes "--last=20" ∷ []))) ≡ Some 20)
    × (number_given 4294967296 (one_of (codes "last") (given_by (codes "koth" ∷ codes "trace" ∷ codes "a" ∷ codes "b" ∷ []))) ≡ None)
    × (form_named (codes "koth" ∷ codes "trace" ∷ codes "a" ∷ codes "b" ∷ codes "--format=json" ∷ []) ≡ Form.Json)
    × (form_named (codes "koth" ∷ codes "trace" ∷ codes "a" ∷ codes "b" ∷ []) ≡ Form.Text)
    × (takes koth_app (codes "koth" ∷ codes "trace" ∷ codes "a" ∷ codes "b" ∷ codes "--last=0" ∷ []) ≡ false)
    × (takes koth_app (codes "koth" ∷ codes "trace" ∷ codes "a" ∷ codes "b" ∷ codes "--output=t" ∷ []) ≡ false)
    × AreWrong View.Plain (codes "koth" ∷ codes "trace" ∷ codes "a" ∷ codes "b" ∷ codes "--lost" ∷ codes "--won" ∷ [])
unfolding clap_on_literals koth_app
traces = (((refl, (refl, refl, refl, refl, tt)), refl), refl, refl, refl, refl, refl, refl, refl, inr (refl, λ clear. true≢false (sym clear.0)))

-- an opponent or more, each in its place, and rounds one by one of one match alone
opponents : AsksFor View.Plain (codes "fight") (codes "koth" ∷ codes "fight" ∷ codes "a" ∷ codes "b" ∷ codes "c" ∷ codes "--both" ∷ codes "d" ∷ [])
    × (places_named (codes "OTHER") (given_by (codes "koth" ∷ codes "fight" ∷ codes "a" ∷ codes "b" ∷ codes "-" ∷ codes "--name=mine.red" ∷ []))
    ≡ Place.File (codes "b") ∷ Place.Input (codes "mine.red") ∷ [])
    × (place_named (codes "MINE") (given_by (codes "koth" ∷ codes "fight" ∷ codes "-" ∷ codes "b" ∷ [])) ≡ Place.Input (codes "standard input"))
    × AsksFor View.Plain (codes "fight") (codes "koth" ∷ codes "fight" ∷ codes "a" ∷ codes "b" ∷ codes "--each" ∷ [])
    × AreWrong View.Plain (codes "koth" ∷ codes "fight" ∷ codes "a" ∷ codes "b" ∷ codes "c" ∷ codes "--each" ∷ [])
    × AreWrong View.Plain (codes "koth" ∷ codes "fight" ∷ codes "a" ∷ codes "b" ∷ codes "--both" ∷ codes "--each" ∷ [])
    × AreWrong View.Plain (codes "koth" ∷ codes "fight" ∷ codes "a" ∷ [])
unfolding clap_on_literals koth_app
opponents = (
  ((refl, (refl, refl, refl, refl, tt)), refl),
  refl,
  refl,
  ((refl, (refl, refl, refl, refl, tt)), refl),
  inr (refl, λ clear. true≢false (sym clear.2)),
  inr (refl, λ clear. true≢false (sym clear.2)),
  inr (refl, λ clear. true≢false (sym clear.2)),
)

-- warriors that come by standard input: of them the first file is an opponent too, and each is answered by one line
candidates : AsksFor View.Plain (codes "fight") (codes "koth" ∷ codes "fight" ∷ codes "--many" ∷ codes "a" ∷ [])
    × (place_named (codes "MINE") (given_by (codes "koth" ∷ codes "fight" ∷ codes "a" ∷ codes "b" ∷ codes "--many" ∷ [])) ≡ Place.File (codes "a"))
    × (places_named (codes "OTHER") (given_by (codes "koth" ∷ codes "fight" ∷ codes "a" ∷ codes "b" ∷ codes "--many" ∷ [])) ≡ Place.File (codes "b") ∷ [])
    × (takes koth_app (codes "koth" ∷ codes "fight" ∷ codes "--many" ∷ []) ≡ false)
    × AreWrong View.Plain (codes "koth" ∷ codes "fight" ∷ codes "--many" ∷ codes "a" ∷ codes "-" ∷ [])
    × AreWrong View.Plain (codes "koth" ∷ codes "fight" ∷ codes "--many" ∷ codes "a" ∷ codes "--both" ∷ [])
    × AreWrong View.Plain (codes "koth" ∷ codes "fight" ∷ codes "--many" ∷ codes "a" ∷ codes "--each" ∷ [])
    × AreWrong View.Plain (codes "koth" ∷ codes "fight" ∷ codes "--many" ∷ codes "a" ∷ codes "--define=X=1" ∷ [])
    × AreWrong View.Plain (codes "koth" ∷ codes "fight" ∷ codes "--many" ∷ codes "a" ∷ codes "--plain" ∷ [])
unfolding clap_on_literals koth_app
candidates = (
  ((refl, (refl, refl, refl, refl, tt)), refl),
  refl,
  refl,
  refl,
  inr (refl, λ clear. true≢false (sym clear.2)),
  inr (refl, λ clear. true≢false (sym clear.2)),
  inr (refl, λ clear. true≢false (sym clear.2)),
  inr (refl, λ clear. true≢false (sym clear.2)),
  inr (refl, λ clear. true≢false (sym clear.2)),
)

-- another body for a name is given whole, once, and to commands that read sources
defines : (first_of (codes "define") (given_by (codes "koth" ∷ codes "asm" ∷ codes "--define" ∷ codes "STEP=4 + 1" ∷ [])) ≡ Some (codes "STEP=4 + 1"))
    × (first_of (codes "define") (given_by (codes "koth" ∷ codes "asm" ∷ codes "a" ∷ [])) ≡ None)
    × (takes koth_app (codes "koth" ∷ codes "asm" ∷ codes "--define=A=1" ∷ codes "--define=B=2" ∷ []) ≡ false)
    × (takes koth_app (codes "koth" ∷ codes "rank" ∷ codes "a" ∷ codes "--define=A=1" ∷ []) ≡ false)
    × AsksFor View.Plain (codes "check") (codes "koth" ∷ codes "check" ∷ codes "a" ∷ codes "--define=A=1" ∷ [])
    × AsksFor View.Plain (codes "fight") (codes "koth" ∷ codes "fight" ∷ codes "a" ∷ codes "b" ∷ codes "--define=A=1" ∷ [])
    × AsksFor View.Plain (codes "replay") (codes "koth" ∷ codes "replay" ∷ codes "a" ∷ codes "b" ∷ codes "--define=A=1" ∷ [])
    × AsksFor View.Plain (codes "trace") (codes "koth" ∷ codes "trace" ∷ codes "a" ∷ codes "b" ∷ codes "--define=A=1" ∷ [])
    × AsksFor View.Plain (codes "try") (codes "koth" ∷ codes "try" ∷ codes "a.hill" ∷ codes "a" ∷ codes "--define=A=1" ∷ [])
unfolding clap_on_literals koth_app
defines = (refl, refl, refl, refl, ((refl, (refl, refl, refl, refl, tt)), refl), ((refl, (refl, refl, refl, refl, tt)), refl), ((refl, (refl, refl, refl, refl, tt)), refl), ((refl, (refl, refl, refl, refl, tt)), refl), ((refl, (refl, refl, refl, refl, tt)), refl))

-- a listing, the load text of one warrior of a hill in a file, and a kind that is explained
listings : AsksFor View.Plain (codes "asm") (codes "koth" ∷ codes "asm" ∷ codes "a" ∷ codes "--listing" ∷ [])
    × (number_given 4294967296 (one_of (codes "entry") (given_by (codes "koth" ∷ codes "show" ∷ codes "a.hill" ∷ codes "--entry=7" ∷ []))) ≡ Some 7)
    × (number_given 4294967296 (one_of (codes "entry") (given_by (codes "koth" ∷ codes "show" ∷ codes "a.hill" ∷ []))) ≡ None)
    × (takes koth_app (codes "koth" ∷ codes "show" ∷ codes "a.hill" ∷ codes "--entry=0" ∷ []) ≡ false)
    × AreWrong View.Plain (codes "koth" ∷ codes "show" ∷ codes "a.hill" ∷ codes "--entry=7" ∷ codes "--matches" ∷ [])
    × AreWrong View.Plain (codes "koth" ∷ codes "show" ∷ codes "a.hill" ∷ codes "--entry=7" ∷ codes "--settings" ∷ [])
    × AreWrong View.Plain (codes "koth" ∷ codes "show" ∷ codes "a.hill" ∷ codes "--entry=7" ∷ codes "--plain" ∷ [])
    × AreWrong View.Plain (codes "koth" ∷ codes "show" ∷ codes "--to=a:1" ∷ codes "--entry=7" ∷ [])
    × AsksFor View.Plain (codes "explain") (codes "koth" ∷ codes "explain" ∷ [])
    × (first_of (codes "KIND") (given_by (codes "koth" ∷ codes "explain" ∷ codes "NoEqu" ∷ [])) ≡ Some (codes "NoEqu"))
    × AsksFor View.Plain (codes "explain") (codes "koth" ∷ codes "explain" ∷ codes "NoEqu" ∷ [])
unfolding clap_on_literals koth_app
listings = (((refl, (refl, refl, refl, refl, tt)), refl), refl, refl, refl, inr (refl, λ clear. true≢false (sym clear.0)), inr (refl, λ clear. true≢false (sym clear.0)), inr (refl, λ clear. true≢false (sym clear.0)), inr (refl, λ clear. true≢false (sym clear.3)), ((refl, (refl, refl, refl, refl, tt)), refl), refl, ((refl, (refl, refl, refl, refl, tt)), refl))

-- one source at most is the input, and only it has a name for messages
inputs_given : AsksFor View.Plain (codes "submit") (codes "koth" ∷ codes "submit" ∷ codes "a.hill" ∷ codes "-" ∷ codes "--name=a.red" ∷ [])
    × AsksFor View.Plain (codes "asm") (codes "koth" ∷ codes "asm" ∷ codes "--name=a.red" ∷ [])
    × AreWrong View.Plain (codes "koth" ∷ codes "check" ∷ codes "-" ∷ codes "a.red" ∷ codes "-" ∷ [])
    × AreWrong View.Plain (codes "koth" ∷ codes "replay" ∷ codes "-" ∷ codes "-" ∷ [])
    × AreWrong View.Plain (codes "koth" ∷ codes "try" ∷ codes "a.hill" ∷ codes "a.red" ∷ codes "--name=b.red" ∷ [])
    × AsksFor View.Plain (codes "show") (codes "koth" ∷ codes "show" ∷ codes "-" ∷ [])
unfolding clap_on_literals koth_app
inputs_given = (((refl, (refl, refl, refl, refl, tt)), refl), ((refl, (refl, refl, refl, refl, tt)), refl), inr (refl, λ clear. true≢false (sym clear.2)), inr (refl, λ clear. true≢false (sym clear.2)), inr (refl, λ clear. true≢false (sym clear.2)), ((refl, (refl, refl, refl, refl, tt)), refl))

-- warnings, and what is denied
warnings : AsksFor View.Plain (codes "check") (codes "koth" ∷ codes "check" ∷ codes "a" ∷ codes "--warnings" ∷ codes "--deny" ∷ codes "warnings" ∷ [])
    × AreWrong View.Plain (codes "koth" ∷ codes "check" ∷ codes "a" ∷ codes "--deny=all" ∷ [])
unfolding clap_on_literals koth_app
warnings = (((refl, (refl, refl, refl, refl, tt)), refl), inr (refl, λ clear. true≢false (sym clear.1)))

-- the seconds for which a submission waits, and none if that isn't asked for
waits : (number_or 0 (one_of (codes "wait") (given_by (codes "koth" ∷ codes "submit" ∷ codes "a.hill" ∷ codes "a.red" ∷ codes "--wait=30" ∷ []))) ≡ 30)
    × (number_or 0 (one_of (codes "wait") (given_by (codes "koth" ∷ codes "submit" ∷ codes "a.hill" ∷ codes "a.red" ∷ []))) ≡ 0)
    × (takes koth_app (codes "koth" ∷ codes "submit" ∷ codes "a.hill" ∷ codes "a.red" ∷ codes "--wait=0" ∷ []) ≡ false)
    × (takes koth_app (codes "koth" ∷ codes "submit" ∷ codes "a.hill" ∷ codes "a.red" ∷ codes "--wait=3601" ∷ []) ≡ false)
    × (takes koth_app (codes "koth" ∷ codes "audit" ∷ codes "a.hill" ∷ codes "--wait=1" ∷ []) ≡ false)
unfolding clap_on_literals koth_app
waits = (refl, refl, refl, refl, refl)

-- the seconds for which a session waits, and the steps of its sources: those of a service if none are given
session_words : (number_or 0 (one_of (codes "wait") (given_by (codes "koth" ∷ codes "session" ∷ codes "a.hill" ∷ codes "--wait=30" ∷ []))) ≡ 30)
    × (number_or STEPS (one_of (codes "steps") (given_by (codes "koth" ∷ codes "session" ∷ codes "a.hill" ∷ codes "--steps=9" ∷ []))) ≡ 9)
    × (number_or STEPS (one_of (codes "steps") (given_by (codes "koth" ∷ codes "session" ∷ codes "a.hill" ∷ []))) ≡ 25000)
    × (takes koth_app (codes "koth" ∷ codes "session" ∷ []) ≡ false)
    × (takes koth_app (codes "koth" ∷ codes "session" ∷ codes "a.hill" ∷ codes "--port=0" ∷ []) ≡ false)
unfolding clap_on_literals koth_app
session_words = (refl, refl, refl, refl, refl)

-- no peers, peers past the greatest, in all or of one address, a port past the greatest, no rounds or rounds past the greatest, and a round of a command that shows none are not taken
ranges : (takes koth_app (codes "koth" ∷ codes "serve" ∷ codes "a.hill" ∷ codes "--port=0" ∷ codes "--peers=0" ∷ []) ≡ false)
    × (takes koth_app (codes "koth" ∷ codes "serve" ∷ codes "a.hill" ∷ codes "--port=0" ∷ codes "--peers=1025" ∷ []) ≡ false)
    × (takes koth_app (codes "koth" ∷ codes "serve" ∷ codes "a.hill" ∷ codes "--port=0" ∷ codes "--peers-per-address=0" ∷ []) ≡ false)
    × (takes koth_app (codes "koth" ∷ codes "serve" ∷ codes "a.hill" ∷ codes "--port=0" ∷ codes "--peers-per-address=1025" ∷ []) ≡ false)
    × (takes koth_app (codes "koth" ∷ codes "serve" ∷ codes "a.hill" ∷ codes "--port=0" ∷ codes "--http=65536" ∷ []) ≡ false)
    × (takes koth_app (codes "koth" ∷ codes "replay" ∷ codes "a" ∷ codes "b" ∷ codes "--round=0" ∷ []) ≡ false)
    × (takes koth_app (codes "koth" ∷ codes "replay" ∷ codes "a" ∷ codes "b" ∷ codes "--round=1001" ∷ []) ≡ false)
    × (takes koth_app (codes "koth" ∷ codes "fight" ∷ codes "a" ∷ codes "b" ∷ codes "--round=1" ∷ []) ≡ false)
unfolding clap_on_literals koth_app
ranges = (refl, refl, refl, refl, refl, refl, refl, refl)

-- a service whose hill is created with the settings that are given, and one without settings
creations : AsksFor View.Plain (codes "serve") (codes "koth" ∷ codes "serve" ∷ codes "a.hill" ∷ codes "--port=0" ∷ codes "--core=64" ∷ codes "--create" ∷ codes "-r5" ∷ [])
    × (settings_named (codes "koth" ∷ codes "serve" ∷ codes "a.hill" ∷ codes "--port=0" ∷ codes "--core=64" ∷ codes "--create" ∷ codes "-r5" ∷ []) ≡ record default_settings { core = 64; rounds = 5 })
    × (create_named (codes "koth" ∷ codes "serve" ∷ codes "a.hill" ∷ codes "--port=0" ∷ codes "--core=64" ∷ codes "--create" ∷ codes "-r5" ∷ []) ≡ true)
    × (create_named (codes "koth" ∷ codes "serve" ∷ codes "a.hill" ∷ codes "--port=0" ∷ []) ≡ false)
unfolding clap_on_literals koth_app
creations = (((refl, (refl, refl, refl, refl, tt)), refl), refl, refl, refl)

-- the form of the lines of a service
logs : (form_under (codes "log-format") (given_by (codes "koth" ∷ codes "serve" ∷ codes "a.hill" ∷ codes "--port=0" ∷ codes "--log-format=json" ∷ [])) ≡ Form.Json)
    × (form_under (codes "log-format") (given_by (codes "koth" ∷ codes "serve" ∷ codes "a.hill" ∷ codes "--port=0" ∷ [])) ≡ Form.Text)
    × AsksFor View.Plain (codes "serve") (codes "koth" ∷ codes "serve" ∷ codes "a.hill" ∷ codes "--port=0" ∷ codes "--log-format=text" ∷ [])
    × AreWrong View.Plain (codes "koth" ∷ codes "serve" ∷ codes "a.hill" ∷ codes "--port=0" ∷ codes "--log-format=xml" ∷ [])
unfolding clap_on_literals koth_app
logs = (refl, refl, ((refl, (refl, refl, refl, refl, tt)), refl), inr (refl, λ clear. true≢false (sym clear.1)))

-- the seed of a hill that is created is drawn if none is given, be it the default one
drawn_for_service : (draws_seed (given_by (codes "koth" ∷ codes "serve" ∷ codes "a.hill" ∷ codes "--port=0" ∷ codes "--create" ∷ [])) ≡ true)
    × (draws_seed (given_by (codes "koth" ∷ codes "serve" ∷ codes "a.hill" ∷ codes "--port=0" ∷ codes "--create" ∷ codes "--seed=1" ∷ [])) ≡ false)
    × (draws_seed (given_by (codes "koth" ∷ codes "serve" ∷ codes "a.hill" ∷ codes "--port=0" ∷ [])) ≡ false)
unfolding clap_on_literals koth_app
drawn_for_service = (refl, refl, refl)

-- settings for a hill that is there are wrong, the default ones too
unused_settings : AreWrong View.Plain (codes "koth" ∷ codes "serve" ∷ codes "a.hill" ∷ codes "--port=0" ∷ codes "--core=64" ∷ [])
    × AreWrong View.Plain (codes "koth" ∷ codes "serve" ∷ codes "a.hill" ∷ codes "--port=0" ∷ codes "--seed=1" ∷ [])
unfolding clap_on_literals koth_app
unused_settings = (inr (refl, λ clear. true≢false (sym clear.3)), inr (refl, λ clear. true≢false (sym clear.3)))

-- a seed is drawn or given, and not both
drawn_seeds : AsksFor View.Plain (codes "create") (codes "koth" ∷ codes "create" ∷ codes "h.hill" ∷ codes "--draw-seed" ∷ codes "--capacity=5" ∷ [])
    × AreWrong View.Plain (codes "koth" ∷ codes "create" ∷ codes "h.hill" ∷ codes "--draw-seed" ∷ codes "--seed=1" ∷ [])
    × (takes koth_app (codes "koth" ∷ codes "fight" ∷ codes "a" ∷ codes "b" ∷ codes "--draw-seed" ∷ []) ≡ false)
unfolding clap_on_literals koth_app
drawn_seeds = (((refl, (refl, refl, refl, refl, tt)), refl), inr (refl, λ clear. true≢false (sym clear.0)), refl)

-- a field of folders and files, in their order; of no folder there is none, and only one of its sources is the input
fields : AsksFor View.Plain (codes "rank") (codes "koth" ∷ codes "rank" ∷ codes "a" ∷ codes "--both" ∷ codes "b.red" ∷ codes "--rounds=3" ∷ [])
    × (places_named (codes "FOLDER") (given_by (codes "koth" ∷ codes "rank" ∷ codes "a" ∷ codes "-" ∷ codes "b" ∷ []))
    ≡ Place.File (codes "a") ∷ Place.Input (codes "standard input") ∷ Place.File (codes "b") ∷ [])
    × (fault_of koth_app (codes "koth" ∷ codes "rank" ∷ codes "--both" ∷ []) ≡ ErrorKind.MissingRequiredArgument ∷ [])
    × AreWrong View.Plain (codes "koth" ∷ codes "rank" ∷ codes "-" ∷ codes "-" ∷ [])
unfolding clap_on_literals koth_app
fields = (((refl, (refl, refl, refl, refl, tt)), refl), refl, refl, inr (refl, λ clear. true≢false (sym clear.2)))

-- a part of a field's matches, parts that are joined, and no table of a part
abbrev many_parts : List Row
many_parts = given_by (codes "koth" ∷ codes "rank" ∷ codes "a" ∷ codes "--part=2/7" ∷ [])

parts : (part_in many_parts ≡ Some (record { number = 2; count = 7 }))
    × (part_in (given_by (codes "koth" ∷ codes "rank" ∷ codes "a" ∷ [])) ≡ None)
    × (part_at (codes "007/4294967295") ≡ Some (record { number = 7; count = 4294967295 })) × (part_at (codes "1/1") ≡ Some (record { number = 1; count = 1 }))
    × (part_at (codes "0/3") ≡ None) × (part_at (codes "4/3") ≡ None) × (part_at (codes "1/4294967296") ≡ None)
    × (part_at (codes "1") ≡ None) × (part_at (codes "1/") ≡ None) × (part_at (codes "/1") ≡ None) × (part_at (codes "+1/2") ≡ None)
    × (part_at (codes "1/2/3") ≡ None) × (part_at (codes "") ≡ None)
    × AsksFor View.Plain (codes "rank") (codes "koth" ∷ codes "rank" ∷ codes "a" ∷ codes "--join" ∷ codes "b" ∷ codes "--plain" ∷ [])
    × AsksFor View.Plain (codes "rank") (codes "koth" ∷ codes "rank" ∷ codes "a" ∷ codes "--matches" ∷ codes "--table" ∷ [])
    × AsksFor View.Plain (codes "rank") (codes "koth" ∷ codes "rank" ∷ codes "a" ∷ codes "--part=2/7" ∷ codes "--both" ∷ [])
    × AreWrong View.Plain (codes "koth" ∷ codes "rank" ∷ codes "a" ∷ codes "--part=0/3" ∷ [])
    × AreWrong View.Plain (codes "koth" ∷ codes "rank" ∷ codes "a" ∷ codes "--part=1/2" ∷ codes "--matches" ∷ [])
    × AreWrong View.Plain (codes "koth" ∷ codes "rank" ∷ codes "a" ∷ codes "--part=1/2" ∷ codes "--table" ∷ [])
    × AreWrong View.Plain (codes "koth" ∷ codes "rank" ∷ codes "a" ∷ codes "--join" ∷ codes "--part=1/2" ∷ [])
    × AreWrong View.Plain (codes "koth" ∷ codes "rank" ∷ codes "a" ∷ codes "--join" ∷ codes "--both" ∷ [])
    × AreWrong View.Plain (codes "koth" ∷ codes "rank" ∷ codes "a" ∷ codes "--join" ∷ codes "--matches" ∷ [])
    × AreWrong View.Plain (codes "koth" ∷ codes "rank" ∷ codes "a" ∷ codes "--join" ∷ codes "-r5" ∷ [])
    × AreWrong View.Plain (codes "koth" ∷ codes "rank" ∷ codes "a" ∷ codes "--join" ∷ codes "--like=h" ∷ [])
unfolding clap_on_literals koth_app
parts = (
  refl,
  refl,
  refl,
  refl,
  refl,
  refl,
  refl,
  refl,
  refl,
  refl,
  refl,
  refl,
  refl,
  ((refl, (refl, refl, refl, refl, tt)), refl),
  ((refl, (refl, refl, refl, refl, tt)), refl),
  ((refl, (refl, refl, refl, refl, tt)), refl),
  inr (refl, λ clear. true≢false (sym clear.1)),
  inr (refl, λ clear. true≢false (sym clear.2)),
  inr (refl, λ clear. true≢false (sym clear.2)),
  inr (refl, λ clear. true≢false (sym clear.2)),
  inr (refl, λ clear. true≢false (sym clear.2)),
  inr (refl, λ clear. true≢false (sym clear.2)),
  inr (refl, λ clear. true≢false (sym clear.2)),
  inr (refl, λ clear. true≢false (sym clear.2)),
)

-- ---- a hill elsewhere

elsewhere : AsksFor View.Plain (codes "submit") (codes "koth" ∷ codes "submit" ∷ codes "--to" ∷ codes "hill.example:6789" ∷ codes "a.red" ∷ codes "--timeout=5" ∷ codes "-s800" ∷ [])
    × AsksFor View.Plain (codes "submit") (codes "koth" ∷ codes "submit" ∷ codes "--to=[::1]:6789" ∷ codes "-" ∷ codes "--name=a.red" ∷ codes "--like=h.hill" ∷ [])
    × AsksFor View.Plain (codes "submit") (codes "koth" ∷ codes "submit" ∷ codes "--pipe" ∷ codes "a.red" ∷ codes "--preset=nano" ∷ [])
    × AsksFor View.Plain (codes "show") (codes "koth" ∷ codes "show" ∷ codes "--to=127.0.0.1:1" ∷ [])
unfolding clap_on_literals koth_app
elsewhere = (((refl, (refl, refl, refl, refl, tt)), refl), ((refl, (refl, refl, refl, refl, tt)), refl), ((refl, (refl, refl, refl, refl, tt)), refl), ((refl, (refl, refl, refl, refl, tt)), refl))

-- the source is the one file that is named, the way is an address or a pipe, and 600 seconds may be silent
sent_words : (place_named (codes "FILE") (given_by (codes "koth" ∷ codes "submit" ∷ codes "--to=a:1" ∷ codes "a.red" ∷ [])) ≡ Place.File (codes "a.red"))
    × (first_of (codes "to") (given_by (codes "koth" ∷ codes "submit" ∷ codes "--to=a:1" ∷ codes "a.red" ∷ [])) ≡ Some (codes "a:1"))
    × (number_or 600 (one_of (codes "timeout") (given_by (codes "koth" ∷ codes "submit" ∷ codes "--to=a:1" ∷ codes "a.red" ∷ []))) ≡ 600)
    × (number_or 600 (one_of (codes "timeout") (given_by (codes "koth" ∷ codes "show" ∷ codes "--to=a:1" ∷ codes "--timeout=7" ∷ []))) ≡ 7)
    × (is_remote (given_by (codes "koth" ∷ codes "submit" ∷ codes "--pipe" ∷ codes "a.red" ∷ [])) ≡ true)
    × (is_remote (given_by (codes "koth" ∷ codes "submit" ∷ codes "a.hill" ∷ codes "a.red" ∷ [])) ≡ false)
    × (takes koth_app (codes "koth" ∷ codes "show" ∷ codes "--to=a:1" ∷ codes "--timeout=0" ∷ []) ≡ false)
    × (takes koth_app (codes "koth" ∷ codes "show" ∷ codes "--to=a:1" ∷ codes "--timeout=86401" ∷ []) ≡ false)
unfolding clap_on_literals koth_app
sent_words = (refl, refl, refl, refl, refl, refl, refl, refl)

-- a name or a number and a port, and no other text
places : (names_port (codes "hill.example:6789") ≡ true) × (names_port (codes "[::1]:65535") ≡ true) × (names_port (codes "a:065535") ≡ true)
    × (names_port (codes "127.0.0.1") ≡ false) × (names_port (codes "a:0") ≡ false) × (names_port (codes "a:65536") ≡ false) × (names_port (codes ":80") ≡ false)
    × (names_port (codes "a:") ≡ false) × (names_port (codes "a:8x") ≡ false) × (names_port (codes "[::1]") ≡ false) × (names_port (codes "") ≡ false)
places = (refl, refl, refl, refl, refl, refl, refl, refl, refl, refl, refl)

-- no hill, two hills, and a source that is missing
no_hills : AreWrong View.Plain (codes "koth" ∷ codes "submit" ∷ codes "a.red" ∷ [])
    × AreWrong View.Plain (codes "koth" ∷ codes "submit" ∷ codes "--to=a:1" ∷ codes "a.hill" ∷ codes "a.red" ∷ [])
    × AreWrong View.Plain (codes "koth" ∷ codes "submit" ∷ codes "--pipe" ∷ codes "a.hill" ∷ codes "a.red" ∷ [])
    × AreWrong View.Plain (codes "koth" ∷ codes "show" ∷ [])
    × AreWrong View.Plain (codes "koth" ∷ codes "show" ∷ codes "a.hill" ∷ codes "--to=a:1" ∷ [])
unfolding clap_on_literals koth_app
no_hills = (inr (refl, λ clear. true≢false (sym clear.3)), inr (refl, λ clear. true≢false (sym clear.3)), inr (refl, λ clear. true≢false (sym clear.3)), inr (refl, λ clear. true≢false (sym clear.3)), inr (refl, λ clear. true≢false (sym clear.3)))

-- what a hill elsewhere has not, and what a hill in a file has not
unfit : AreWrong View.Plain (codes "koth" ∷ codes "submit" ∷ codes "--to=a:1" ∷ codes "a.red" ∷ codes "--pipe" ∷ [])
    × AreWrong View.Plain (codes "koth" ∷ codes "submit" ∷ codes "--to=a:1" ∷ codes "a.red" ∷ codes "--wait=1" ∷ [])
    × AreWrong View.Plain (codes "koth" ∷ codes "submit" ∷ codes "--pipe" ∷ codes "-" ∷ [])
    × AreWrong View.Plain (codes "koth" ∷ codes "submit" ∷ codes "--pipe" ∷ codes "a.red" ∷ codes "--timeout=1" ∷ [])
    × AreWrong View.Plain (codes "koth" ∷ codes "submit" ∷ codes "a.hill" ∷ codes "a.red" ∷ codes "--timeout=1" ∷ [])
    × AreWrong View.Plain (codes "koth" ∷ codes "submit" ∷ codes "a.hill" ∷ codes "a.red" ∷ codes "--like=b.hill" ∷ [])
    × AreWrong View.Plain (codes "koth" ∷ codes "submit" ∷ codes "a.hill" ∷ codes "a.red" ∷ codes "-s80" ∷ [])
    × AreWrong View.Plain (codes "koth" ∷ codes "show" ∷ codes "--to=a:1" ∷ codes "--matches" ∷ [])
    × AreWrong View.Plain (codes "koth" ∷ codes "show" ∷ codes "--to=a:1" ∷ codes "--settings" ∷ [])
    × AreWrong View.Plain (codes "koth" ∷ codes "show" ∷ codes "--to=localhost" ∷ [])
unfolding clap_on_literals koth_app
unfit = (inr (refl, λ clear. true≢false (sym clear.3)), inr (refl, λ clear. true≢false (sym clear.3)), inr (refl, λ clear. true≢false (sym clear.3)), inr (refl, λ clear. true≢false (sym clear.3)), inr (refl, λ clear. true≢false (sym clear.3)), inr (refl, λ clear. true≢false (sym clear.3)), inr (refl, λ clear. true≢false (sym clear.3)), inr (refl, λ clear. true≢false (sym clear.3)), inr (refl, λ clear. true≢false (sym clear.3)), inr (refl, λ clear. true≢false (sym clear.3)))
