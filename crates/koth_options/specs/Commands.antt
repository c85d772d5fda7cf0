-- The commands of `koth`, as `clap` reads them.
use Rattle.std.specs.Prelude.{◌≡◌, true, false, List, [], ◌∷◌, codes, fold, Some}
use Rattle.clap.specs.{Words.{App, Rule, Text, app_of, new_app, new_rule, with_rule, with_subcommand}, declared.builder.command.Command.Command, declared.builder.command.Command.TheViews.out-Command}
use Rattle.{clap.specs.declared.builder.action.ArgAction.ArgAction, koth_options.specs.Options.{required_rule, text_rule, with_like, with_option, with_ranged, with_settings}}

-- a command that `clap` reads as this one, with no argument that its subcommands take too
abbrev pub IsReadAs : App → Command → Type 0
IsReadAs app command = (app_of command ≡ app) × ((out-Command command).has_globals ≡ false)

-- a command that wants the name of one of its subcommands
abbrev pub wants_subcommand : App → App
wants_subcommand app = record app { top = record app.top { subcommand_required = true } }

-- a command that prints its version at `--version` and `-V`
abbrev pub with_version : App → App
with_version app = record app { top = record app.top { has_version = true } }

-- a file that has to be named
abbrev pub file_rule : Text → Rule
file_rule name = record (new_rule name) { required = true }

-- a file that may be left out
abbrev pub spare_rule : Text → Rule
spare_rule name = new_rule name

-- one source or more
abbrev pub sources_rule : Text → Rule
sources_rule name = record (file_rule name) { action = Some ArgAction.Append }

-- sources, of which there may be none
abbrev pub spare_sources_rule : Text → Rule
spare_sources_rule name = record (spare_rule name) { action = Some ArgAction.Append }

-- a source that is the input if none is named
abbrev pub source_or_input_rule : Rule
source_or_input_rule = record (new_rule (codes "SOURCE")) { defaults = codes "-" ∷ [] }

-- an option with a text, which may be given more than once
abbrev pub texts_rule : Text → Rule
texts_rule name = record (text_rule name) { action = Some ArgAction.Append }

-- an option with a text, and the one that it has if it is left out
abbrev pub defaulted_rule : Text → Text → Rule
defaulted_rule name default = record (text_rule name) { defaults = default ∷ [] }

-- the option for the file of a page, with the letter o
abbrev pub page_rule : Rule
page_rule = record (text_rule (codes "output")) { short = Some 111 }

-- a flag, which takes no value
abbrev pub flag_rule : Text → Rule
flag_rule name = record (new_rule name) { long = Some name; action = Some ArgAction.SetTrue }

abbrev pub with_file : App → Text → App
with_file app name = with_rule app (file_rule name)

abbrev pub with_spare : App → Text → App
with_spare app name = with_rule app (spare_rule name)

abbrev pub with_flag : App → Text → App
with_flag app name = with_rule app (flag_rule name)

-- the option for what messages call the input
abbrev pub with_name : App → App
with_name app = with_rule app (text_rule (codes "name"))

-- the same, and the option for another body of the `EQU` lines of a name
abbrev pub with_define : App → App
with_define app = with_rule (with_name app) (text_rule (codes "define"))

-- the option for the format of the output
abbrev pub with_format : App → App
with_format app = with_rule app (text_rule (codes "format"))

-- the options that say how output is laid out
abbrev pub with_view : App → App
with_view app = with_format (with_flag (with_flag app (codes "plain")) (codes "table"))

-- the options for a hill elsewhere: where it is, and for how many seconds its service may be silent
abbrev pub with_to : App → App
with_to app = with_ranged (with_rule app (text_rule (codes "to"))) (codes "timeout") 1 86400

abbrev pub asm_app : App
asm_app = with_like (with_flag (with_define (with_rule (new_app (codes "asm")) source_or_input_rule)) (codes "listing"))

abbrev pub check_app : App
check_app = with_like (with_rule (with_flag (with_format (with_define (with_rule (new_app (codes "check")) (sources_rule (codes "SOURCE")))))
    (codes "warnings")) (text_rule (codes "deny")))

abbrev pub fight_app : App
fight_app = with_like (with_view (with_flag (with_flag (with_flag (with_define (with_rule (with_file (new_app (codes "fight")) (codes "MINE"))
    (spare_sources_rule (codes "OTHER")))) (codes "both")) (codes "each")) (codes "many")))

abbrev pub create_app : App
create_app = with_like (with_flag (with_flag (with_file (new_app (codes "create")) (codes "FILE")) (codes "overwrite")) (codes "draw-seed"))

abbrev pub submit_app : App
submit_app = with_like (with_view (with_name (with_flag (with_to (with_ranged (with_spare (with_file (new_app (codes "submit")) (codes "FILE")) (codes "SOURCE"))
    (codes "wait") 1 3600)) (codes "pipe"))))

abbrev pub show_app : App
show_app = with_view (with_ranged (with_flag (with_flag (with_flag (with_to (with_spare (new_app (codes "show")) (codes "FILE"))) (codes "matches")) (codes "settings")) (codes "with-seed"))
    (codes "entry") 1 4294967295)

abbrev pub serve_app : App
serve_app = with_settings (with_flag (with_rule (with_flag (with_rule (with_rule (with_flag (with_rule (with_ranged (with_option (with_rule (with_option (with_ranged (with_ranged (with_rule (with_file (new_app (codes "serve"))
    (codes "FILE")) (required_rule (codes "port") 65535)) (codes "peers") 1 1024) (codes "peers-per-address") 1 1024) (codes "steps")) (text_rule (codes "listen"))) (codes "connections")) (codes "http") 0 65535)
    (texts_rule (codes "host"))) (codes "replays")) (text_rule (codes "title"))) (text_rule (codes "peers-at"))) (codes "quiet")) (text_rule (codes "log-format"))) (codes "create"))

abbrev pub session_app : App
session_app = with_option (with_ranged (with_file (new_app (codes "session")) (codes "FILE")) (codes "wait") 1 3600) (codes "steps")

abbrev pub audit_app : App
audit_app = with_format (with_file (new_app (codes "audit")) (codes "FILE"))

abbrev pub migrate_app : App
migrate_app = with_file (with_file (new_app (codes "migrate")) (codes "FILE")) (codes "NEW")

abbrev pub page_app : App
page_app = with_file (new_app (codes "page")) (codes "FILE")

-- the options for a round of a match
abbrev pub with_round : App → App
with_round app = with_flag (with_flag (with_flag (with_ranged app (codes "round") 1 1000) (codes "lost")) (codes "won")) (codes "tied")

abbrev pub replay_app : App
replay_app = with_like (with_round (with_rule (with_define (with_file (with_file (new_app (codes "replay")) (codes "MINE")) (codes "OTHER"))) page_rule))

abbrev pub trace_app : App
trace_app = with_like (with_rule (with_ranged (with_round (with_define (with_file (with_file (new_app (codes "trace")) (codes "MINE")) (codes "OTHER"))))
    (codes "last") 1 4294967295) (defaulted_rule (codes "format") (codes "text")))

abbrev pub try_app : App
try_app = with_view (with_define (with_file (with_file (new_app (codes "try")) (codes "FILE")) (codes "SOURCE")))

abbrev pub copy_app : App
copy_app = with_flag (with_file (with_file (new_app (codes "copy")) (codes "FILE")) (codes "NEW")) (codes "audit")

abbrev pub reseed_app : App
reseed_app = with_option (with_file (with_file (new_app (codes "reseed")) (codes "FILE")) (codes "NEW")) (codes "seed")

abbrev pub rank_app : App
rank_app = with_like (with_view (with_flag (with_rule (with_flag (with_flag (with_name (with_rule (new_app (codes "rank")) (sources_rule (codes "FOLDER")))) (codes "both"))
    (codes "matches")) (text_rule (codes "part"))) (codes "join")))

abbrev pub explain_app : App
explain_app = with_spare (new_app (codes "explain")) (codes "KIND")

-- the commands, in the order of the help
abbrev pub koth_commands : List App
koth_commands = asm_app ∷ check_app ∷ fight_app ∷ create_app ∷ submit_app ∷ show_app ∷ serve_app ∷ session_app ∷ audit_app
    ∷ migrate_app ∷ page_app ∷ replay_app ∷ trace_app ∷ try_app ∷ copy_app ∷ reseed_app ∷ rank_app ∷ explain_app ∷ []

-- the program: `koth`, and a command's name with its files and options
unfoldable pub koth_app : App
koth_app = fold (λ app command. with_subcommand app command.top) (wants_subcommand (with_version (new_app (codes "koth")))) koth_commands
