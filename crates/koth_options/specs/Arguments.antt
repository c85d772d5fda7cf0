-- What the tables of commands and arguments stand for. For private contracts alone.
use Rattle.std.specs.Prelude.{◌≡◌, false, List, [], ◌∷◌, codes, fold}
use Rattle.clap.specs.{Words.{App, Rule, new_app, rule_of, with_rule, with_subcommand}, declared.builder.arg.Arg.Arg}
use Rattle.koth_options.specs.{Commands.{asm_app, check_app, defaulted_rule, fight_app, file_rule, flag_rule, page_rule, source_or_input_rule, sources_rule, spare_rule, spare_sources_rule, texts_rule, wants_subcommand, with_version}, Options.{lettered_rule, option_rule, ranged_rule, required_rule, text_rule, with_like, with_settings}}
use Rattle.koth_options.specs.{declared.arguments.Argument.Argument, declared.building.Row.Row, declared.building.Takes.Takes}

-- the rule of an argument
abbrev pub rule_at : Argument → Rule
rule_at (Argument.File name help) = file_rule name.now
rule_at (Argument.Spare name help) = spare_rule name.now
rule_at Argument.SourceOrInput = source_or_input_rule
rule_at (Argument.Sources name help) = sources_rule name.now
rule_at (Argument.SpareSources name help) = spare_sources_rule name.now
rule_at (Argument.Text name value help) = text_rule name.now
rule_at (Argument.Texts name value help) = texts_rule name.now
rule_at (Argument.Defaulted name value default help) = defaulted_rule name.now default.now
rule_at (Argument.Page help) = page_rule
rule_at Argument.Port = required_rule (codes "port") 65535
rule_at (Argument.Number name help) = option_rule name.now
rule_at (Argument.Lettered name letter help) = lettered_rule name.now letter
rule_at (Argument.Ranged name least most help) = ranged_rule name.now least most
rule_at (Argument.Flag name help) = flag_rule name.now

-- an argument that `clap` reads by this rule, which no subcommand takes too
abbrev pub IsArg : Rule → Arg → Type 0
IsArg rule arg = (rule_of arg ≡ rule) × (arg.global ≡ false)

abbrev pub with_argument : App → Argument → App
with_argument app argument = with_rule app (rule_at argument)

-- the command with the options for settings that it takes
abbrev pub with_taken : Takes → App → App
with_taken Takes.Nothing app = app
with_taken Takes.Settings app = with_settings app
with_taken Takes.Like app = with_like app

-- the command of a row
abbrev pub app_at : Row → App
app_at row = with_taken row.takes (fold with_argument (new_app row.name.now) row.arguments.now)

abbrev pub with_row : App → Row → App
with_row app row = with_subcommand app (app_at row).top

-- the command with these among its own
abbrev pub with_commands : App → List App → App
with_commands app commands = fold (λ app command. with_subcommand app command.top) app commands

-- the program with its commands up to `fight`
abbrev pub commands_to_fight : App
commands_to_fight = with_commands (wants_subcommand (with_version (new_app (codes "koth")))) (asm_app ∷ check_app ∷ fight_app ∷ [])
