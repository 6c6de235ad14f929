-- The grammar of the command words, as `clap` sees it.
use Rattle.std.specs.Prelude.{◌≡◌, Some, true, false, codes}
use Rattle.clap.specs.Walk.{Rule, Text}
use Rattle.clap.specs.Simple.{App, app_of, new_app, new_rule, with_rule, with_subcommand}
use Rattle.clap.specs.declared.builder.action.ArgAction.TheVariants.{Set, SetTrue}
use Rattle.clap.specs.declared.builder.command.Command.{Command}
use Rattle.clap.specs.declared.builder.command.Command.TheViews.{out-Command}

-- an option that has to be there, with its value
abbrev pub required_option : Text → Rule
required_option name =
    record (new_rule name) { long = Some name; action = Some Set; required = true }

-- a flag that may be there
abbrev pub optional_flag : Text → Rule
optional_flag name = record (new_rule name) { long = Some name; action = Some SetTrue }

abbrev pub create_words : App
create_words = with_rule (with_rule (with_rule (new_app (codes "create"))
    (required_option (codes "parity"))) (required_option (codes "width"))) (required_option (codes "id"))

abbrev pub run_words : App
run_words = with_rule (new_app (codes "run")) (optional_flag (codes "attach"))

abbrev pub replay_words : App
replay_words = new_app (codes "replay")

abbrev pub status_words : App
status_words = new_app (codes "status")

-- the program alone, which has a version and wants a subcommand
abbrev pub program_words : App
program_words = let bare = new_app (codes "raidzx") in
    record bare { top = record bare.top { has_version = true; subcommand_required = true } }

abbrev pub command_words : App
command_words = with_subcommand (with_subcommand (with_subcommand (with_subcommand program_words
    create_words.top) run_words.top) replay_words.top) status_words.top

-- the command has this grammar, and no argument for all levels
pub record HasGrammar (app : App) (command : Command) : Type 0 where
  pub app_is : app_of command ≡ app
  pub local : (out-Command command).has_globals ≡ false
