-- A command with one more subcommand.
use Rattle.std.proofs.Common.{◌∙◌, ◌||◌, Bool, ap, ap₂}
use Rattle.clap.specs.Built.{AddsSubcommand}
use Rattle.clap.specs.Simple.{App, with_subcommand}
use Rattle.clap.specs.declared.builder.command.Command.{Command}
use Rattle.command_words.specs.Grammar.{HasGrammar}

pub subcommand_added : (a b : App) (above below now : Command) → HasGrammar a above → HasGrammar b below
    → AddsSubcommand above below now → HasGrammar (with_subcommand a b.top) now
subcommand_added a b above below now is_above is_below added = record {
  app_is = added.shape is_below.local
      ∙ ap₂ with_subcommand is_above.app_is (ap (λ (app : App). app.top) is_below.app_is);
  local = added.globals ∙ ap₂ (λ (x y : Bool). x || y) is_above.local is_below.local;
}
